use Rattle.std.proofs.Common.{◌≡◌, ◌++◌}
use Rattle.std.specs.Iterator.Adapters.{zip_first, zip_second}
use Rattle.std.specs.Slice.Iter.{iter_rest}
use Rattle.solve_cli.specs.Report.{report_of, point_lines}
use Rattle.solve_cli.proofs.report.put_points.Given as goal

abbrev pub invariant-loop-column : goal.invariant-loop-column
invariant-loop-column l =
    l.text.items ++ report_of (point_lines (iter_rest (zip_first l.column-iterator)) (iter_rest (zip_second l.column-iterator)))
    ≡ l.fn.text.items ++ report_of (point_lines l.columns l.point)
