use Rattle.std.proofs.Common.{map}
use Rattle.mps_fields.specs.LineViews.{line_view}
use Rattle.mps_model.proofs.OnTexts.ReaderScanLaws.{IsReadTo}
use Rattle.mps_model.proofs.reading.read.Given as goal

abbrev pub invariant-loop-line : goal.invariant-loop-line
invariant-loop-line l =
    (goal.iterator-loop-line).can_next l.line-iterator ×
    (goal.iterator-loop-line).is_finite l.line-iterator ×
    IsReadTo l.layout l.text (map line_view l.yielded) l.line-iterator l.reader l.count
