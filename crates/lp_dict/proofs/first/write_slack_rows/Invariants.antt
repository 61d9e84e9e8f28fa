use Rattle.std.proofs.Common.{◌≡◌, ◌+◌, ◌*◌, length, take}
use Rattle.exact_vectors.specs.Matrices.{rows_of}
use Rattle.lp_dict.specs.Dictionaries.{slack_rows}
use Rattle.lp_dict.specs.Systems.{left_sides, wholes}
use Rattle.lp_dict.proofs.first.write_slack_rows.Given as goal

abbrev pub invariant-loop-i : goal.invariant-loop-i
invariant-loop-i l =
    (l.table.rows ≡ l.rows.rows + 1) × (l.table.width ≡ l.rows.width + 1) × (length l.table.items ≡ l.table.rows * l.table.width)
    × (take l.i (rows_of l.table.width l.table.rows l.table.items) ≡ take l.i (slack_rows (left_sides l.rows) (wholes l.limits)))
