use Rattle.std.proofs.Common.{◌≡◌, ◌+◌}
use Rattle.node_search.proofs.forms.frame_forms.without_first_row.Given as goal

abbrev pub invariant-loop-i : goal.invariant-loop-i
invariant-loop-i g l = record { height : l.rest.rows + 1 ≡ l.rows; width : l.rest.width ≡ l.from.width; rows : l.rows ≡ l.from.rows }
