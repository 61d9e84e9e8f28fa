use Rattle.std.proofs.Common.{◌≡◌, ◌+◌}
use Rattle.node_search.proofs.forms.frame_forms.without_first_column.Given as goal

abbrev pub invariant-loop-i : goal.invariant-loop-i
invariant-loop-i g l = record { height : l.rest.rows ≡ l.from.rows; width : l.rest.width + 1 ≡ l.width; columns : l.width ≡ l.from.width }
