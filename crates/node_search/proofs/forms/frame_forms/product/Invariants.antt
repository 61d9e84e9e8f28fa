use Rattle.std.proofs.Common.{◌≡◌}
use Rattle.node_search.proofs.forms.frame_forms.product.Given as goal

abbrev pub invariant-loop-i : goal.invariant-loop-i
invariant-loop-i g l = record { height : l.all.rows ≡ l.left.rows; width : l.all.width ≡ l.initial.all.width }
