use Rattle.std.proofs.Common.{◌≡◌}
use Rattle.node_search.proofs.forms.frame_forms.own_forms.Given as goal

abbrev pub invariant-loop-i : goal.invariant-loop-i
invariant-loop-i l = record { height : l.forms.rows ≡ l.back.rows; width : l.forms.width ≡ l.back.width }
