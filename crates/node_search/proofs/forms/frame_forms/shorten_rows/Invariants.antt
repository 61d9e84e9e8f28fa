use Rattle.std.proofs.Common.{◌≡◌}
use Rattle.node_search.proofs.forms.frame_forms.shorten_rows.Given as goal

abbrev pub invariant-loop-i : goal.invariant-loop-i
invariant-loop-i l = record { height : l.forms.rows ≡ l.i-end; width : l.forms.width ≡ l.initial.forms.width }
