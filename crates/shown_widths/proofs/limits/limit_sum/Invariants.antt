use Rattle.std.proofs.Common.{◌≡◌, take}
use Rattle.farkas_rows.specs.Inequalities.{Inequality}
use Rattle.farkas_rows.specs.Refutes.{line_of}
use Rattle.shown_widths.specs.Limits.{limit_sum}
use Rattle.shown_widths.proofs.limits.limit_sum.Given as goal

abbrev pub invariant-loop-item : goal.invariant-loop-item
invariant-loop-item l = (inequality : Inequality) → inequality.limit ≡ l.end → l.sum ≡ limit_sum l.rows l.path inequality (line_of l.line.cut (take l.item-index l.line.items))
