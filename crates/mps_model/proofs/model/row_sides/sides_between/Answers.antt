use Rattle.std.proofs.Common.{true, false, sym, ◌∙◌}
use Rattle.mps_model.proofs.OnModel.RangedSideLaws.{sides_by_end}
use Rattle.mps_model.proofs.model.row_sides.sides_between.Goals as goal

pub returns-then-lt : goal.returns-then-lt
returns-then-lt c = λ step e. sides_by_end c.args.side c.args.end step true e (sym c.lt.ensures ∙ c.if-lt.true)

pub returns-else-lt : goal.returns-else-lt
returns-else-lt c = λ step e. sides_by_end c.args.side c.args.end step false e (sym c.lt.ensures ∙ c.if-lt.false)
