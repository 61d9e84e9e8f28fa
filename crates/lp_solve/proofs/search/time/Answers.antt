use Rattle.std.proofs.Common.{subst, sym}
use Rattle.lp_solve.specs.Rule.{IsNegative}
use Rattle.lp_solve.proofs.SoonestFound.{fall_not_zero}
use Rattle.lp_solve.proofs.search.time.Goals as goal

pub div-requires : goal.div-requires
div-requires c = fall_not_zero c.entry.result c.neg-fall.result c.neg-fall.ensures (subst IsNegative (sym c.entry.ensures) c.requires.limits.negative)
