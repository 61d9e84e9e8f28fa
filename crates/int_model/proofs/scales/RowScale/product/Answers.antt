use Rattle.std.proofs.Common.{sym, ap, ◌∙◌}
use Rattle.exact_math.specs.Rational.{◌*ℚ◌}
use Rattle.exact_math.specs.RationalRing.{rationals}
use Rattle.exact_math.specs.RingLaws as Laws
use Rattle.int_model.proofs.scales.RowScale.product.Goals as goal

pub returns-then-self-clause-value : goal.returns-then-self-clause-value
returns-then-self-clause-value c =
    sym (ap (λ times. times *ℚ c.args.side) (c.requires c.if-self.true) ∙ Laws.one_mul rationals c.args.side)
