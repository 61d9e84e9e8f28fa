use Rattle.std.proofs.Common.{ap, ◌∙◌}
use Rattle.std.proofs.lemmas.Int.{to_z-of_z}
use Rattle.std.specs.Int.{w128}
use Rattle.exact_math.specs.Rational.{frac}
use Rattle.exact_math.specs.RationalCode.{frac-lowest}
use Rattle.frac128.proofs.frac.Frac.of_terms.Goals as goal

pub returns-clause-num : goal.returns-clause-num
returns-clause-num c =
    ap (λ z. (frac z c.args.den).num) (to_z-of_z w128 c.args.num c.ranges.num) ∙ (frac-lowest c.args.num c.args.den c.requires.positive c.requires.lowest).0

pub returns-clause-den : goal.returns-clause-den
returns-clause-den c =
    ap (λ z. (frac z c.args.den).den) (to_z-of_z w128 c.args.num c.ranges.num) ∙ (frac-lowest c.args.num c.args.den c.requires.positive c.requires.lowest).1
