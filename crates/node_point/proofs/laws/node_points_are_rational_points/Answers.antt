use Rattle.node_point.specs.RationalPointLaws.{point-rational, rational-point}
use Rattle.node_point.proofs.laws.node_points_are_rational_points.Goals as goal

pub returns : goal.returns
returns c = λ rows path cut x positive. (point-rational rows path cut x.numerators x.denominator, rational-point rows path cut x.numerators x.denominator positive)
