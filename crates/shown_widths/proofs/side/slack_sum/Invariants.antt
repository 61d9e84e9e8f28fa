use Rattle.std.proofs.Common.{pos, map, take}
use Rattle.exact_math.specs.Rational.{whole, ◌*ℚ◌, ◌≤ℚ◌}
use Rattle.exact_math.specs.RationalRing.{rationals}
use Rattle.exact_vectors.specs.Vectors.{sum}
use Rattle.form_widths.specs.Inequalities.{slack}
use Rattle.node_point.specs.RationalPoints.{coordinates}
use Rattle.shown_widths.specs.Points.{bounded, form_of}
use Rattle.shown_widths.specs.Steps.{parts}
use Rattle.shown_widths.proofs.side.slack_sum.Given as goal

abbrev pub invariant-loop-point : goal.invariant-loop-point
invariant-loop-point l = whole l.total ≤ℚ (whole (pos parts) *ℚ sum rationals (map (slack (bounded (form_of l.columns l.left) l.bound)) (map coordinates (take l.point-index l.points))))
