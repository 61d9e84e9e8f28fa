use Rattle.std.proofs.Common.{rules, ◌≡◌, ℕ, ◌+◌, ℤ, pos, length, map, take, ap, ◌∙◌, subst, sym, arith, FitsSigned, to_z}
use Rattle.std.specs.Int.{w128}
use Rattle.std.proofs.lemmas.Int.{to_z-of_z}
use Rattle.exact_math.specs.Rational.{whole, ◌*ℚ◌, ◌≤ℚ◌}
use Rattle.exact_math.specs.RationalRing.{rationals}
use Rattle.exact_math.specs.RingLaws as Laws
use Rattle.exact_vectors.specs.Vectors.{sum}
use Rattle.form_widths.specs.Inequalities.{slack}
use Rattle.form_widths.specs.RationalOrderLaws.{le_of_equal}
use Rattle.node_point.specs.RationalPoints.{coordinates}
use Rattle.shown_widths.specs.Points.{bounded, form_of}
use Rattle.shown_widths.specs.Steps.{parts}
use Rattle.shown_widths.proofs.SlackLaws.{count_more}
use Rattle.shown_widths.proofs.side.slack_sum.Goals as goal

pub loop-point-init : goal.loop-point-init
loop-point-init c = le_of_equal (whole (pos 0)) _ (sym (Laws.mul_zero rationals (whole (pos parts))))

pub loop-point-preserved : goal.loop-point-preserved
loop-point-preserved c =
    let i = bounded (form_of c.args.columns c.args.left) c.args.bound in
    let fits : FitsSigned w128 c.in_ok-total.total = search rules in
    let amount_fits : FitsSigned w128 c.in_ok-slack_at.field-0 = search rules in
    let total_fits : FitsSigned w128 c.loop-point.total = search rules in
    let added = simp to_z-of_z at c.in_ok-total.ensures in
    let count : length c.point-item.result.numerators ≡ c.args.columns = ap length (sym c.numerators.ensures) ∙ omega (arith, c.if-numerators-columns.false) in
    let here = subst (λ (n : ℕ). whole c.in_ok-slack_at.field-0 ≤ℚ (whole (pos parts) *ℚ slack (bounded (form_of n c.args.left) c.args.bound) (coordinates c.point-item.result))) count c.in_ok-slack_at.ensures in
    simp to_z-of_z (subst (λ (z : ℤ). whole z ≤ℚ (whole (pos parts) *ℚ sum rationals (map (slack i) (map coordinates (take (c.loop-point.point-index + 1) c.args.points.now))))) (sym added.1)
    (count_more parts (slack i) coordinates c.args.points.now c.loop-point.point-index c.point-item.result (to_z w128 c.loop-point.total-bits) c.in_ok-slack_at.field-0 c.loop-point-test.true (sym c.point-item.is) c.loop-point.invariant here))
