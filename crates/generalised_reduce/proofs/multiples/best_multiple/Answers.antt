use Rattle.std.proofs.Common.{◌≡◌, suc, ◌+◌, ◌*◌, ◌<◌, length, ◌∙◌, ap, ap₂, arith, sym, subst}
use Rattle.std.proofs.lemmas.List.{length-map}
use Rattle.exact_math.specs.Rational.{whole, ◌≤ℚ◌}
use Rattle.exact_math.specs.RationalRing.{rationals}
use Rattle.exact_vectors.specs.Inequalities.{NotNegativeBy}
use Rattle.lp_dict.specs.Systems.{wholes}
use Rattle.norm_gauge.specs.Widths.{polytope_of}
use Rattle.generalised_reduce.specs.MultiplierLaws.{fraction_at, place_of}
use Rattle.generalised_reduce.specs.Reduced.{form_at, forms_of}
use Rattle.generalised_reduce.specs.ThinLaws.{width_of}
use Rattle.generalised_reduce.proofs.BestSteps.{best_of_tested, place_inside, place_is, system_wide, weights_not_negative}
use Rattle.generalised_reduce.proofs.multiples.best_multiple.Goals as goal

pub span_at-span-requires-clause-inside : goal.span_at-span-requires-clause-inside
span_at-span-requires-clause-inside c =
    let m = c.args.pair.now in
    let t = c.args.system.now.rows in
    let there : c.args.k < length (forms_of m) = omega (arith, length-map m.u wholes, c.requires.fits.inverse.height_u, c.requires.inside) in
    omega (arith, place_inside t c.args.system.now.limits (forms_of m) c.args.k _ c.args.next.now c.requires.ready.as_many_limits there c.requires.next, c.rows.ensures.count, ap length c.items.ensures)

pub span_at-span-requires-clause-not_negative : goal.span_at-span-requires-clause-not_negative
span_at-span-requires-clause-not_negative c =
    let m = c.args.pair.now in
    let t = c.args.system.now.rows in
    let there : c.args.k < length (forms_of m) = omega (arith, length-map m.u wholes, c.requires.fits.inverse.height_u, c.requires.inside) in
    subst (NotNegativeBy rationals ◌≤ℚ◌) (sym c.items.ensures) (weights_not_negative t c.args.system.now.limits (forms_of m) c.args.k _ c.args.next.now c.requires.ready.as_many_limits there c.requires.next)

pub least_multiple-requires-clause-before : goal.least_multiple-requires-clause-before
least_multiple-requires-clause-before c = width_of (polytope_of c.args.system.now.rows c.args.system.now.limits) _ _ c.args.before.now c.requires.before

pub returns-clause-best : goal.returns-clause-best
returns-clause-best c =
    let m = c.args.pair.now in
    let t = c.args.system.now.rows in
    let p = polytope_of t c.args.system.now.limits in
    let k = c.args.k in
    let inside : suc k < t.width = omega (arith, c.requires.inside) in
    let there : k < length (forms_of m) = omega (arith, length-map m.u wholes, c.requires.fits.inverse.height_u) in
    let place : 2 * c.rows.result + 2 * k ≡ place_of p k = ap (λ r. 2 * r + 2 * k) c.rows.ensures.count ∙ place_is t c.args.system.now.limits (forms_of m) k (form_at (forms_of m) (suc k)) c.args.next.now c.requires.ready.as_many_limits there c.requires.next in
    let fraction : fraction_at c.items.result.now (2 * c.rows.result + 2 * k) ≡ fraction_at c.args.next.now.below (place_of p k) = ap₂ fraction_at c.items.ensures place in
    let below : whole c.span_at-span.result.low ≤ℚ fraction_at c.args.next.now.below (place_of p k) = subst (λ f. whole c.span_at-span.result.low ≤ℚ f) fraction c.span_at-span.ensures.low in
    let above : fraction_at c.args.next.now.below (place_of p k) ≤ℚ whole c.span_at-span.result.high = subst (λ f. f ≤ℚ whole c.span_at-span.result.high) fraction c.span_at-span.ensures.high in
    best_of_tested p m k c.requires.fits.inverse inside _ _ c.in_ok-best.best.factor c.in_ok-best.best.gauge c.args.next.now (system_wide t c.rows.ensures.size) c.requires.next below above c.in_ok-best.ensures.least
