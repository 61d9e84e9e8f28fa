use Rattle.std.proofs.Common.{◌≡◌, pos, SFits, negsuc, ◌+ℤ◌, ◌-ℤ◌, ◌*ℤ◌, ◌≤ℤ◌, ◌<ℤ◌, to_z-of_z, rules, sym, ap₂, subst, ◌∙◌}
use Rattle.std.specs.Int.{w128}
use Rattle.exact_math.specs.IntegerRing.{linear}
use Rattle.lattice_reduce.proofs.NearestSteps.{quotient_and_rest, rest_bounds, difference_fits, complement_fits, nearest_above, nearest_below, option_of_neg}
use Rattle.lattice_reduce.proofs.conditions.minus_nearest.Goals as goal

pub returns-then-d-rest : goal.returns-then-d-rest
returns-then-d-rest c =
    let fl : SFits w128 c.args.l = c.ranges.l in
    let fd : SFits w128 c.args.d = c.ranges.d in
    let fq : SFits w128 c.div_euclid-quotient.result = search rules in
    let fr : SFits w128 c.rem_euclid-rest.result = search rules in
    let quotient = simp to_z-of_z at c.div_euclid-quotient.ensures in
    let rest = simp to_z-of_z at c.rem_euclid-rest.ensures.value in
    let is : c.args.l ≡ c.div_euclid-quotient.result *ℤ c.args.d +ℤ c.rem_euclid-rest.result = quotient_and_rest c.args.l c.args.d c.requires ∙ ap₂ (λ x y. x *ℤ c.args.d +ℤ y) (sym quotient) (sym rest) in
    let bounds = rest_bounds c.args.l c.args.d c.requires in
    let least : pos 0 ≤ℤ c.rem_euclid-rest.result = subst (λ z. pos 0 ≤ℤ z) (sym rest) bounds.0 in
    let below : c.rem_euclid-rest.result <ℤ c.args.d = subst (λ z. z <ℤ c.args.d) (sym rest) bounds.1 in
    let fits : SFits w128 (c.args.d -ℤ c.rem_euclid-rest.result) = difference_fits c.args.d c.rem_euclid-rest.result fd least below in
    let fits' : SFits w128 (negsuc 0 -ℤ c.div_euclid-quotient.result) = complement_fits c.div_euclid-quotient.result fq in
    let larger = simp to_z-of_z at c.if-d-rest.true in
    simp to_z-of_z (nearest_above c.args.l c.args.d c.div_euclid-quotient.result c.rem_euclid-rest.result is below (omega linear))

pub returns-else-d-rest : goal.returns-else-d-rest
returns-else-d-rest c =
    let fl : SFits w128 c.args.l = c.ranges.l in
    let fd : SFits w128 c.args.d = c.ranges.d in
    let fq : SFits w128 c.div_euclid-quotient.result = search rules in
    let fr : SFits w128 c.rem_euclid-rest.result = search rules in
    let quotient = simp to_z-of_z at c.div_euclid-quotient.ensures in
    let rest = simp to_z-of_z at c.rem_euclid-rest.ensures.value in
    let is : c.args.l ≡ c.div_euclid-quotient.result *ℤ c.args.d +ℤ c.rem_euclid-rest.result = quotient_and_rest c.args.l c.args.d c.requires ∙ ap₂ (λ x y. x *ℤ c.args.d +ℤ y) (sym quotient) (sym rest) in
    let bounds = rest_bounds c.args.l c.args.d c.requires in
    let least : pos 0 ≤ℤ c.rem_euclid-rest.result = subst (λ z. pos 0 ≤ℤ z) (sym rest) bounds.0 in
    let below : c.rem_euclid-rest.result <ℤ c.args.d = subst (λ z. z <ℤ c.args.d) (sym rest) bounds.1 in
    let fits : SFits w128 (c.args.d -ℤ c.rem_euclid-rest.result) = difference_fits c.args.d c.rem_euclid-rest.result fd least below in
    let smaller = simp to_z-of_z at c.if-d-rest.false in
    option_of_neg c.checked_neg.result c.args.l c.args.d c.div_euclid-quotient.result (nearest_below c.args.l c.args.d c.div_euclid-quotient.result c.rem_euclid-rest.result is least (omega linear)) (simp to_z-of_z at c.checked_neg.ensures)
