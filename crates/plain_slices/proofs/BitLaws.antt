-- Numbers that keep their value in 128 bits.
use Rattle.std.proofs.Common.{◌≡◌, ◌^◌, ◌≤◌, ℤ, pos, neg_ℤ, ◌+ℤ◌, ◌-ℤ◌, nat_abs, refl, ap, ◌∙◌, arith, FitsSigned, to_z, of_z}
use Rattle.std.specs.Int.{w128}
use Rattle.std.proofs.lemmas.Int.{to_z-of_z, fits_signed_from_abs}
use Rattle.exact_math.specs.IntegerRing.{linear}
use Rattle.proof_tree.specs.Trees.{IsOfSize}

-- small numbers fit
pub small_fits : (z : ℤ) → nat_abs z ≤ 2 ^ 126 → FitsSigned w128 z
small_fits z h = fits_signed_from_abs w128 z (omega arith)

-- so do those between two small limits
pub sized_fits : (z : ℤ) → IsOfSize (2 ^ 98) z → FitsSigned w128 z
sized_fits z h = small_fits z (omega (linear, h.0, h.1))

pub sized_fits_negated : (z : ℤ) → IsOfSize (2 ^ 98) z → FitsSigned w128 (neg_ℤ z)
sized_fits_negated z h = small_fits (neg_ℤ z) (omega (linear, h.0, h.1))

-- the sign that is turned in code
pub bits-negated : (z : ℤ) → FitsSigned w128 z → FitsSigned w128 (neg_ℤ z) → to_z w128 (of_z w128 (pos 0 -ℤ to_z w128 (of_z w128 z))) ≡ neg_ℤ z
bits-negated z f g =
    let e : pos 0 -ℤ z ≡ neg_ℤ z = omega linear in
    ap (λ y. to_z w128 (of_z w128 (pos 0 -ℤ y))) (to_z-of_z w128 z f) ∙ ap (λ y. to_z w128 (of_z w128 y)) e ∙ to_z-of_z w128 (neg_ℤ z) g

pub sized_abs : (z : ℤ) → IsOfSize (2 ^ 98) z → nat_abs z ≤ 2 ^ 100
sized_abs z h = omega (linear, h.0, h.1)

-- how many values lie between two bounds, as the code counts them
pub bits-count : (high low : ℤ) → nat_abs high ≤ 2 ^ 96 → nat_abs low ≤ 2 ^ 96 → FitsSigned w128 (to_z w128 (of_z w128 (to_z w128 (of_z w128 high) -ℤ to_z w128 (of_z w128 low))) +ℤ pos 1) × (to_z w128 (of_z w128 (to_z w128 (of_z w128 (to_z w128 (of_z w128 high) -ℤ to_z w128 (of_z w128 low))) +ℤ pos 1)) ≡ high -ℤ low +ℤ pos 1)
bits-count high low h l =
    let fits_high : FitsSigned w128 high = small_fits high (omega arith) in
    let fits_low : FitsSigned w128 low = small_fits low (omega arith) in
    let fits_less : FitsSigned w128 (high -ℤ low) = small_fits (high -ℤ low) (omega linear) in
    let fits_count : FitsSigned w128 (high -ℤ low +ℤ pos 1) = small_fits (high -ℤ low +ℤ pos 1) (omega linear) in
    (rw (to_z-of_z w128 high fits_high, to_z-of_z w128 low fits_low, to_z-of_z w128 (high -ℤ low) fits_less) fits_count, rw (to_z-of_z w128 high fits_high, to_z-of_z w128 low fits_low, to_z-of_z w128 (high -ℤ low) fits_less, to_z-of_z w128 (high -ℤ low +ℤ pos 1) fits_count) refl)

pub count_back : (high low : ℤ) → low +ℤ (high -ℤ low +ℤ pos 1) ≡ high +ℤ pos 1
count_back high low = omega linear
