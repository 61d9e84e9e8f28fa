-- The forms and the inequalities of the two sides.
use Rattle.std.proofs.Common.{◌≡◌, ℕ, ◌+◌, ◌*◌, ◌^◌, ◌<◌, ◌≤◌, List, [], ◌∷◌, length, get_or, ℤ, pos, neg_ℤ, ◌*ℤ◌, ◌<ℤ◌, nat_abs, refl, sym, ap, ap₂, ◌∙◌, arith, mul-le-mul_left, ◌-ℤ◌, FitsSigned, to_z, of_z}
use Rattle.std.specs.Prelude.{int_lt, Option, Some, None}
use Rattle.std.specs.Option.{IsSomeAnd}
use Rattle.std.specs.List.{sum_by}
use Rattle.std.proofs.lemmas.List.Sums.{sum_by-cons}
use Rattle.std.specs.Int.{w128}
use Rattle.std.proofs.lemmas.Int.{to_z-of_z}
use Rattle.std.proofs.lemmas.Bool.{cond_both}
use Rattle.exact_math.specs.Ring.{integers}
use Rattle.exact_math.specs.IntegerRing.{linear, neg_mul, zero_mul}
use Rattle.exact_vectors.specs.Vectors.{negate}
use Rattle.whole_rows.specs.declared.bounds.Bounds.{Bounds}
use Rattle.whole_rows.specs.declared.ends.End.TheVariants.{Least, Greatest}
use Rattle.whole_rows.specs.WholeRows.{reach, span}
use Rattle.whole_rows.specs.Ends.{value_at, sum_at}
use Rattle.farkas_rows.specs.NodeLaws.{length-negate}
use Rattle.farkas_rows.specs.Refutes.{inequality_weight}
use Rattle.proof_tree.specs.Trees.{IsOfSize}
use Rattle.plain_slices.specs.declared.side.Side.{Side}
use Rattle.plain_slices.specs.declared.side.Side.TheVariants.{Upper, Lower}
use Rattle.plain_slices.specs.Sides.{side_factor, side_form, IsOutOfReach}
use Rattle.plain_slices.proofs.UnitLaws.{negate-at}
use Rattle.plain_slices.proofs.BalanceLaws.{factor_size}

pub length-side_form : (side : Side) (form : List ℤ) → length (side_form side form) ≡ length form
length-side_form Upper form = refl
length-side_form Lower form = length-negate form

pub side_form-at : (side : Side) (form : List ℤ) (k : ℕ) → get_or (side_form side form) k (pos 0) ≡ side_factor side (get_or form k (pos 0))
side_form-at Upper form k = refl
side_form-at Lower form k = negate-at form k

pub side_factor-size : (side : Side) (factor : ℤ) → nat_abs (side_factor side factor) ≡ nat_abs factor
side_factor-size Upper factor = refl
side_factor-size Lower factor = omega linear

-- a turned form spans as much
pub span-side_form : (side : Side) (form : List ℤ) (bounds : List Bounds) → span (side_form side form) bounds ≡ span form bounds
span-side_form Upper form bounds = refl
span-side_form Lower [] bounds = refl
span-side_form Lower (a ∷ form) [] = refl
span-side_form Lower (a ∷ form) (b ∷ bounds) =
    let e : nat_abs (neg_ℤ a) ≡ nat_abs a = omega linear in
    ap₂ {A = ℕ} {B = ℕ} {C = ℕ} (λ x y. x + y) (ap (λ (n : ℕ). n * reach b) e) (span-side_form Lower form bounds)

-- the least product with a turned factor is minus the greatest product
turned_product : (a : ℤ) (b : Bounds) → neg_ℤ a *ℤ value_at Least (neg_ℤ a) b ≡ neg_ℤ (a *ℤ value_at Greatest a b)
turned_product a b = cond_both (int_lt (neg_ℤ a) (pos 0)) b.high b.low (λ v. neg_ℤ a *ℤ v ≡ neg_ℤ (a *ℤ value_at Greatest a b))
    (λ e. cond_both (int_lt a (pos 0)) b.low b.high (λ w. neg_ℤ a *ℤ b.high ≡ neg_ℤ (a *ℤ w)) (λ f. absurd (omega linear)) (λ f. neg_mul a b.high))
    (λ e. cond_both (int_lt a (pos 0)) b.low b.high (λ w. neg_ℤ a *ℤ b.low ≡ neg_ℤ (a *ℤ w)) (λ f. neg_mul a b.low)
    (λ f. let z : a ≡ pos 0 = omega linear in neg_mul a b.low ∙ ap neg_ℤ (ap (λ (t : ℤ). t *ℤ b.low) z ∙ zero_mul b.low ∙ sym (zero_mul b.high) ∙ ap (λ (t : ℤ). t *ℤ b.high) (sym z))))

-- so is the least sum of a turned form
pub sum_at-turned : (form : List ℤ) (bounds : List Bounds) → sum_at Least (negate integers form) bounds ≡ neg_ℤ (sum_at Greatest form bounds)
sum_at-turned [] bounds = refl
sum_at-turned (a ∷ form) [] = refl
sum_at-turned (a ∷ form) (b ∷ bounds) = omega (linear, turned_product a b, sum_at-turned form bounds)

-- the factor that is worked with in code
pub code_factor : (side : Side) (form : List ℤ) (k : ℕ) (result : ℤ) → FitsSigned w128 (get_or form k (pos 0)) → FitsSigned w128 result → result ≡ side_factor side (to_z w128 (of_z w128 (get_or form k (pos 0)))) → to_z w128 (of_z w128 result) ≡ get_or (side_form side form) k (pos 0)
code_factor side form k result fits result_fits e = to_z-of_z w128 result result_fits ∙ e ∙ ap (side_factor side) (to_z-of_z w128 (get_or form k (pos 0)) fits) ∙ sym (side_form-at side form k)

-- its size
pub code_factor-size : (side : Side) (form : List ℤ) (bounds : List Bounds) (k : ℕ) → length form ≡ length bounds → k < length form → span (side_form side form) bounds ≤ 2 ^ 96 → nat_abs (get_or form k (pos 0)) ≤ 2 ^ 96
code_factor-size side form bounds k e h light = omega (arith, span-side_form side form bounds, factor_size form bounds k e h)

-- a lower side above the greatest sum is out of reach
pub lower-out : (form : List ℤ) (low high : Option ℤ) (bounds : List Bounds) → IsSomeAnd low (λ side. sum_at Greatest form bounds <ℤ side) → IsOutOfReach Lower form low high bounds
lower-out form None high bounds h = h
lower-out form (Some side) high bounds h = omega (linear, sum_at-turned form bounds, h)

-- the sizes of a form's factors come to no more than its span
pub sizes_below_span : (form : List ℤ) (bounds : List Bounds) → length form ≡ length bounds → sum_by nat_abs form ≤ span form bounds
sizes_below_span [] bounds e = omega arith
sizes_below_span (a ∷ form) [] e = absurd (omega arith)
sizes_below_span (a ∷ form) (b ∷ bounds) e =
    let one : 1 ≤ reach b = omega arith in
    omega (arith, sum_by-cons nat_abs a form, mul-le-mul_left (nat_abs a) one, sizes_below_span form bounds (omega arith))

-- so an inequality with a limit that is not large has no large weight
pub weight_small : (form : List ℤ) (bounds : List Bounds) (limit : ℤ) → length form ≡ length bounds → span form bounds ≤ 2 ^ 96 → nat_abs limit ≤ 2 ^ 99 → inequality_weight (record { factors = form; limit = limit }) ≤ 2 ^ 100
weight_small form bounds limit e light small = omega (arith, sizes_below_span form bounds e)

pub cut_size : (value : ℤ) → IsOfSize (2 ^ 97) value → nat_abs (value -ℤ pos 1) ≤ 2 ^ 99
cut_size value h = omega (linear, h.0, h.1)
