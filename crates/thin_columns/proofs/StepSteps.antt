-- The step of a width, and the slack at a point where a row is least.
use Rattle.std.proofs.Common.{◌≡◌, ℕ, ◌+◌, ◌*◌, ◌-◌, ◌^◌, ◌<◌, ◌≤◌, ℤ, pos, negsuc, nat_abs, ◌*ℤ◌, ◌≤ℤ◌, List, [], ◌∷◌, length, get_or, refl, sym, ap, ◌∙◌, subst, subst₂, arith}
use Rattle.std.proofs.Math.Nat.{mul_assoc, mul_comm, mul-le-mul_left, mul-le-mul_right}
use Rattle.exact_math.specs.IntegerRing.{linear}
use Rattle.exact_math.specs.Rational.{ℚ, whole, frac, ratio, inv_ℚ, ◌-ℚ◌, ◌*ℚ◌, ◌/ℚ◌, ◌≤ℚ◌}
use Rattle.exact_math.specs.RationalLaws.{den_pos, frac-self, pos-ne-zero}
use Rattle.exact_math.specs.RationalOrder.{le_frac, le_trans, num_nonneg, mul_le, mul_nonneg, whole_le}
use Rattle.exact_math.specs.RationalRing.{rationals, div_mul, whole_mul}
use Rattle.exact_math.specs.RingLaws as Laws
use Rattle.exact_math.specs.RingSolver.{ring, reads}
use Rattle.exact_vectors.specs.Vectors.{dot}
use Rattle.form_widths.specs.RationalOrderLaws.{inverse-nonneg}
use Rattle.lp_dict.specs.Systems.{IsPoint, left_sides, wholes}
use Rattle.lp_solve.specs.Certificates.{ShowsLeast}
use Rattle.norm_gauge.specs.Widths.{Has, polytope_of}
use Rattle.spaces.specs.Tables.{Table, row_at}
use Rattle.thin_columns.specs.Steps.{IsSlackIn, IsStepOf, inequality_at}
use Rattle.thin_columns.proofs.RoomSteps.{whole-num}

-- the number under a width
pub twice_some : (power : ℕ) → 0 < power → (whole (pos (2 * power))).num ≡ pos 0 → ⊥
twice_some power some e = pos-ne-zero (2 * power) (omega arith) (sym (whole-num (pos (2 * power))) ∙ e)

pub step_is_of : (r count power : ℕ) (width room step : ℚ) → 0 < power → power ≤ 4 ^ (r - 1) → whole (pos 0) ≤ℚ width → room ≡ width /ℚ whole (pos (2 * power)) → step ≡ room *ℚ whole (pos count) → IsStepOf r count width step
step_is_of r count power width room step some most nonneg room_is step_is = record {
  room = room;
  not_negative = room_nonneg;
  step_is = step_is;
  within =
      subst₂ ◌≤ℚ◌ (regroup room (whole (pos power)) ∙ ap (λ q. room *ℚ q) (sym (whole_mul (pos 2) (pos power))) ∙ back) (other room (whole (pos (4 ^ (r - 1)))))
      (mul_le (whole (pos 2) *ℚ room) (whole (pos power)) (whole (pos (4 ^ (r - 1)))) (mul_nonneg (whole (pos 2)) room (whole_le (pos 0) (pos 2) (omega linear)) room_nonneg) (whole_le (pos power) (pos (4 ^ (r - 1))) (at_most power (4 ^ (r - 1)) most)));
}
  where
    at_most : (a b : ℕ) → a ≤ b → pos a ≤ℤ pos b
    at_most a b h = omega linear

    under : 0 < 2 * power
    under = omega arith

    room_nonneg : whole (pos 0) ≤ℚ room
    room_nonneg =
        subst (λ q. whole (pos 0) ≤ℚ q) (ap (λ q. width *ℚ q) (Laws.one_mul rationals (inv_ℚ (whole (pos (2 * power))))) ∙ sym room_is) (mul_nonneg width (whole (pos 1) /ℚ whole (pos (2 * power))) nonneg (inverse-nonneg (2 * power) under))

    back : room *ℚ whole (pos (2 * power)) ≡ width
    back = ap (λ q. q *ℚ whole (pos (2 * power))) room_is ∙ div_mul width (whole (pos (2 * power))) (twice_some power some)

    regroup : (r p : ℚ) → (whole (pos 2) *ℚ r) *ℚ p ≡ r *ℚ (whole (pos 2) *ℚ p)
    regroup r p = ring rationals (r ∷ p ∷ []) (search reads depth 30) (search reads depth 30) refl

    other : (r p : ℚ) → (whole (pos 2) *ℚ r) *ℚ p ≡ p *ℚ (whole (pos 2) *ℚ r)
    other r p = ring rationals (r ∷ p ∷ []) (search reads depth 30) (search reads depth 30) refl

-- the greatest slack, from the least value of the row
pub slack_is : (rows : Table ℤ) (limits form : List ℤ) (i : ℕ) (point : List ℚ) (value slack : ℚ) (multipliers : List ℚ) → form ≡ row_at rows i → length (wholes form) ≡ rows.width → ShowsLeast (length (wholes form)) (left_sides rows) (wholes limits) (wholes form) point value multipliers → slack ≡ whole (get_or limits i (pos 0)) -ℚ value → IsSlackIn (Has (polytope_of rows limits)) (inequality_at rows limits i) slack
slack_is rows limits form i point value slack multipliers is long shows e = record {
  point = point;
  inside = subst (λ (n : ℕ). IsPoint n (left_sides rows) (wholes limits) point) long shows.meets;
  value_is = e ∙ ap (λ q. whole (get_or limits i (pos 0)) -ℚ q) (shows.at_point ∙ ap (λ (row : List ℤ). dot rationals (wholes row) point) is);
}

-- the step of a number that is at least the width is one of the width
pub step_of_more : (r count : ℕ) (width more step : ℚ) → width ≤ℚ more → IsStepOf r count more step → IsStepOf r count width step
step_of_more r count width more step le of = record {
  room = of.room;
  not_negative = of.not_negative;
  step_is = of.step_is;
  within = le_trans width more _ le of.within;
}

-- the terms of a fraction over a number, the first rounded up and the second down
rounded_terms : (n d u q b : ℕ) → n ≤ (q + 1) * u → b * u ≤ d → n * b ≤ (q + 1) * d
rounded_terms n d u q b over under =
    let first : n * b ≤ ((q + 1) * u) * b = mul-le-mul_right b over in
    let second : (q + 1) * (b * u) ≤ (q + 1) * d = mul-le-mul_left (q + 1) under in
    let same : ((q + 1) * u) * b ≡ (q + 1) * (b * u) = mul_assoc (q + 1) u b ∙ ap (λ t. (q + 1) * t) (mul_comm u b) in
    omega (arith, first, second, same)

-- the number with such terms is no less
pub rounded_most : (width : ℚ) (u q b : ℕ) → whole (pos 0) ≤ℚ width → 0 < b → nat_abs width.num ≤ (q + 1) * u → b * u ≤ width.den → width ≤ℚ ratio (pos (q + 1)) (pos b)
unfolding ratio
rounded_most width u q b nonneg some over under =
    subst (λ w. w ≤ℚ frac (pos (q + 1)) b) (frac-self width)
    (le_frac width.num (pos (q + 1)) width.den b (den_pos width) some (cross width.num (num_nonneg width nonneg) (rounded_terms (nat_abs width.num) width.den u q b over under)))
  where
    cross : (z : ℤ) → pos 0 ≤ℤ z → nat_abs z * b ≤ (q + 1) * width.den → (z *ℤ pos b) ≤ℤ (pos (q + 1) *ℤ pos width.den)
    cross (pos n) positive h = omega (linear, h)
    cross (negsuc n) positive h = absurd (omega linear)
