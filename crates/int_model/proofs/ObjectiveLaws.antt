-- What the objective weighs, and what makes a value of a cut value.
use Rattle.std.proofs.Common.{◌≡◌, ◌≢◌, inl, inr, ℕ, zero, suc, ◌+◌, ◌*◌, ◌/◌, ◌<◌, ◌≤◌, ◌^◌, List, [], ◌∷◌, length, map, get_or, ℤ, pos, ◌*ℤ◌, ◌<ℤ◌, nat_abs, refl, sym, ap, ap₂, subst, ◌∙◌, arith, mul_comm, mul_assoc, mul-pos, mul-zero}
use Rattle.std.specs.Int.{◌∣◌}
use Rattle.std.proofs.Math.Nat.{mul-div_cancel', mul-le-mul_left, mul-le-mul_right}
use Rattle.std.proofs.lemmas.Nat.Gcd.{dvd_trans, dvd_refl, le_of_dvd}
use Rattle.std.proofs.lemmas.List.{length-map}
use Rattle.exact_math.specs.Gcd.{gcd, lcm}
use Rattle.exact_math.specs.GcdLaws.{gcd_dvd_left, gcd_dvd_right, gcd-zero}
use Rattle.exact_math.specs.Rational.{ℚ, whole, frac, ratio, inv_ℚ, ◌*ℚ◌}
use Rattle.exact_math.specs.IntegerRing.{expand, linear}
use Rattle.exact_math.specs.IntegerOrder.{abs_mul}
use Rattle.exact_math.specs.RationalLaws.{frac-mul, same_frac, whole-frac, num_zero}
use Rattle.exact_math.specs.RationalRing.{rationals, mul_inv}
use Rattle.exact_math.specs.RationalRing as ring
use Rattle.exact_math.specs.RingLaws as Laws
use Rattle.exact_math.specs.RationalOrder as order
use Rattle.exact_math.specs.RationalFloor.{whole-is}
use Rattle.exact_math.specs.LcmLaws.{dvd_lcm_left, dvd_lcm_right}
use Rattle.frac128.specs.Range.{ProductInRange}
use Rattle.whole_rows.specs.declared.bounds.Bounds.{Bounds}
use Rattle.int_model.specs.declared.model.Item.{Item}
use Rattle.int_model.specs.declared.model.Model.{Model}
use Rattle.int_model.specs.declared.scales.RowScale.{RowScale}
use Rattle.int_model.specs.declared.objective.ValueTerms.{ValueTerms}
use Rattle.whole_rows.specs.WholeRows.{reach, span, IsHeavy}
use Rattle.whole_rows.specs.WeightLaws.{factor_le_term, span-term_le}
use Rattle.int_model.specs.Scale.{common_divisor, common_denominator, common_numerator, over_or_one, scale, scaled}
use Rattle.int_model.specs.IntegerRows.{coefficients_of, integer_rows, objective_of, cost, IsDistinctBelow}
use Rattle.int_model.specs.ItemFactors.{factors_in, LeavesRangeAt}
use Rattle.int_model.specs.ObjectiveValues.{value_factor, MakesValues}
use Rattle.int_model.specs.Large.{multiple, objective_numbers, objective_weight, IsLargeObjective}
use Rattle.int_model.proofs.ScaleLaws.{not_zero, cancel, scale_pos, scaled-primitive, whole_product, zero_from_dvd, common_denominator_pos}
use Rattle.int_model.proofs.MultipleLaws.{multiple_is, heavy_from_product, scaled_at}
use Rattle.int_model.proofs.LargeLaws.{box_long, coefficients_long}
use Rattle.int_model.proofs.ItemLaws.{same_denominator}
use Rattle.int_model.proofs.RowLaws.{some_from_numerator, IsScaleOf, products_are_scaled}

-- ---- multiples and whole coefficients

-- whole numbers that are equal as rational numbers
same_whole : (x y : ℤ) → whole x ≡ whole y → x ≡ y
same_whole x y e = sym (whole-is x).1 ∙ ap (λ (q : ℚ). q.num) e ∙ (whole-is y).1

-- the factor times the scale is the divisor
factor_times : (divisor l g : ℕ) → l ∣ divisor → divisor / l * suc g * l ≡ divisor * suc g
factor_times divisor l g h =
    mul_comm (divisor / l * suc g) l ∙ sym (mul_assoc l (divisor / l) (suc g)) ∙ ap (λ k. k * suc g) (mul-div_cancel' l h)

factor_scale : (divisor l g : ℕ) → l ∣ divisor → whole (pos (divisor / l * suc g)) *ℚ frac (pos l) (suc g) ≡ whole (pos divisor)
factor_scale divisor l g h =
    ap (λ t. t *ℚ frac (pos l) (suc g)) (whole-frac (pos (divisor / l * suc g))) ∙ frac-mul (pos (divisor / l * suc g)) (pos l) 1 (suc g) (omega arith) (omega arith) ∙ same_frac (pos (divisor / l * suc g) *ℤ pos l) (pos divisor) (1 * suc g) 1 (omega arith) (omega arith) (ap pos (cross (divisor / l * suc g * l) divisor (suc g) (factor_times divisor l g h))) ∙ sym (whole-frac (pos divisor))
  where
    cross : (m d k : ℕ) → m ≡ d * k → m * 1 ≡ d * (1 * k)
    cross m d k e = omega (arith, e)

-- the divisor times a coefficient is the factor times the whole coefficient
times_scaled : (divisor l g : ℕ) (q : ℚ) → l ∣ divisor → q.den ∣ l → g ∣ nat_abs q.num → multiple divisor q ≡ pos (value_factor divisor l g) *ℤ (over_or_one l g *ℚ q).num
times_scaled divisor l zero q h p d =
    let none : q ≡ whole (pos 0) = zero_from_dvd q d in
    num_zero (whole (pos divisor) *ℚ q) (ap (λ t. whole (pos divisor) *ℚ t) none ∙ Laws.mul_zero rationals (whole (pos divisor))) ∙ ap pos (sym (mul-zero divisor)) ∙ ap (λ z. pos divisor *ℤ z) (sym (num_zero (whole (pos 1) *ℚ q) (ap (λ t. whole (pos 1) *ℚ t) none ∙ Laws.mul_zero rationals (whole (pos 1)))))
times_scaled divisor l (suc g) q h p d =
    let m : ℕ = divisor / l * suc g in
    let z : ℤ = (frac (pos l) (suc g) *ℚ q).num in
    same_whole (multiple divisor q) (pos m *ℤ z) (sym (multiple_is divisor q (dvd_trans _ p h)) ∙ ap (λ t. t *ℚ q) (sym (factor_scale divisor l g h)) ∙ ring.mul_assoc (whole (pos m)) (frac (pos l) (suc g)) q ∙ ap (λ t. whole (pos m) *ℚ t) (sym (whole_product l (suc g) q p d)) ∙ sym (ring.whole_mul (pos m) z))

-- so the multiples span as much as the factor times the whole coefficients
span_times : (divisor l g : ℕ) (a : List ℚ) (box : List Bounds) → l ∣ divisor → common_denominator a ∣ l → g ∣ common_numerator a → span (map (multiple divisor) a) box ≡ value_factor divisor l g * span (map (λ q. (over_or_one l g *ℚ q).num) a) box
span_times divisor l g [] box h p d = sym (mul-zero (value_factor divisor l g))
span_times divisor l g (q ∷ a) [] h p d = sym (mul-zero (value_factor divisor l g))
span_times divisor l g (q ∷ a) (bounds ∷ box) h p d =
    let m : ℕ = value_factor divisor l g in
    let z : ℤ = (over_or_one l g *ℚ q).num in
    let first : nat_abs (multiple divisor q) ≡ m * nat_abs z = ap nat_abs (times_scaled divisor l g q h (dvd_trans _ (dvd_lcm_left q.den (common_denominator a)) p) (dvd_trans _ d (gcd_dvd_left (nat_abs q.num) (common_numerator a)))) ∙ abs_mul (pos m) z in
    let rest = span_times divisor l g a box h (dvd_trans _ (dvd_lcm_right q.den (common_denominator a)) p) (dvd_trans _ d (gcd_dvd_right (nat_abs q.num) (common_numerator a))) in
    sum (nat_abs (multiple divisor q)) m (nat_abs z) (reach bounds) _ _ first rest
  where
    sum : (x m z r s t : ℕ) → x ≡ m * z → s ≡ m * t → x * r + s ≡ m * (z * r + t)
    sum x m z r s t e f = ap₂ ◌+◌ (ap (λ k. k * r) e) f ∙ omega arith

-- the weight of the objective
pub objective_weight_is : (model : Model) → objective_weight model ≡ nat_abs (multiple (common_denominator (objective_numbers model)) model.constant) + value_factor (common_denominator (objective_numbers model)) (common_denominator (objective_of model)) (common_numerator (objective_of model)) * span (cost model) (integer_rows model).whole.box
objective_weight_is model =
    let a = objective_of model in
    let divisor = common_denominator (objective_numbers model) in
    ap (λ s. nat_abs (multiple divisor model.constant) + s) (span_times divisor (common_denominator a) (common_numerator a) a (integer_rows model).whole.box (dvd_lcm_right model.constant.den (common_denominator a)) (dvd_refl _) (dvd_refl _))

-- the factor is above 0
value_factor_pos : (divisor l g : ℕ) → 0 < divisor → l ∣ divisor → 0 < value_factor divisor l g
value_factor_pos divisor l zero some h = some
value_factor_pos divisor l (suc g) some h = mul-pos (quotient_pos l (divisor / l) (subst (λ k. 0 < k) (sym (mul-div_cancel' l h)) some)) (omega arith)
  where
    quotient_pos : (l k : ℕ) → 0 < l * k → 0 < k
    quotient_pos l zero e = absurd (omega (arith, e, mul-zero l))
    quotient_pos l (suc k) e = omega arith

-- ---- the value

-- the scale times the factor over the divisor
scale_times : (divisor l g : ℕ) → 0 < divisor → l ∣ divisor → over_or_one l g *ℚ frac (pos (value_factor divisor l g)) divisor ≡ whole (pos 1)
scale_times divisor l zero some h =
    Laws.one_mul rationals (frac (pos divisor) divisor) ∙ same_frac (pos divisor) (pos 1) divisor 1 some (omega arith) (ap pos (mul_comm divisor 1)) ∙ sym (whole-frac (pos 1))
scale_times divisor l (suc g) some h =
    frac-mul (pos l) (pos (divisor / l * suc g)) (suc g) divisor (omega arith) some ∙ same_frac (pos l *ℤ pos (divisor / l * suc g)) (pos 1) (suc g * divisor) 1 (mul-pos (omega arith) some) (omega arith) (ap pos (cross (l * (divisor / l * suc g)) (suc g * divisor) (mul_comm l (divisor / l * suc g) ∙ factor_times divisor l g h ∙ mul_comm divisor (suc g)))) ∙ sym (whole-frac (pos 1))
  where
    cross : (x y : ℕ) → x ≡ y → x * 1 ≡ 1 * y
    cross x y e = omega (arith, e)

-- the factor over the divisor is the inverse of the scale
pub step_is : (divisor : ℕ) (a : List ℚ) → 0 < divisor → common_denominator a ∣ divisor → ratio (pos (value_factor divisor (common_denominator a) (common_numerator a))) (pos divisor) ≡ inv_ℚ (scale a)
unfolding ratio
step_is divisor a some h =
    cancel (scale a) (frac (pos (value_factor divisor (common_denominator a) (common_numerator a))) divisor) (inv_ℚ (scale a)) (scale_pos a) (scale_times divisor (common_denominator a) (common_numerator a) some h ∙ sym (mul_inv (scale a) (not_zero (scale a) (scale_pos a))))

-- the multiple of a number over the divisor is the number
pub constant_is : (divisor : ℕ) (q : ℚ) → 0 < divisor → q.den ∣ divisor → ratio (multiple divisor q) (pos divisor) ≡ q
unfolding ratio
constant_is divisor q some h =
    let z : ℤ = multiple divisor q in
    cancel (whole (pos divisor)) (frac z divisor) q (order.pos_from_num (whole (pos divisor)) (subst (λ n. pos 0 <ℤ n) (sym (whole-is (pos divisor)).1) (above divisor some))) (ap (λ t. t *ℚ frac z divisor) (whole-frac (pos divisor)) ∙ frac-mul (pos divisor) z 1 divisor (omega arith) some ∙ same_frac (pos divisor *ℤ z) z (1 * divisor) 1 (mul-pos (omega arith) some) (omega arith) (cross divisor z) ∙ sym (whole-frac z) ∙ sym (multiple_is divisor q h))
  where
    above : (n : ℕ) → 0 < n → pos 0 <ℤ pos n
    above n h = omega linear

    turned : (d z : ℤ) → (d *ℤ z) *ℤ pos 1 ≡ z *ℤ (pos 1 *ℤ d)
    turned d z = simp expand (omega linear)

    cross : (d : ℕ) (z : ℤ) → (pos d *ℤ z) *ℤ pos 1 ≡ z *ℤ pos (1 * d)
    cross d z = turned (pos d) z

-- ---- a large objective

-- costs that span nothing are 0
zero_span : (c : List ℤ) (box : List Bounds) → length c ≡ length box → span c box ≡ 0 → common_divisor c ≡ 0
zero_span [] box long e = refl
zero_span (z ∷ c) [] long e = absurd (omega arith)
zero_span (z ∷ c) (bounds ∷ box) long e =
    let first : nat_abs z ≡ 0 = omega (arith, e, factor_le_term z bounds) in
    ap₂ gcd first (zero_span c box (omega arith) (omega (arith, e))) ∙ gcd-zero 0

-- so where a coefficient is not 0, the whole coefficients span something
span_some : (a : List ℚ) (box : List Bounds) → length a ≡ length box → common_numerator a ≢ 0 → 0 < span (scaled a) box
span_some a box long some = positive _ (λ e. omega (arith, zero_span (scaled a) box (length-map a (λ q. (scale a *ℚ q).num) ∙ long) e, scaled-primitive a (some_from_numerator a some)))
  where
    positive : (n : ℕ) → n ≢ 0 → 0 < n
    positive n h = omega arith

-- the common denominator of the objective's numbers is above 0
pub divisor_pos : (model : Model) → 0 < common_denominator (objective_numbers model)
divisor_pos model = common_denominator_pos (objective_numbers model)

-- the coefficients' common denominator divides it
pub denominator_dvd_divisor : (model : Model) → common_denominator (objective_of model) ∣ common_denominator (objective_numbers model)
denominator_dvd_divisor model = dvd_lcm_right model.constant.den (common_denominator (objective_of model))

-- the cost weighs no more than the objective
span_le_weight : (model : Model) → span (cost model) (integer_rows model).whole.box ≤ objective_weight model
span_le_weight model =
    let some : 1 ≤ value_factor (common_denominator (objective_numbers model)) (common_denominator (objective_of model)) (common_numerator (objective_of model)) = value_factor_pos _ _ (common_numerator (objective_of model)) (divisor_pos model) (denominator_dvd_divisor model) in
    omega (arith, objective_weight_is model, mul-le-mul_right (span (cost model) (integer_rows model).whole.box) some)

-- the common denominator of the items is wide
pub large_from_items : (model : Model) → IsDistinctBelow (length model.columns) model.objective → (common_denominator (factors_in model.objective) < 2 ^ 127 → ⊥) → IsLargeObjective model
large_from_items model distinct wide =
    inr (omega (arith, wide, same_denominator (length model.columns) model.objective distinct, le_of_dvd (divisor_pos model) (denominator_dvd_divisor model)))

-- so is that of all the objective's numbers
pub large_from_divisor : (model : Model) → (common_denominator (objective_numbers model) < 2 ^ 127 → ⊥) → IsLargeObjective model
large_from_divisor model wide = inr (omega (arith, wide))

-- a coefficient times the scale is out of range
pub large_from_cost : (model : Model) → LeavesRangeAt (scale (objective_of model)) (objective_of model) → IsLargeObjective model
large_from_cost model (k, q, h, e, leaves) =
    let a = objective_of model in
    let box = (integer_rows model).whole.box in
    let zero_bounds : Bounds = record { low = pos 0; high = pos 0 } in
    let long : length (cost model) ≡ length box = length-map a (λ q. (scale a *ℚ q).num) ∙ coefficients_long (length model.columns) model.objective ∙ sym (box_long model) in
    let l : k < length (cost model) = omega (arith, h, length-map a (λ q. (scale a *ℚ q).num)) in
    let heavy : IsHeavy (nat_abs (get_or (cost model) k (pos 0))) = heavy_from_product (scale a) q (get_or (cost model) k (pos 0)) (ap (λ t. scale a *ℚ t) (sym e) ∙ scaled_at a k q (pos 0) h) leaves in
    inl (omega (arith, heavy, factor_le_term (get_or (cost model) k (pos 0)) (get_or box k zero_bounds), span-term_le k (cost model) box (pos 0) zero_bounds l (omega arith), span_le_weight model))

-- the cost spans too much
pub large_from_span : (model : Model) → (span (cost model) (integer_rows model).whole.box ≤ 2 ^ 96 → ⊥) → IsLargeObjective model
large_from_span model heavy = inl (omega (arith, heavy, span_le_weight model))

-- the constant's multiple is out of range
pub large_from_constant : (model : Model) → (ProductInRange (whole (pos (common_denominator (objective_numbers model)))) model.constant → ⊥) → IsLargeObjective model
large_from_constant model leaves =
    let divisor = common_denominator (objective_numbers model) in
    let heavy : IsHeavy (nat_abs (multiple divisor model.constant)) = heavy_from_product (whole (pos divisor)) model.constant (multiple divisor model.constant) (multiple_is divisor model.constant (dvd_lcm_left model.constant.den (common_denominator (objective_of model)))) leaves in
    inl (omega (arith, heavy))

-- the sum of both is too heavy
pub large_from_total : (model : Model) → (nat_abs (multiple (common_denominator (objective_numbers model)) model.constant) + value_factor (common_denominator (objective_numbers model)) (common_denominator (objective_of model)) (common_numerator (objective_of model)) * span (cost model) (integer_rows model).whole.box ≤ 2 ^ 96 → ⊥) → IsLargeObjective model
large_from_total model heavy = inl (omega (arith, heavy, objective_weight_is model))

-- the factor is too large
pub large_from_value_factor : (model : Model) → (value_factor (common_denominator (objective_numbers model)) (common_denominator (objective_of model)) (common_numerator (objective_of model)) < 2 ^ 127 → ⊥) → IsLargeObjective model
large_from_value_factor model large = by_numerator (common_numerator (objective_of model)) refl large
  where
    by_numerator : (g : ℕ) → common_numerator (objective_of model) ≡ g → (value_factor (common_denominator (objective_numbers model)) (common_denominator (objective_of model)) g < 2 ^ 127 → ⊥) → IsLargeObjective model
    by_numerator zero e wide = large_from_divisor model wide
    by_numerator (suc g) e wide =
        let a = objective_of model in
        let box = (integer_rows model).whole.box in
        let m = value_factor (common_denominator (objective_numbers model)) (common_denominator a) (suc g) in
        let long : length a ≡ length box = coefficients_long (length model.columns) model.objective ∙ sym (box_long model) in
        let some : 1 ≤ span (cost model) box = span_some a box long (λ z. omega (arith, z, e)) in
        let total : objective_weight model ≡ nat_abs (multiple (common_denominator (objective_numbers model)) model.constant) + m * span (cost model) box = subst (λ n. objective_weight model ≡ nat_abs (multiple (common_denominator (objective_numbers model)) model.constant) + value_factor (common_denominator (objective_numbers model)) (common_denominator a) n * span (cost model) box) e (objective_weight_is model) in
        inl (omega (arith, wide, total, mul-le-mul_left m some))

-- none of these
pub objective_is_small : (model : Model) → common_denominator (objective_numbers model) < 2 ^ 127 → nat_abs (multiple (common_denominator (objective_numbers model)) model.constant) + value_factor (common_denominator (objective_numbers model)) (common_denominator (objective_of model)) (common_numerator (objective_of model)) * span (cost model) (integer_rows model).whole.box ≤ 2 ^ 96 → IsLargeObjective model → ⊥
objective_is_small model narrow light (inl heavy) = omega (arith, heavy, light, objective_weight_is model)
objective_is_small model narrow light (inr wide) = omega (arith, narrow, wide)

-- what was found makes the values
pub makes_values : (model : Model) (terms : ValueTerms) → terms.divisor ≡ pos (common_denominator (objective_numbers model)) → terms.constant ≡ multiple (common_denominator (objective_numbers model)) model.constant → terms.factor ≡ pos (value_factor (common_denominator (objective_numbers model)) (common_denominator (objective_of model)) (common_numerator (objective_of model))) → common_denominator (objective_numbers model) < 2 ^ 127 → nat_abs (multiple (common_denominator (objective_numbers model)) model.constant) + value_factor (common_denominator (objective_numbers model)) (common_denominator (objective_of model)) (common_numerator (objective_of model)) * span (cost model) (integer_rows model).whole.box ≤ 2 ^ 96 → MakesValues model terms
makes_values model terms is_divisor is_constant is_factor narrow light =
    let divisor = common_denominator (objective_numbers model) in
    let m = value_factor divisor (common_denominator (objective_of model)) (common_numerator (objective_of model)) in
    let total : nat_abs terms.constant + nat_abs terms.factor * span (cost model) (integer_rows model).whole.box ≡ nat_abs (multiple divisor model.constant) + m * span (cost model) (integer_rows model).whole.box = ap₂ (λ c f. nat_abs c + nat_abs f * span (cost model) (integer_rows model).whole.box) is_constant is_factor in
    record {
      step = ap₂ ratio is_factor is_divisor ∙ step_is divisor (objective_of model) (divisor_pos model) (denominator_dvd_divisor model);
      constant = ap₂ ratio is_constant is_divisor ∙ constant_is divisor model.constant (divisor_pos model) (dvd_lcm_left model.constant.den (common_denominator (objective_of model)));
      light = record {
        positive = omega (arith, divisor_pos model, ap nat_abs is_divisor);
        divisor = is_divisor ∙ ap pos (sym (ap nat_abs is_divisor));
        narrow = omega (arith, narrow, ap nat_abs is_divisor);
        light = omega (arith, total, light);
      };
    }

-- ---- the steps by which the terms of a value are found

-- the divisor
divisor_from : (model : Model) (den denominator : ℤ) → den ≡ pos model.constant.den → denominator ≡ pos (common_denominator (objective_of model)) → lcm (nat_abs den) (nat_abs denominator) ≡ common_denominator (objective_numbers model)
divisor_from model den denominator is_den is_denominator = ap₂ lcm (ap nat_abs is_den) (ap nat_abs is_denominator)

pub divisor_found : (model : Model) (den denominator divisor : ℤ) → den ≡ pos model.constant.den → denominator ≡ pos (common_denominator (objective_of model)) → (lcm (nat_abs den) (nat_abs denominator) < 2 ^ 127) × (divisor ≡ pos (lcm (nat_abs den) (nat_abs denominator))) → (common_denominator (objective_numbers model) < 2 ^ 127) × (divisor ≡ pos (common_denominator (objective_numbers model)))
divisor_found model den denominator divisor is_den is_denominator found =
    let is = divisor_from model den denominator is_den is_denominator in
    (omega (arith, found.0, is), found.1 ∙ ap pos is)

pub divisor_not_found : (model : Model) (den denominator : ℤ) → den ≡ pos model.constant.den → denominator ≡ pos (common_denominator (objective_of model)) → (lcm (nat_abs den) (nat_abs denominator) < 2 ^ 127 → ⊥) → IsLargeObjective model
divisor_not_found model den denominator is_den is_denominator wide =
    large_from_divisor model (λ narrow. wide (omega (arith, narrow, divisor_from model den denominator is_den is_denominator)))

-- the multiple of the constant
pub constant_found : (model : Model) (divisor num : ℤ) (product : ℚ) → divisor ≡ pos (common_denominator (objective_numbers model)) → product ≡ whole divisor *ℚ model.constant → num ≡ product.num → num ≡ multiple (common_denominator (objective_numbers model)) model.constant
constant_found model divisor num product is_divisor is_product is_num =
    is_num ∙ ap (λ (q : ℚ). q.num) (is_product ∙ ap (λ d. whole d *ℚ model.constant) is_divisor)

pub constant_not_found : (model : Model) (divisor : ℤ) → divisor ≡ pos (common_denominator (objective_numbers model)) → (ProductInRange (whole divisor) model.constant → ⊥) → IsLargeObjective model
constant_not_found model divisor is_divisor leaves =
    large_from_constant model (subst (λ d. ProductInRange (whole d) model.constant → ⊥) is_divisor leaves)

-- the factor
factor_from : (model : Model) (divisor denominator numerator : ℤ) → divisor ≡ pos (common_denominator (objective_numbers model)) → denominator ≡ pos (common_denominator (objective_of model)) → numerator ≡ pos (common_numerator (objective_of model)) → value_factor (nat_abs divisor) (nat_abs denominator) (nat_abs numerator) ≡ value_factor (common_denominator (objective_numbers model)) (common_denominator (objective_of model)) (common_numerator (objective_of model))
factor_from model divisor denominator numerator is_divisor is_denominator is_numerator =
    ap₂ (λ d l. value_factor d l (nat_abs numerator)) (ap nat_abs is_divisor) (ap nat_abs is_denominator) ∙ ap (value_factor (common_denominator (objective_numbers model)) (common_denominator (objective_of model))) (ap nat_abs is_numerator)

pub factor_found : (model : Model) (divisor denominator numerator factor : ℤ) → divisor ≡ pos (common_denominator (objective_numbers model)) → denominator ≡ pos (common_denominator (objective_of model)) → numerator ≡ pos (common_numerator (objective_of model)) → (value_factor (nat_abs divisor) (nat_abs denominator) (nat_abs numerator) < 2 ^ 127) × (factor ≡ pos (value_factor (nat_abs divisor) (nat_abs denominator) (nat_abs numerator))) → factor ≡ pos (value_factor (common_denominator (objective_numbers model)) (common_denominator (objective_of model)) (common_numerator (objective_of model)))
factor_found model divisor denominator numerator factor is_divisor is_denominator is_numerator found =
    found.1 ∙ ap pos (factor_from model divisor denominator numerator is_divisor is_denominator is_numerator)

pub factor_not_found : (model : Model) (divisor denominator numerator : ℤ) → divisor ≡ pos (common_denominator (objective_numbers model)) → denominator ≡ pos (common_denominator (objective_of model)) → numerator ≡ pos (common_numerator (objective_of model)) → (value_factor (nat_abs divisor) (nat_abs denominator) (nat_abs numerator) < 2 ^ 127 → ⊥) → IsLargeObjective model
factor_not_found model divisor denominator numerator is_divisor is_denominator is_numerator wide =
    large_from_value_factor model (λ narrow. wide (omega (arith, narrow, factor_from model divisor denominator numerator is_divisor is_denominator is_numerator)))

-- the costs and their span
pub costs_long : (model : Model) (costs : List ℤ) (columns : List Bounds) → costs ≡ cost model → columns ≡ (integer_rows model).whole.box → length costs ≡ length columns
costs_long model costs columns is_cost is_box =
    let a = objective_of model in
    ap length is_cost ∙ length-map a (λ q. (scale a *ℚ q).num) ∙ coefficients_long (length model.columns) model.objective ∙ sym (ap length is_box ∙ box_long model)

pub span_from : (model : Model) (costs : List ℤ) (columns : List Bounds) → costs ≡ cost model → columns ≡ (integer_rows model).whole.box → span costs columns ≡ span (cost model) (integer_rows model).whole.box
span_from model costs columns is_cost is_box = ap₂ span is_cost is_box

pub span_not_found : (model : Model) (costs : List ℤ) (columns : List Bounds) → costs ≡ cost model → columns ≡ (integer_rows model).whole.box → (span costs columns ≤ 2 ^ 96 → ⊥) → IsLargeObjective model
span_not_found model costs columns is_cost is_box heavy =
    large_from_span model (λ light. heavy (omega (arith, light, span_from model costs columns is_cost is_box)))

-- the constant alone is too heavy
pub first_not_found : (model : Model) (num : ℤ) → num ≡ multiple (common_denominator (objective_numbers model)) model.constant → (0 + nat_abs num * 1 ≤ 2 ^ 96 → ⊥) → IsLargeObjective model
first_not_found model num is_num heavy = large_from_total model (λ light. heavy (omega (arith, light, ap nat_abs is_num)))

-- the whole sum
total_from : (model : Model) (num factor : ℤ) (sum spanned : ℕ) → num ≡ multiple (common_denominator (objective_numbers model)) model.constant → factor ≡ pos (value_factor (common_denominator (objective_numbers model)) (common_denominator (objective_of model)) (common_numerator (objective_of model))) → sum ≡ 0 + nat_abs num * 1 → spanned ≡ span (cost model) (integer_rows model).whole.box → sum + nat_abs factor * spanned ≡ nat_abs (multiple (common_denominator (objective_numbers model)) model.constant) + value_factor (common_denominator (objective_numbers model)) (common_denominator (objective_of model)) (common_numerator (objective_of model)) * span (cost model) (integer_rows model).whole.box
total_from model num factor sum spanned is_num is_factor is_sum is_span =
    ap₂ ◌+◌ (plain sum (nat_abs num) is_sum ∙ ap nat_abs is_num) (ap₂ ◌*◌ (ap nat_abs is_factor) is_span)
  where
    plain : (s n : ℕ) → s ≡ 0 + n * 1 → s ≡ n
    plain s n e = omega (arith, e)

pub total_found : (model : Model) (num factor : ℤ) (sum spanned : ℕ) → num ≡ multiple (common_denominator (objective_numbers model)) model.constant → factor ≡ pos (value_factor (common_denominator (objective_numbers model)) (common_denominator (objective_of model)) (common_numerator (objective_of model))) → sum ≡ 0 + nat_abs num * 1 → spanned ≡ span (cost model) (integer_rows model).whole.box → sum + nat_abs factor * spanned ≤ 2 ^ 96 → nat_abs (multiple (common_denominator (objective_numbers model)) model.constant) + value_factor (common_denominator (objective_numbers model)) (common_denominator (objective_of model)) (common_numerator (objective_of model)) * span (cost model) (integer_rows model).whole.box ≤ 2 ^ 96
total_found model num factor sum spanned is_num is_factor is_sum is_span light =
    subst (λ n. n ≤ 2 ^ 96) (total_from model num factor sum spanned is_num is_factor is_sum is_span) light

pub total_not_found : (model : Model) (num factor : ℤ) (sum spanned : ℕ) → num ≡ multiple (common_denominator (objective_numbers model)) model.constant → factor ≡ pos (value_factor (common_denominator (objective_numbers model)) (common_denominator (objective_of model)) (common_numerator (objective_of model))) → sum ≡ 0 + nat_abs num * 1 → spanned ≡ span (cost model) (integer_rows model).whole.box → (sum + nat_abs factor * spanned ≤ 2 ^ 96 → ⊥) → IsLargeObjective model
total_not_found model num factor sum spanned is_num is_factor is_sum is_span heavy =
    large_from_total model (λ light. heavy (subst (λ n. n ≤ 2 ^ 96) (sym (total_from model num factor sum spanned is_num is_factor is_sum is_span)) light))

-- ---- the costs that were put

-- a product out of range, of the items that were read
pub cost_leaves : (model : Model) (s : RowScale) (width : ℕ) (items : List Item) → IsScaleOf (objective_of model) s → width ≡ length model.columns → items ≡ model.objective → LeavesRangeAt s.times (coefficients_of width items) → IsLargeObjective model
cost_leaves model s width items is is_width is_items leaves =
    let here : LeavesRangeAt s.times (objective_of model) = subst (λ n. LeavesRangeAt s.times (coefficients_of n model.objective)) is_width (subst (λ items. LeavesRangeAt s.times (coefficients_of width items)) is_items leaves) in
    large_from_cost model (subst (λ times. LeavesRangeAt times (objective_of model)) is.times here)

-- the products are the costs
pub cost_put : (model : Model) (s : RowScale) (width : ℕ) (items : List Item) (numbers : List ℤ) → IsScaleOf (objective_of model) s → width ≡ length model.columns → items ≡ model.objective → numbers ≡ map (λ q. (s.times *ℚ q).num) (coefficients_of width items) → numbers ≡ cost model
cost_put model s width items numbers is is_width is_items put =
    put ∙ ap₂ (λ n items. map (λ q. (s.times *ℚ q).num) (coefficients_of n items)) is_width is_items ∙ products_are_scaled (objective_of model) s is
