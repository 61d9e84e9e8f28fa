-- How one row is found large, or not.
use Rattle.std.proofs.Common.{◌≡◌, ◌≢◌, ◌⊎◌, ⊎_elim, inl, inr, Bool, true, false, eqb, ℕ, zero, suc, ◌<◌, ◌≤◌, ◌^◌, List, [], ◌∷◌, length, map, get_or, ℤ, pos, negsuc, nat_abs, refl, sym, ap, subst, ◌∙◌, arith}
use Rattle.std.specs.Prelude.{Option, IsTrue}
use Rattle.std.specs.Bool.{IsFalse}
use Rattle.std.specs.List.{All, Any}
use Rattle.std.specs.Option.{option_map}
use Rattle.std.specs.Int.{◌∣◌}
use Rattle.std.proofs.Math.Nat.{one-dvd, eq-one_of_dvd-one}
use Rattle.std.proofs.lemmas.Bool.{eqb-true, ne_eqb}
use Rattle.std.proofs.lemmas.List.{length-map}
use Rattle.std.proofs.lemmas.List.Elements.{All-nil, All-cons, All-get_or}
use Rattle.exact_math.specs.Rational.{ℚ, whole, ◌*ℚ◌, floor, ceil}
use Rattle.exact_math.specs.IntegerRing.{linear}
use Rattle.exact_math.specs.RationalLaws.{zero_from_num, num_zero}
use Rattle.exact_math.specs.RationalFloor.{whole-is}
use Rattle.whole_rows.specs.declared.bounds.Bounds.{Bounds}
use Rattle.int_model.specs.declared.model.Item.{Item}
use Rattle.int_model.specs.declared.scales.RowScale.{RowScale}
use Rattle.int_model.specs.Scale.{common_denominator, common_numerator, over_or_one, scale, scaled, FractionRow, integer_row}
use Rattle.whole_rows.specs.WholeRows.{weight}
use Rattle.whole_rows.specs.declared.stops.RowStop.{RowStop}
use Rattle.whole_rows.specs.declared.stops.RowStop.TheVariants as row_stops
use Rattle.int_model.specs.declared.part.PartStop.TheVariants as part_stops
use Rattle.int_model.specs.Stops.{part_stop_of}
use Rattle.int_model.specs.IntegerRows.{coefficients_of, IsDistinctBelow}
use Rattle.int_model.specs.ItemFactors.{factors_in, row_scale, LeavesRangeAt}
use Rattle.int_model.specs.Large.{HasWideDenominator, LeavesRange, IsLargeRow}
use Rattle.int_model.proofs.ScaleLaws.{zero_from_dvd, no_numerator, common_numerator_dvd}
use Rattle.int_model.proofs.MultipleLaws.{scaled_at, heavy_from_product}
use Rattle.int_model.proofs.LargeLaws.{large_from_factor, coefficients_long}
use Rattle.int_model.proofs.ItemLaws.{common_denominator-dvd, same_denominator, same_numerator, same_scale}

-- ---- some coefficient is not 0, or all are

pub some_or_zeros : (a : List ℚ) → Any (λ q. q ≢ whole (pos 0)) a ⊎ All (λ q. q ≡ whole (pos 0)) a
some_or_zeros [] = inr (All-nil (λ q. q ≡ whole (pos 0)))
some_or_zeros (q ∷ a) = ⊎_elim
    (λ some. inl (suc some.0, some.1, omega (arith, some.2), some.3, some.4))
    (λ zeros. first q.num refl zeros)
    (some_or_zeros a)
  where
    first : (z : ℤ) → q.num ≡ z → All (λ q. q ≡ whole (pos 0)) a → Any (λ q. q ≢ whole (pos 0)) (q ∷ a) ⊎ All (λ q. q ≡ whole (pos 0)) (q ∷ a)
    first (pos zero) e zeros = inr (All-cons (λ q. q ≡ whole (pos 0)) q a (zero_from_num q e) zeros)
    first (pos (suc n)) e zeros = inl (0, q, omega arith, refl, λ z. omega (linear, e, num_zero q z))
    first (negsuc n) e zeros = inl (0, q, omega arith, refl, λ z. omega (linear, e, num_zero q z))

-- the common denominator of zeros is 1
denominator_of_zeros : (a : List ℚ) → All (λ q. q ≡ whole (pos 0)) a → common_denominator a ≡ 1
denominator_of_zeros a zeros =
    eq-one_of_dvd-one (common_denominator-dvd a 1 (λ k d h. subst (λ n. n ∣ 1) (sym (ap (λ (q : ℚ). q.den) (All-get_or (λ q. q ≡ whole (pos 0)) a k d h zeros) ∙ (whole-is (pos 0)).0)) (one-dvd 1)))

-- where the common denominator is wide, some coefficient is not 0
some_from_wide : (a : List ℚ) → HasWideDenominator a → Any (λ q. q ≢ whole (pos 0)) a
some_from_wide a wide =
    ⊎_elim (λ some. some) (λ zeros. absurd (omega (arith, wide, denominator_of_zeros a zeros))) (some_or_zeros a)

-- where the common numerator is not 0, some coefficient is not 0
pub some_from_numerator : (a : List ℚ) → common_numerator a ≢ 0 → Any (λ q. q ≢ whole (pos 0)) a
some_from_numerator a ne =
    ⊎_elim (λ some. some) (λ zeros. absurd (ne (no_numerator a zeros))) (some_or_zeros a)

-- and the other way round
pub numerator_from_some : (a : List ℚ) → Any (λ q. q ≢ whole (pos 0)) a → common_numerator a ≢ 0
numerator_from_some a (k, q, h, e, ne) z =
    ne (zero_from_dvd q (subst (λ n. n ∣ nat_abs q.num) z (common_numerator_dvd a k q h e)))

-- ---- the scale that was found

-- the scale of the coefficients, whose common denominator is not wide
pub record IsScaleOf (a : List ℚ) (s : RowScale) : Type 0 where
  pub narrow : common_denominator a < 2 ^ 127
  pub times : s.times ≡ scale a
  pub denominator : s.denominator ≡ pos (common_denominator a)
  pub numerator : s.numerator ≡ pos (common_numerator a)
  pub zeros : s.zeros ≡ eqb (common_numerator a) 0

-- the scale of the items is that of their coefficients
pub scale_of_coefficients : (n : ℕ) (items : List Item) (s : RowScale) → IsDistinctBelow n items → (common_denominator (factors_in items) < 2 ^ 127) × (s ≡ row_scale (factors_in items)) → IsScaleOf (coefficients_of n items) s
scale_of_coefficients n items s distinct found = record {
  narrow = omega (arith, found.0, same_denominator n items distinct);
  times = ap (λ (s : RowScale). s.times) found.1 ∙ sym (same_scale n items distinct);
  denominator = ap (λ (s : RowScale). s.denominator) found.1 ∙ ap pos (sym (same_denominator n items distinct));
  numerator = ap (λ (s : RowScale). s.numerator) found.1 ∙ ap pos (sym (same_numerator n items distinct));
  zeros = ap (λ (s : RowScale). s.zeros) found.1 ∙ ap (λ k. eqb k 0) (sym (same_numerator n items distinct));
}

-- where all coefficients are 0 it is 1
pub scale_of_zeros : (a : List ℚ) (s : RowScale) → IsScaleOf a s → IsTrue s.zeros → s.times ≡ whole (pos 1)
scale_of_zeros a s is zeros =
    is.times ∙ ap (over_or_one (common_denominator a)) (eqb-true (common_numerator a) 0 (sym is.zeros ∙ zeros))

-- where they are not, some coefficient is not 0
some_coefficient : (a : List ℚ) (s : RowScale) → IsScaleOf a s → IsFalse s.zeros → Any (λ q. q ≢ whole (pos 0)) a
some_coefficient a s is some = some_from_numerator a (λ z. differ s.zeros some (is.zeros ∙ ap (λ k. eqb k 0) z))
  where
    differ : (b : Bool) → b ≡ false → b ≡ true → ⊥
    differ true e f = cc
    differ false e f = cc

no_zeros : (a : List ℚ) (s : RowScale) → IsScaleOf a s → Any (λ q. q ≢ whole (pos 0)) a → IsFalse s.zeros
no_zeros a s is some = is.zeros ∙ ne_eqb (common_numerator a) 0 (numerator_from_some a some)

-- ---- large rows

-- the common denominator of the items is wide
pub large_from_wide : (box : List Bounds) (n : ℕ) (items : List Item) (low high : Option ℚ) → IsDistinctBelow n items → (common_denominator (factors_in items) < 2 ^ 127 → ⊥) → IsLargeRow box (record { factors = coefficients_of n items; low = low; high = high })
large_from_wide box n items low high distinct wide =
    let large : HasWideDenominator (coefficients_of n items) = omega (arith, wide, same_denominator n items distinct) in
    inr (some_from_wide (coefficients_of n items) large, inl large)

-- a coefficient times the scale is out of range
pub large_from_product : (box : List Bounds) (row : FractionRow) (s : RowScale) → IsScaleOf row.factors s → length row.factors ≡ length box → LeavesRangeAt s.times row.factors → IsLargeRow box row
large_from_product box row s is long (k, q, h, e, leaves) =
    let product : s.times *ℚ q ≡ whole (get_or (scaled row.factors) k (pos 0)) = ap (λ times. times *ℚ q) is.times ∙ ap (λ t. scale row.factors *ℚ t) (sym e) ∙ scaled_at row.factors k q (pos 0) h in
    large_from_factor k (pos 0) box row h long (heavy_from_product s.times q (get_or (scaled row.factors) k (pos 0)) product leaves)

-- a side times the scale is out of range
pub large_from_low : (box : List Bounds) (row : FractionRow) (s : RowScale) → IsScaleOf row.factors s → IsFalse s.zeros × LeavesRange s.times row.low → IsLargeRow box row
large_from_low box row s is found =
    inr (some_coefficient row.factors s is found.0, inr (inl (subst (λ times. LeavesRange times row.low) is.times found.1)))

pub large_from_high : (box : List Bounds) (row : FractionRow) (s : RowScale) → IsScaleOf row.factors s → IsFalse s.zeros × LeavesRange s.times row.high → IsLargeRow box row
large_from_high box row s is found =
    inr (some_coefficient row.factors s is found.0, inr (inr (subst (λ times. LeavesRange times row.high) is.times found.1)))

-- only a heavy row is answered as large
pub heavy_from_large : (stop : RowStop) → part_stop_of stop ≡ part_stops.Large → stop ≡ row_stops.Heavy
heavy_from_large row_stops.Heavy is = refl
heavy_from_large row_stops.NoMemory is = cc

-- none of these
pub row_is_small : (box : List Bounds) (row : FractionRow) (s : RowScale) → IsScaleOf row.factors s → weight box (integer_row row) ≤ 2 ^ 96 → (IsFalse s.zeros → LeavesRange s.times row.low → ⊥) → (IsFalse s.zeros → LeavesRange s.times row.high → ⊥) → IsLargeRow box row → ⊥
row_is_small box row s is light low high (inl heavy) = omega (arith, heavy, light)
row_is_small box row s is light low high (inr (some, inl wide)) = omega (arith, wide, is.narrow)
row_is_small box row s is light low high (inr (some, inr (inl leaves))) =
    low (no_zeros row.factors s is some) (subst (λ times. LeavesRange times row.low) (sym is.times) leaves)
row_is_small box row s is light low high (inr (some, inr (inr leaves))) =
    high (no_zeros row.factors s is some) (subst (λ times. LeavesRange times row.high) (sym is.times) leaves)

-- ---- the factors that were put at the end

-- the products are the whole coefficients
pub products_are_scaled : (a : List ℚ) (s : RowScale) → IsScaleOf a s → map (λ q. (s.times *ℚ q).num) a ≡ scaled a
products_are_scaled a s is = ap (λ times. map (λ q. (times *ℚ q).num) a) is.times

-- the row that was put is the integer row
pub integer_row_is : (row : FractionRow) (s : RowScale) (factors : List ℤ) (low high : Option ℤ) → IsScaleOf row.factors s → factors ≡ scaled row.factors → low ≡ option_map (λ l. ceil (s.times *ℚ l)) row.low → high ≡ option_map (λ h. floor (s.times *ℚ h)) row.high → record { factors = factors; low = low; high = high } ≡ integer_row row
integer_row_is row s factors low high is is_factors is_low is_high =
    rw (is_factors, is_low, is_high, is.times) refl

pub scaled_long : (n : ℕ) (items : List Item) → length (scaled (coefficients_of n items)) ≡ n
scaled_long n items = length-map (coefficients_of n items) (λ q. (scale (coefficients_of n items) *ℚ q).num) ∙ coefficients_long n items
