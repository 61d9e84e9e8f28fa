-- What is light where a part is not large, and what makes a row large.
use Rattle.std.proofs.Common.{◌≡◌, ⊎_elim, inl, ℕ, zero, suc, ◌^◌, ◌<◌, ◌≤◌, List, [], ◌∷◌, ◌++◌, length, take, get_or, ℤ, pos, nat_abs, arith}
use Rattle.std.specs.Int.{◌∣◌}
use Rattle.std.proofs.Math.Nat.{one-dvd}
use Rattle.std.proofs.lemmas.Nat.Gcd.{dvd_trans, dvd_antisymm}
use Rattle.std.proofs.lemmas.Bool.{cases_lt}
use Rattle.std.proofs.lemmas.List.{length-map}
use Rattle.std.proofs.lemmas.List.FromFn.{length-map-range_with_len}
use Rattle.exact_math.specs.Gcd.{lcm}
use Rattle.exact_math.specs.Rational.{ℚ, ◌*ℚ◌}
use Rattle.exact_math.specs.RationalLaws.{den_pos}
use Rattle.exact_math.specs.LcmLaws.{dvd_lcm_left, dvd_lcm_right, lcm_dvd}
use Rattle.whole_rows.specs.declared.bounds.Bounds.{Bounds}
use Rattle.whole_rows.specs.WholeRows.{reach, weight, IsHeavy}
use Rattle.whole_rows.specs.WeightLaws.{span-term_le, factor_le_term}
use Rattle.int_model.specs.Scale.{common_denominator, scale, scaled, FractionRow, integer_row}
use Rattle.int_model.specs.declared.model.Item.{Item}
use Rattle.int_model.specs.declared.model.Column.{Column}
use Rattle.int_model.specs.declared.model.Model.{Model}
use Rattle.int_model.specs.IntegerRows.{coefficient_of, coefficients_of, rounded_bounds, integer_rows}
use Rattle.int_model.proofs.ScaleLaws.{common_denominator_pos}
use Rattle.int_model.specs.Large.{IsLargeColumn, IsLargeRow}

-- ---- common denominators

-- the common denominator of the first k numbers divides that of all
pub common_denominator-take : (k : ℕ) (a : List ℚ) → common_denominator (take k a) ∣ common_denominator a
common_denominator-take zero a = one-dvd (common_denominator a)
common_denominator-take (suc k) [] = one-dvd 1
common_denominator-take (suc k) (q ∷ a) =
    lcm_dvd q.den (common_denominator (take k a)) (common_denominator (q ∷ a)) (common_denominator_pos (take k a)) (dvd_lcm_left q.den (common_denominator a)) (dvd_trans _ (common_denominator-take k a) (dvd_lcm_right q.den (common_denominator a)))

-- one more number
pub common_denominator-push : (a : List ℚ) (q : ℚ) → common_denominator (a ++ q ∷ []) ≡ lcm (common_denominator a) q.den
common_denominator-push a q =
    let whole_list : ℕ = common_denominator (a ++ q ∷ []) in
    let two : ℕ = lcm (common_denominator a) q.den in
    dvd_antisymm (down a two (dvd_lcm_left (common_denominator a) q.den) (dvd_lcm_right (common_denominator a) q.den)) (lcm_dvd (common_denominator a) q.den whole_list (den_pos q) (up a) (last a))
  where
    down : (a : List ℚ) (m : ℕ) → common_denominator a ∣ m → q.den ∣ m → common_denominator (a ++ q ∷ []) ∣ m
    down [] m h l = lcm_dvd q.den 1 m (omega arith) l (one-dvd m)
    down (p ∷ a) m h l =
        lcm_dvd p.den (common_denominator (a ++ q ∷ [])) m (common_denominator_pos (a ++ q ∷ [])) (dvd_trans _ (dvd_lcm_left p.den (common_denominator a)) h) (down a m (dvd_trans _ (dvd_lcm_right p.den (common_denominator a)) h) l)

    up : (a : List ℚ) → common_denominator a ∣ common_denominator (a ++ q ∷ [])
    up [] = one-dvd (common_denominator (q ∷ []))
    up (p ∷ a) =
        lcm_dvd p.den (common_denominator a) (lcm p.den (common_denominator (a ++ q ∷ []))) (common_denominator_pos a) (dvd_lcm_left p.den (common_denominator (a ++ q ∷ []))) (dvd_trans _ (up a) (dvd_lcm_right p.den (common_denominator (a ++ q ∷ []))))

    last : (a : List ℚ) → q.den ∣ common_denominator (a ++ q ∷ [])
    last [] = dvd_lcm_left q.den 1
    last (p ∷ a) = dvd_trans _ (last a) (dvd_lcm_right p.den (common_denominator (a ++ q ∷ [])))

-- ---- parts that are not large

-- what is not heavy
light : (weight : ℕ) → (IsHeavy weight → ⊥) → weight ≤ 2 ^ 96
light weight h = ⊎_elim (λ heavy. absurd (h heavy)) (λ le. le) (cases_lt (2 ^ 96) weight)

-- a row that is not large is light
pub row_light : (box : List Bounds) (row : FractionRow) → (IsLargeRow box row → ⊥) → weight box (integer_row row) ≤ 2 ^ 96
row_light box row h = light (weight box (integer_row row)) (λ heavy. h (inl heavy))

-- a column that is not large
pub column_light : (column : Column) → (IsLargeColumn column → ⊥) → reach (rounded_bounds column) ≤ 2 ^ 96
column_light column h = light (reach (rounded_bounds column)) h

-- a single coefficient that makes a row large
pub large_from_factor : (k : ℕ) (d : ℤ) (box : List Bounds) (row : FractionRow) → k < length row.factors → length row.factors ≡ length box → IsHeavy (nat_abs (get_or (scaled row.factors) k d)) → IsLargeRow box row
large_from_factor k d box row h long heavy =
    let zero_bounds : Bounds = record { low = pos 0; high = pos 0 } in
    let same : length (scaled row.factors) ≡ length row.factors = length-map row.factors (λ q. (scale row.factors *ℚ q).num) in
    inl (omega (arith, heavy, factor_le_term (get_or (scaled row.factors) k d) (get_or box k zero_bounds), span-term_le k (scaled row.factors) box d zero_bounds (omega (arith, same)) (omega arith)))

-- the lists of a model are as long as its columns
pub box_long : (model : Model) → length (integer_rows model).whole.box ≡ length model.columns
box_long model = length-map model.columns rounded_bounds

pub coefficients_long : (n : ℕ) (items : List Item) → length (coefficients_of n items) ≡ n
coefficients_long n items = length-map-range_with_len (coefficient_of items) 0 n
