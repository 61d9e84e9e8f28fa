-- Sums of a light form at values within the reach of their columns, and at the lines of the map of presolving.
use Rattle.std.proofs.Common.{⊎_elim, ℕ, suc, ◌+◌, ◌*◌, ◌^◌, ◌<◌, ◌≤◌, Bool, true, false, cond, ℤ, pos, nat_abs, ◌+ℤ◌, ◌*ℤ◌, List, [], ◌∷◌, length, get_or, sym, subst, arith, All}
use Rattle.std.specs.Int.{w128}
use Rattle.std.specs.List.{AllZip}
use Rattle.std.proofs.Math.Nat.{mul-le-mul_left}
use Rattle.std.proofs.Math.ListN.{get_or-eq_default}
use Rattle.std.proofs.lemmas.Bool.{cases_lt}
use Rattle.std.proofs.lemmas.Int.{fits_signed_from_abs}
use Rattle.std.proofs.lemmas.List.Elements.{All-get_or, All-replicate, All-set}
use Rattle.exact_math.specs.Ring.{integers}
use Rattle.exact_math.specs.IntegerOrder.{abs_add_le, abs_mul}
use Rattle.exact_vectors.specs.Matrices.{column}
use Rattle.exact_vectors.specs.Range.{StaysInRange}
use Rattle.exact_vectors.specs.Vectors.{zeros}
use Rattle.whole_rows.specs.declared.bounds.Bounds.{Bounds}
use Rattle.whole_rows.specs.WholeRows.{reach, span}
use Rattle.whole_rows.specs.WeightLaws.{reach_pos}
use Rattle.farkas_rows.specs.Inequalities.{unit}
use Rattle.spaces.specs.Maps.{AffineMap, PullBackStays}
use Rattle.presolve_map.specs.Columns.{IsColumnMap, column_lines, is_open, kept_columns, open_flags, removed_value, removed_values}

-- no value is larger in size than the reach of its column
abbrev IsWithinReach : List Bounds → List ℤ → Type 0
IsWithinReach box x = AllZip (λ (bounds : Bounds) value. nat_abs value ≤ reach bounds) box x

-- the sums of the form at such values stay in range, where the form is light
stays_by_reach : (s : ℤ) (form : List ℤ) (box : List Bounds) (x : List ℤ) → IsWithinReach box x → nat_abs s + span form box ≤ 2 ^ 96 → StaysInRange s form x
stays_by_reach s [] box x within light = tt
stays_by_reach s (a ∷ form) box [] within light = tt
stays_by_reach s (a ∷ form) [] (v ∷ x) within light = absurd within
stays_by_reach s (a ∷ form) (b ∷ box) (v ∷ x) within light =
    let product : nat_abs (a *ℤ v) ≤ nat_abs a * reach b = omega (arith, abs_mul a v, mul-le-mul_left (nat_abs a) within.0) in
    let sum : nat_abs (s +ℤ a *ℤ v) ≤ nat_abs s + nat_abs a * reach b = omega (arith, abs_add_le s (a *ℤ v), product) in (
      fits_signed_from_abs w128 (a *ℤ v) (omega (arith, product, light)),
      fits_signed_from_abs w128 (s +ℤ a *ℤ v) (omega (arith, sum, light)),
      stays_by_reach (s +ℤ a *ℤ v) form box x within.1 (omega (arith, sum, light)),
    )

-- ---- the map of presolving

-- the value of a removed column, and 0 for a kept one
removed_small : (b : Bounds) → nat_abs (removed_value b) ≤ reach b
removed_small b = by_flag (is_open b)
  where
    by_flag : (flag : Bool) → nat_abs (cond flag (pos 0) b.low) ≤ reach b
    by_flag true = omega arith
    by_flag false = omega arith

base_within : (box : List Bounds) → IsWithinReach box (removed_values box)
base_within [] = tt
base_within (b ∷ box) = (removed_small b, base_within box)

-- items that are 0 or 1
small_at : (x : List ℤ) (j : ℕ) → All (λ value. nat_abs value ≤ 1) x → nat_abs (get_or x j (pos 0)) ≤ 1
small_at x j small =
    ⊎_elim
    (λ (lt : j < length x). All-get_or (λ (value : ℤ). nat_abs value ≤ 1) x j (pos 0) lt small)
    (λ (le : length x ≤ j). subst (λ (z : ℤ). nat_abs z ≤ 1) (sym (get_or-eq_default x (pos 0) le)) (omega arith))
    (cases_lt j (length x))

zeros_small : (n : ℕ) → All (λ value. nat_abs value ≤ 1) (zeros integers n)
zeros_small n = All-replicate (λ (value : ℤ). nat_abs value ≤ 1) n (pos 0) (omega arith)

unit_small : (n k : ℕ) → All (λ value. nat_abs value ≤ 1) (unit n k)
unit_small n k = All-set (λ (value : ℤ). nat_abs value ≤ 1) (zeros integers n) k (pos 1) (omega arith) (zeros_small n)

lines_within : (box : List Bounds) (width place j : ℕ) → IsWithinReach box (column integers (column_lines width place (open_flags box)) j)
lines_within [] width place j = tt
lines_within (b ∷ box) width place j = by_flag (λ place. lines_within box width place j) (is_open b)
  where
    by_flag : ((place : ℕ) → IsWithinReach box (column integers (column_lines width place (open_flags box)) j)) → (flag : Bool) → IsWithinReach (b ∷ box) (column integers (column_lines width place (flag ∷ open_flags box)) j)
    by_flag rest true = let small = small_at (unit width place) j (unit_small width place) in (omega (arith, small, reach_pos b), rest (suc place))
    by_flag rest false = let small = small_at (zeros integers width) j (zeros_small width) in (omega (arith, small, reach_pos b), rest place)

-- The sums by which a light form is pulled back along the map of presolving stay in range.
pub map_stays : (box : List Bounds) (placing : AffineMap) (form : List ℤ) → IsColumnMap box placing → span form box ≤ 2 ^ 96 → PullBackStays placing form
map_stays box placing form is light = (
  subst (StaysInRange (pos 0) form) (sym is.base) (stays_by_reach (pos 0) form box (removed_values box) (base_within box) (omega (arith, light))),
  λ j lt. subst (λ (lines : List (List ℤ)). StaysInRange (pos 0) form (column integers lines j)) (sym is.lines) (stays_by_reach (pos 0) form box (column integers (column_lines (length (kept_columns box)) 0 (open_flags box)) j) (lines_within box (length (kept_columns box)) 0 j) (omega (arith, light))),
)
