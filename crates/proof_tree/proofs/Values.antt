-- The cut value of the best point: it falls, and not for ever.
use Rattle.std.proofs.Common.{◌≡◌, ℕ, ◌^◌, ◌<◌, ◌≤◌, ℤ, pos, negsuc, ◌+ℤ◌, ◌-ℤ◌, ◌≤ℤ◌, ◌<ℤ◌, List, arith, nat_abs, FitsSigned, to_z, of_z}
use Rattle.std.specs.Prelude.{Option, Some, None, IfSome}
use Rattle.std.specs.Int.{w128}
use Rattle.std.proofs.lemmas.Int.{fits_signed_from_abs, to_z-of_z}
use Rattle.exact_math.specs.IntegerRing.{linear}
use Rattle.whole_rows.specs.WholeRows.{WholeRows, Meets, IsWithinLimits, cut_value}
use Rattle.whole_rows.specs.WeightLaws.{dot_within}
use Rattle.proof_tree.specs.declared.walk.Incumbent.{Incumbent}
use Rattle.proof_tree.specs.Trees.{IsOfSize}
use Rattle.proof_tree.specs.Moves.{IsNoHigher, IsValueOfPoint, nonnegative_part}
use Rattle.proof_tree.specs.Search.{value_of_best, IsKnown}

-- the cut value of a point is at most 2 to the power 96 in size
pub cut_value-small : (rows : WholeRows) (x : List ℤ) → IsWithinLimits rows → Meets rows x → IsOfSize (2 ^ 96) (cut_value rows x)
cut_value-small rows x limits meets =
    let small : nat_abs (cut_value rows x) ≤ 2 ^ 96 = omega (arith, dot_within rows.cost rows.box x meets.in_box, limits.light_cost) in
    (omega linear, omega linear)

-- so is that of the best point
pub best-small : (rows : WholeRows) (best : Option Incumbent) → IsWithinLimits rows → IsKnown rows best → IfSome (value_of_best best) (IsOfSize (2 ^ 97))
best-small rows None limits known = tt
best-small rows (Some best) limits known =
    let small = cut_value-small rows best.point limits known.0 in
    (omega (linear, known.1), omega (linear, known.1))

-- it is the value of a point
pub known-value : (rows : WholeRows) (best : Option Incumbent) → IsKnown rows best → IsValueOfPoint rows (value_of_best best)
known-value rows None known = tt
known-value rows (Some best) known = (best.point, known.0, known.1)

-- the order of values
pub IsNoHigher-same : (value : Option ℤ) → IsNoHigher value value
IsNoHigher-same None = tt
IsNoHigher-same (Some value) = omega linear

pub IsNoHigher-trans : (a b c : Option ℤ) → IsNoHigher a b → IsNoHigher b c → IsNoHigher a c
IsNoHigher-trans a b None h k = tt
IsNoHigher-trans a None (Some c) h k = absurd k
IsNoHigher-trans None (Some b) (Some c) h k = absurd h
IsNoHigher-trans (Some a) (Some b) (Some c) h k = omega (linear, h, k)

-- how far the best value may still fall
abbrev pub room_below : Option ℤ → ℕ
room_below None = 2 ^ 98
room_below (Some value) = nonnegative_part (value +ℤ pos (2 ^ 97))

nonnegative_part-lt : (a b : ℤ) → pos 0 ≤ℤ a → a <ℤ b → nonnegative_part a < nonnegative_part b
nonnegative_part-lt (pos a) (pos b) h k = omega linear
nonnegative_part-lt (pos a) (negsuc b) h k = absurd (omega linear)
nonnegative_part-lt (negsuc a) b h k = absurd (omega linear)

nonnegative_part-le : (a : ℤ) (n : ℕ) → a <ℤ pos n → 0 < n → nonnegative_part a < n
nonnegative_part-le (pos a) n h k = omega linear
nonnegative_part-le (negsuc a) n h k = k

-- the room falls with each better point
pub room_below-falls : (rows : WholeRows) (x : List ℤ) (best : Option ℤ) → IsWithinLimits rows → Meets rows x → IfSome best (λ value. cut_value rows x <ℤ value) → room_below (Some (cut_value rows x)) < room_below best
room_below-falls rows x None limits meets better =
    let small = cut_value-small rows x limits meets in
    nonnegative_part-le (cut_value rows x +ℤ pos (2 ^ 97)) (2 ^ 98) (omega linear) (omega arith)
room_below-falls rows x (Some value) limits meets better =
    let small = cut_value-small rows x limits meets in
    nonnegative_part-lt (cut_value rows x +ℤ pos (2 ^ 97)) (value +ℤ pos (2 ^ 97)) (omega linear) (omega (linear, better))

-- a better point has a lower value
pub better-falls : (value : ℤ) (best : Option ℤ) → IfSome best (λ before. value <ℤ before) → IsNoHigher (Some value) best
better-falls value None h = tt
better-falls value (Some before) h = omega (linear, h)

-- what is left of a count falls by one
pub rest-falls : (count count' done done' : ℤ) → count' ≡ count → done' ≡ done +ℤ pos 1 → done <ℤ count → nonnegative_part (count' -ℤ done') < nonnegative_part (count -ℤ done)
rest-falls count count' done done' e k h = rw (e, k) (nonnegative_part-lt (count -ℤ (done +ℤ pos 1)) (count -ℤ done) (omega linear) (omega linear))

-- the values of the slices of a split fit 128 bits
pub slice_fits : (lo count j : ℤ) (n : ℕ) → IsOfSize (2 ^ 97) lo → count ≤ℤ pos (2 ^ 98) → pos n ≡ j → j ≤ℤ count → FitsSigned w128 (lo +ℤ j)
slice_fits lo count j n size few many within = fits_signed_from_abs w128 (lo +ℤ j) (omega linear)

-- so does the number of the next slice
pub next_fits : (count j : ℤ) (n : ℕ) → count ≤ℤ pos (2 ^ 98) → pos n ≡ j → j <ℤ count → to_z w128 (of_z w128 (j +ℤ pos 1)) ≡ j +ℤ pos 1
next_fits count j n few many within = to_z-of_z w128 (j +ℤ pos 1) (fits_signed_from_abs w128 (j +ℤ pos 1) (omega linear))

-- and the number of the slices that are left
pub rest_fits : (count j : ℤ) (n : ℕ) → count ≤ℤ pos (2 ^ 98) → pos n ≡ j → j ≤ℤ count → FitsSigned w128 (count -ℤ j)
rest_fits count j n few many within = fits_signed_from_abs w128 (count -ℤ j) (omega linear)

pub count_fits : (count : ℤ) → pos 0 ≤ℤ count → count ≤ℤ pos (2 ^ 98) → FitsSigned w128 count
count_fits count low high = fits_signed_from_abs w128 count (omega linear)

-- the value behind the last slice of a split
pub sum_fits : (lo count : ℤ) → IsOfSize (2 ^ 97) lo → pos 0 ≤ℤ count → count ≤ℤ pos (2 ^ 98) → FitsSigned w128 (lo +ℤ count)
sum_fits lo count size low high = fits_signed_from_abs w128 (lo +ℤ count) (omega linear)

-- the value of the next child fits
pub next_value : (lo value : ℤ) (i : ℕ) → IsOfSize (2 ^ 97) lo → value ≡ lo +ℤ pos i → i < 2 ^ 64 → to_z w128 (of_z w128 (value +ℤ pos 1)) ≡ value +ℤ pos 1
next_value lo value i size is small = to_z-of_z w128 (value +ℤ pos 1) (fits_signed_from_abs w128 (value +ℤ pos 1) (omega linear))

-- the first value of a split fits
pub lo_fits : (lo : ℤ) → IsOfSize (2 ^ 97) lo → FitsSigned w128 lo
lo_fits lo size = fits_signed_from_abs w128 lo (omega linear)
