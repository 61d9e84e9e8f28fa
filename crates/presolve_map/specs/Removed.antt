-- The bounds of the columns that are removed, and how large their sums are.
use Rattle.std.proofs.Common.{◌≡◌, ◌≤◌, ℤ, pos, nat_abs, List, [], ◌∷◌, refl, ap, ◌∙◌, arith}
use Rattle.std.specs.Prelude.{map}
use Rattle.std.proofs.Math.Nat.{mul-le-mul_left}
use Rattle.std.proofs.lemmas.Bool.{cond_both}
use Rattle.std.proofs.lemmas.List.Elements.{All-nil, All-cons}
use Rattle.exact_math.specs.Ring.{integers}
use Rattle.exact_vectors.specs.Vectors.{dot}
use Rattle.whole_rows.specs.declared.bounds.Bounds.{Bounds}
use Rattle.whole_rows.specs.declared.ends.End.{End}
use Rattle.whole_rows.specs.WholeRows.{reach, span}
use Rattle.whole_rows.specs.Ends.{AllFixed, lows, sum_at}
use Rattle.whole_rows.specs.EndLaws.{sum_at-fixed}
use Rattle.presolve_map.specs.Columns.{is_open, removed_value, removed_values, removed_part}

-- the only value of each column that is removed, as its bounds, and 0 to 0 for one that is kept
abbrev pub removed_bounds : List Bounds → List Bounds
removed_bounds box = map (λ (b : Bounds). record { low = removed_value b; high = removed_value b }) box

-- each has one value
pub all_fixed : (box : List Bounds) → AllFixed (removed_bounds box)
all_fixed [] = All-nil (λ (b : Bounds). b.low ≡ b.high)
all_fixed (b ∷ box) = All-cons (λ (b : Bounds). b.low ≡ b.high) (record { low = removed_value b; high = removed_value b }) (removed_bounds box) refl (all_fixed box)

-- and these are the values
pub lows-removed : (box : List Bounds) → lows (removed_bounds box) ≡ removed_values box
lows-removed [] = refl
lows-removed (b ∷ box) = ap (λ values. removed_value b ∷ values) (lows-removed box)

-- either end of a sum over them is the part of the sum in removed columns
pub sum_at-removed : (end : End) (factors : List ℤ) (box : List Bounds) → sum_at end factors (removed_bounds box) ≡ removed_part box factors
sum_at-removed end factors box = sum_at-fixed end factors (removed_bounds box) (all_fixed box) ∙ ap (dot integers factors) (lows-removed box)

-- they reach no further than the box
removed_reach : (b : Bounds) → reach (record { low = removed_value b; high = removed_value b }) ≤ reach b
removed_reach b = cond_both (is_open b) (pos 0) b.low (λ v. reach (record { low = v; high = v }) ≤ reach b) (λ e. omega arith) (λ e. omega arith)

-- so the sums are no larger
pub span-removed : (factors : List ℤ) (box : List Bounds) → span factors (removed_bounds box) ≤ span factors box
span-removed [] box = omega arith
span-removed (factor ∷ factors) [] = omega arith
span-removed (factor ∷ factors) (b ∷ box) = omega (arith, mul-le-mul_left (nat_abs factor) (removed_reach b), span-removed factors box)
