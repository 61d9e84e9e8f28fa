-- The factors of the sides of a node.
use Rattle.std.proofs.Common.{◌≡◌, ℕ, zero, suc, ℤ, pos, negsuc, List, ◌∷◌, set, refl, ap}
use Rattle.exact_math.specs.Ring.{integers}
use Rattle.exact_vectors.specs.Vectors.{negate, zeros}
use Rattle.farkas_rows.specs.Inequalities.{unit}
use Rattle.presolve_map.specs.ReducedRows.{ReducedRows}
use Rattle.farkas_lift.specs.NodeSides.{inequality_of, side_form}
use Rattle.farkas_lift.specs.declared.side.NodeSide.{NodeSide}
use Rattle.farkas_lift.specs.declared.side.NodeSide.TheVariants.{RowAtMost, RowAtLeast, ColumnAtMost, ColumnAtLeast, Cut}

negate_zeros : (n : ℕ) → zeros integers n ≡ negate integers (zeros integers n)
negate_zeros zero = refl
negate_zeros (suc n) = ap (λ (l : List ℤ). pos 0 ∷ l) (negate_zeros n)

-- -1 in one place is 1 there with the other sign
pub turned_unit : (n j : ℕ) → set (zeros integers n) j (negsuc 0) ≡ negate integers (unit n j)
turned_unit zero j = refl
turned_unit (suc n) zero = ap (λ (l : List ℤ). negsuc 0 ∷ l) (negate_zeros n)
turned_unit (suc n) (suc j) = ap (λ (l : List ℤ). pos 0 ∷ l) (turned_unit n j)

-- a cut's value has no part in the left side
pub factors_any : (rows : ReducedRows) (value : ℤ) (side : NodeSide) → (inequality_of rows value side).factors ≡ side_form rows side
factors_any rows value (RowAtMost i) = refl
factors_any rows value (RowAtLeast i) = refl
factors_any rows value (ColumnAtMost j) = refl
factors_any rows value (ColumnAtLeast j) = refl
factors_any rows value Cut = refl
