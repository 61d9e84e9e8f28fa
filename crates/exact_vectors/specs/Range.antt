-- When a sum of products, taken in index order, stays in the range of `i128`.
use Rattle.std.specs.Prelude.{ℤ, ◌+ℤ◌, ◌*ℤ◌, List, [], ◌∷◌, FitsSigned, ⊤}
use mir.Syntax.{w128}

-- from the base `s`, each product and each partial sum fits
abbrev pub StaysInRange : ℤ → List ℤ → List ℤ → Type 0
StaysInRange s [] w = ⊤
StaysInRange s (a ∷ v) [] = ⊤
StaysInRange s (a ∷ v) (x ∷ w) = FitsSigned w128 (a *ℤ x) × FitsSigned w128 (s +ℤ a *ℤ x) × StaysInRange (s +ℤ a *ℤ x) v w
