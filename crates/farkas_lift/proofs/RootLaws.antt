-- The weights of a root's inequalities, where only its equalities count.
use Rattle.std.proofs.Common.{ℕ, zero, suc, pos, All}
use Rattle.std.proofs.lemmas.List.Elements.{All-nil, All-cons}
use Rattle.exact_math.specs.Rational.{whole, ◌≤ℚ◌}
use Rattle.exact_math.specs.RationalOrder.{le_refl}
use Rattle.exact_math.specs.RationalRing.{rationals}
use Rattle.exact_vectors.specs.Vectors.{zeros}

pub zeros_nonneg : (n : ℕ) → All (λ w. whole (pos 0) ≤ℚ w) (zeros rationals n)
zeros_nonneg zero = All-nil (λ w. whole (pos 0) ≤ℚ w)
zeros_nonneg (suc n) = All-cons (λ w. whole (pos 0) ≤ℚ w) (whole (pos 0)) (zeros rationals n) (le_refl (whole (pos 0))) (zeros_nonneg n)
