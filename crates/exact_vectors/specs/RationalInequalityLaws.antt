-- Inequalities between vectors of rational numbers. `OrderedVectorLaws.antt` has the other laws, for `rationals_are_ordered`.
use Rattle.std.proofs.Common.{◌≡◌, ℕ, pos, List}
use Rattle.std.specs.List.{AllZip}
use Rattle.exact_math.specs.Rational.{ℚ, whole, ◌≤ℚ◌, ◌<ℚ◌}
use Rattle.exact_math.specs.RationalRing.{rationals}
use Rattle.exact_math.specs.RationalOrder.{rationals_are_ordered, not_le_of_lt}
use Rattle.exact_vectors.specs.Vectors.{dot, zeros}
use Rattle.exact_vectors.specs.Matrices.{HasWidth, times_vector, combination}
use Rattle.exact_vectors.specs.Inequalities.{NotNegativeBy}
use Rattle.exact_vectors.specs.OrderedVectorLaws as Ordered

-- the easy half of Farkas' lemma: where m ≥ 0, m A = 0 and m b < 0, no x has A x ≤ b
pub farkas : (n : ℕ) (m : List ℚ) (rows : List (List ℚ)) (x b : List ℚ) → HasWidth n rows → NotNegativeBy rationals ◌≤ℚ◌ m → combination rationals n m rows ≡ zeros rationals n → dot rationals m b <ℚ whole (pos 0) → ¬ (AllZip ◌≤ℚ◌ (times_vector rationals rows x) b)
farkas n m rows x b width h vanishes negative k =
    not_le_of_lt (dot rationals m b) (whole (pos 0)) negative (Ordered.vanishing_combination rationals ◌≤ℚ◌ rationals_are_ordered n m rows x b width h vanishes k)
