-- Dot products and inequalities over the whole numbers: a combination of inequalities with multipliers that are not negative is an inequality, weak duality, and the easy half of Farkas' lemma. `OrderedVectorLaws.antt` has them over any ordered ring.
use Rattle.std.proofs.Common.{◌≡◌, ℕ, suc, ◌*◌, ◌≤◌, ℤ, pos, ◌*ℤ◌, nat_abs, ◌≤ℤ◌, ◌<ℤ◌, List, [], ◌∷◌, length, arith, All}
use Rattle.exact_math.specs.Ring.{integers}
use Rattle.exact_math.specs.IntegerRing.{linear}
use Rattle.exact_math.specs.IntegerOrder as Order
use Rattle.exact_vectors.specs.Vectors.{dot, zeros}
use Rattle.exact_vectors.specs.Matrices.{HasWidth, times_vector, combination}
use Rattle.exact_vectors.specs.Inequalities.{NotNegative, AtMost}
use Rattle.exact_vectors.specs.OrderedVectorLaws as Ordered

-- the dot product of lists with no item negative is not negative
pub dot_nonneg : (v w : List ℤ) → NotNegative v → NotNegative w → pos 0 ≤ℤ dot integers v w
dot_nonneg = Ordered.dot_nonneg integers ◌≤ℤ◌ Order.integers_ordered

-- multipliers that are not negative keep an inequality
pub dot_monotone : (m v w : List ℤ) → NotNegative m → AtMost v w → dot integers m v ≤ℤ dot integers m w
dot_monotone = Ordered.dot_monotone integers ◌≤ℤ◌ Order.integers_ordered

-- the same with the multipliers on the right
pub dot_monotone_right : (m v w : List ℤ) → NotNegative m → AtMost v w → dot integers v m ≤ℤ dot integers w m
dot_monotone_right = Ordered.dot_monotone_right integers ◌≤ℤ◌ Order.integers_ordered

-- a combination of inequalities is an inequality: from A x ≤ b and m ≥ 0 follows (m A) x ≤ m b
pub combination_le : (n : ℕ) (m : List ℤ) (rows : List (List ℤ)) (x b : List ℤ) → HasWidth n rows → NotNegative m → AtMost (times_vector integers rows x) b → dot integers (combination integers n m rows) x ≤ℤ dot integers m b
combination_le = Ordered.combination_le integers ◌≤ℤ◌ Order.integers_ordered

-- weak duality: with x ≥ 0, y ≥ 0, A x ≤ b and c ≤ y A, the value c x is at most y b
pub weak_duality : (n : ℕ) (y : List ℤ) (rows : List (List ℤ)) (x b c : List ℤ) → HasWidth n rows → NotNegative y → NotNegative x → AtMost (times_vector integers rows x) b → AtMost c (combination integers n y rows) → dot integers c x ≤ℤ dot integers y b
weak_duality = Ordered.weak_duality integers ◌≤ℤ◌ Order.integers_ordered

-- the easy half of Farkas' lemma: where m ≥ 0, m A = 0 and m b < 0, no x has A x ≤ b
pub farkas : (n : ℕ) (m : List ℤ) (rows : List (List ℤ)) (x b : List ℤ) → HasWidth n rows → NotNegative m → combination integers n m rows ≡ zeros integers n → dot integers m b <ℤ pos 0 → ¬ (AtMost (times_vector integers rows x) b)
farkas n m rows x b width h vanishes negative k =
    let bound : pos 0 ≤ℤ dot integers m b = Ordered.vanishing_combination integers ◌≤ℤ◌ Order.integers_ordered n m rows x b width h vanishes k in
    omega linear

-- a dot product is bounded by the number of its products, where each list's absolute values are bounded
pub dot_bound : (v w : List ℤ) (p q : ℕ) → All (λ a. nat_abs a ≤ p) v → All (λ x. nat_abs x ≤ q) w → nat_abs (dot integers v w) ≤ length v * (p * q)
dot_bound [] w p q h k = omega arith
dot_bound (a ∷ v) [] p q h k = omega arith
dot_bound (a ∷ v) (x ∷ w) p q h k =
    let first : nat_abs (a *ℤ x) ≤ p * q = Order.abs_mul_le a x p q (h 0 (pos 0) (omega arith)) (k 0 (pos 0) (omega arith)) in
    let others : nat_abs (dot integers v w) ≤ length v * (p * q) = dot_bound v w p q (λ i d lt. h (suc i) d (omega arith)) (λ i d lt. k (suc i) d (omega arith)) in
    omega (arith, Order.abs_add_le (a *ℤ x) (dot integers v w))
