-- Dot products and inequalities over any ordered commutative ring: a combination of inequalities with multipliers that are not negative is an inequality, weak duality, and the easy half of Farkas' lemma. `InequalityLaws.antt` has them over the whole numbers.
use Rattle.std.proofs.Common.{◌≡◌, ℕ, suc, pos, List, [], ◌∷◌, ap, ◌∙◌, subst, arith}
use Rattle.std.specs.List.{AllZip}
use Rattle.exact_math.specs.Ordered.{IsOrdered}
use Rattle.exact_math.specs.Ring.{Ring}
use Rattle.exact_math.specs.OrderedRing as Ordered
use Rattle.exact_vectors.specs.Vectors.{dot, zeros}
use Rattle.exact_vectors.specs.Matrices.{HasWidth, times_vector, combination}
use Rattle.exact_vectors.specs.Inequalities.{NotNegativeBy}
use Rattle.exact_vectors.specs.DotLaws as Dot
use Rattle.exact_vectors.specs.MatrixLaws as Matrices

module _ {A : Type 0} (r : Ring A) (Le : A → A → Type 0) (o : IsOrdered r Le) where
  -- the first item of a list with none negative
  pub first_nonneg : (a : A) (v : List A) → NotNegativeBy r Le (a ∷ v) → Le (r.literal (pos 0)) a
  first_nonneg a v h = h 0 a (omega arith)

  -- the other items of a list with none negative
  pub rest_nonneg : (a : A) (v : List A) → NotNegativeBy r Le (a ∷ v) → NotNegativeBy r Le v
  rest_nonneg a v h = λ k d lt. h (suc k) d (omega arith)

  -- the dot product of lists with no item negative is not negative
  pub dot_nonneg : (v w : List A) → NotNegativeBy r Le v → NotNegativeBy r Le w → Le (r.literal (pos 0)) (dot r v w)
  dot_nonneg [] w h k = o.le_refl _
  dot_nonneg (a ∷ v) [] h k = o.le_refl _
  dot_nonneg (a ∷ v) (x ∷ w) h k =
      Ordered.add_nonneg r Le o _ _ (o.mul_nonneg a x (first_nonneg a v h) (first_nonneg x w k)) (dot_nonneg v w (rest_nonneg a v h) (rest_nonneg x w k))

  -- multipliers that are not negative keep an inequality
  pub dot_monotone : (m v w : List A) → NotNegativeBy r Le m → AllZip Le v w → Le (dot r m v) (dot r m w)
  dot_monotone [] v w h k = o.le_refl _
  dot_monotone (a ∷ m) [] [] h k = o.le_refl _
  dot_monotone (a ∷ m) [] (y ∷ w) h k = absurd k
  dot_monotone (a ∷ m) (x ∷ v) [] h k = absurd k
  dot_monotone (a ∷ m) (x ∷ v) (y ∷ w) h k =
      o.add_le _ _ _ _ (Ordered.mul_le r Le o a x y (first_nonneg a m h) k.0) (dot_monotone m v w (rest_nonneg a m h) k.1)

  -- the same with the multipliers on the right
  pub dot_monotone_right : (m v w : List A) → NotNegativeBy r Le m → AllZip Le v w → Le (dot r v m) (dot r w m)
  dot_monotone_right m v w h k = subst (λ z. Le z (dot r w m)) (Dot.dot_comm r m v) (subst (Le (dot r m v)) (Dot.dot_comm r m w) (dot_monotone m v w h k))

  -- a combination of inequalities is an inequality: from A x ≤ b and m ≥ 0 follows (m A) x ≤ m b
  pub combination_le : (n : ℕ) (m : List A) (rows : List (List A)) (x b : List A) → HasWidth n rows → NotNegativeBy r Le m → AllZip Le (times_vector r rows x) b → Le (dot r (combination r n m rows) x) (dot r m b)
  combination_le n m rows x b width h k = subst (λ z. Le z (dot r m b)) (Matrices.dot_times_vector r n m rows x width) (dot_monotone m (times_vector r rows x) b h k)

  -- weak duality: with x ≥ 0, y ≥ 0, A x ≤ b and c ≤ y A, the value c x is at most y b
  pub weak_duality : (n : ℕ) (y : List A) (rows : List (List A)) (x b c : List A) → HasWidth n rows → NotNegativeBy r Le y → NotNegativeBy r Le x → AllZip Le (times_vector r rows x) b → AllZip Le c (combination r n y rows) → Le (dot r c x) (dot r y b)
  weak_duality n y rows x b c width hy hx primal dual =
      o.le_trans _ _ _ (dot_monotone_right x c (combination r n y rows) hx dual) (combination_le n y rows x b width hy primal)

  -- where m ≥ 0 and m A = 0, a solution of A x ≤ b shows that m b is not negative
  pub vanishing_combination : (n : ℕ) (m : List A) (rows : List (List A)) (x b : List A) → HasWidth n rows → NotNegativeBy r Le m → combination r n m rows ≡ zeros r n → AllZip Le (times_vector r rows x) b → Le (r.literal (pos 0)) (dot r m b)
  vanishing_combination n m rows x b width h vanishes k = subst (λ z. Le z (dot r m b)) (ap (λ v. dot r v x) vanishes ∙ Dot.dot-zeros_left r n x) (combination_le n m rows x b width h k)
