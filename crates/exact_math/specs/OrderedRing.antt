-- The laws of any ordered commutative ring that follow from those of the record `IsOrdered`.
use Rattle.std.proofs.Common.{◌≡◌, pos, [], ◌∷◌, refl, subst, subst₂}
use Rattle.exact_math.specs.Ordered.{IsOrdered}
use Rattle.exact_math.specs.Ring.{Ring}
use Rattle.exact_math.specs.RingLaws as Laws
use Rattle.exact_math.specs.RingSolver.{ring, reads}

module _ {A : Type 0} (r : Ring A) (Le : A → A → Type 0) (o : IsOrdered r Le) where
  -- equal numbers are at most each other
  pub le_of_equal : (a b : A) → a ≡ b → Le a b
  le_of_equal a b e = subst (Le a) e (o.le_refl a)

  -- the difference of an inequality is not negative
  pub difference_nonneg : (a b : A) → Le a b → Le (r.literal (pos 0)) (r.add b (r.neg a))
  difference_nonneg a b h = subst (λ z. Le z (r.add b (r.neg a))) (r.add_neg a) (o.add_le a b (r.neg a) (r.neg a) h (o.le_refl (r.neg a)))

  -- where a difference is not negative there is an inequality
  pub le_of_difference : (a b : A) → Le (r.literal (pos 0)) (r.add b (r.neg a)) → Le a b
  le_of_difference a b h = subst₂ Le (Laws.zero_add r a) (ring r (a ∷ b ∷ []) (search reads depth 30) (search reads depth 30) refl) (o.add_le _ _ a a h (o.le_refl a))

  -- an inequality is multiplied by a number that is not negative
  pub mul_le : (a x y : A) → Le (r.literal (pos 0)) a → Le x y → Le (r.mul a x) (r.mul a y)
  mul_le a x y h k =
      le_of_difference (r.mul a x) (r.mul a y) (subst (Le (r.literal (pos 0))) (ring r (a ∷ x ∷ y ∷ []) (search reads depth 30) (search reads depth 30) refl) (o.mul_nonneg a (r.add y (r.neg x)) h (difference_nonneg x y k)))

  -- the same with the factor on the right
  pub mul_le_right : (a x y : A) → Le (r.literal (pos 0)) a → Le x y → Le (r.mul x a) (r.mul y a)
  mul_le_right a x y h k = subst₂ Le (r.mul_comm a x) (r.mul_comm a y) (mul_le a x y h k)

  -- a sign turns an inequality round
  pub neg_le : (a b : A) → Le a b → Le (r.neg b) (r.neg a)
  neg_le a b h = le_of_difference (r.neg b) (r.neg a) (subst (Le (r.literal (pos 0))) (ring r (a ∷ b ∷ []) (search reads depth 30) (search reads depth 30) refl) (difference_nonneg a b h))

  -- the sum of numbers that are not negative is not negative
  pub add_nonneg : (a b : A) → Le (r.literal (pos 0)) a → Le (r.literal (pos 0)) b → Le (r.literal (pos 0)) (r.add a b)
  add_nonneg a b h k = subst (λ z. Le z (r.add a b)) (r.add_zero _) (o.add_le _ a _ b h k)
