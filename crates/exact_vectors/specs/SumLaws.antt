-- The laws of sums over any commutative ring: of a list's items, and of a function over the indices below a number.
use Rattle.std.proofs.Common.{◌≡◌, ℕ, zero, suc, ◌<◌, ◌≤◌, pos, List, [], ◌∷◌, ◌++◌, length, get_or, refl, sym, ap, ◌∙◌, arith}
use Rattle.exact_math.specs.Ring.{Ring}
use Rattle.exact_math.specs.RingLaws as Laws
use Rattle.exact_math.specs.RingSolver.{ring, reads}
use Rattle.exact_vectors.specs.Vectors.{dot, sum, scale, negate, add, zeros, sum_below}

module _ {A : Type 0} (r : Ring A) where
  -- the sum of joined lists
  pub sum-append : (v w : List A) → sum r (v ++ w) ≡ r.add (sum r v) (sum r w)
  sum-append [] w = sym (Laws.zero_add r _)
  sum-append (a ∷ v) w = ap (r.add a) (sum-append v w) ∙ sym (r.add_assoc _ _ _)

  -- the sum of a scaled list
  pub sum-scale : (k : A) (v : List A) → sum r (scale r k v) ≡ r.mul k (sum r v)
  sum-scale k [] = sym (Laws.mul_zero r k)
  sum-scale k (a ∷ v) = ap (r.add _) (sum-scale k v) ∙ sym (r.mul_add _ _ _)

  -- the sum of a negated list
  pub sum-negate : (v : List A) → sum r (negate r v) ≡ r.neg (sum r v)
  sum-negate [] = sym (Laws.neg_zero r)
  sum-negate (a ∷ v) = ap (r.add _) (sum-negate v) ∙ sym (Laws.neg_add r _ _)

  -- the sum of the sums of two lists of one length
  pub sum-add : (v w : List A) → length v ≡ length w → sum r (add r v w) ≡ r.add (sum r v) (sum r w)
  sum-add [] [] e = sym (r.add_zero _)
  sum-add [] (b ∷ w) e = absurd (omega arith)
  sum-add (a ∷ v) [] e = absurd (omega arith)
  sum-add (a ∷ v) (b ∷ w) e = ap (r.add _) (sum-add v w (omega arith)) ∙ ring r (a ∷ b ∷ sum r v ∷ sum r w ∷ []) (search reads depth 30) (search reads depth 30) refl

  -- the sum of zeros
  pub sum-zeros : (n : ℕ) → sum r (zeros r n) ≡ r.literal (pos 0)
  sum-zeros zero = refl
  sum-zeros (suc n) = Laws.zero_add r _ ∙ sum-zeros n

  -- equal terms have equal sums
  pub sum_below-same : (n : ℕ) (f g : ℕ → A) → ((i : ℕ) → i < n → f i ≡ g i) → sum_below r n f ≡ sum_below r n g
  sum_below-same zero f g h = refl
  sum_below-same (suc n) f g h = ap (λ z. r.add z (f n)) (sum_below-same n f g (λ i lt. h i (omega arith))) ∙ ap (r.add _) (h n (omega arith))

  -- a sum of zeros
  pub sum_below-zero : (n : ℕ) (f : ℕ → A) → ((i : ℕ) → i < n → f i ≡ r.literal (pos 0)) → sum_below r n f ≡ r.literal (pos 0)
  sum_below-zero zero f h = refl
  sum_below-zero (suc n) f h = ap (λ z. r.add z (f n)) (sum_below-zero n f (λ i lt. h i (omega arith))) ∙ Laws.zero_add r _ ∙ h n (omega arith)

  -- a sum of sums
  pub sum_below-add : (n : ℕ) (f g : ℕ → A) → sum_below r n (λ i. r.add (f i) (g i)) ≡ r.add (sum_below r n f) (sum_below r n g)
  sum_below-add zero f g = sym (r.add_zero _)
  sum_below-add (suc n) f g =
      ap (λ z. r.add z (r.add (f n) (g n))) (sum_below-add n f g) ∙ ring r (sum_below r n f ∷ sum_below r n g ∷ f n ∷ g n ∷ []) (search reads depth 30) (search reads depth 30) refl

  -- a common factor leaves a sum
  pub sum_below-scale : (n : ℕ) (k : A) (f : ℕ → A) → sum_below r n (λ i. r.mul k (f i)) ≡ r.mul k (sum_below r n f)
  sum_below-scale zero k f = sym (Laws.mul_zero r k)
  sum_below-scale (suc n) k f = ap (λ z. r.add z (r.mul k (f n))) (sum_below-scale n k f) ∙ sym (r.mul_add _ _ _)

  -- a double sum may be taken in either order
  pub sum_below-exchange : (m n : ℕ) (f : ℕ → ℕ → A) → sum_below r m (λ i. sum_below r n (λ j. f i j)) ≡ sum_below r n (λ j. sum_below r m (λ i. f i j))
  sum_below-exchange zero n f = sym (sum_below-zero n _ (λ i lt. refl))
  sum_below-exchange (suc m) n f = ap (λ z. r.add z (sum_below r n (f m))) (sum_below-exchange m n f) ∙ sym (sum_below-add n _ _)

  -- the first term comes off the front
  pub sum_below-front : (n : ℕ) (f : ℕ → A) → sum_below r (suc n) f ≡ r.add (f 0) (sum_below r n (λ i. f (suc i)))
  sum_below-front zero f = r.add_comm _ _
  sum_below-front (suc n) f = ap (λ z. r.add z (f (suc n))) (sum_below-front n f) ∙ r.add_assoc _ _ _

  -- the sum of a list by its indices
  pub sum-by_index : (v : List A) (d : A) → sum r v ≡ sum_below r (length v) (λ i. get_or v i d)
  sum-by_index [] d = refl
  sum-by_index (a ∷ v) d = ap (r.add a) (sum-by_index v d) ∙ sym (sum_below-front (length v) (λ i. get_or (a ∷ v) i d))

  -- the dot product by its indices, up to any number that reaches the end of the left list
  pub dot-by_index : (v w : List A) (n : ℕ) → length v ≤ n → dot r v w ≡ sum_below r n (λ i. r.mul (get_or v i (r.literal (pos 0))) (get_or w i (r.literal (pos 0))))
  dot-by_index [] w n h = sym (sum_below-zero n _ (λ i lt. Laws.zero_mul r _))
  dot-by_index (a ∷ v) w zero h = absurd (omega arith)
  dot-by_index (a ∷ v) [] (suc n) h = sym (sum_below-zero (suc n) _ (λ i lt. Laws.mul_zero r _))
  dot-by_index (a ∷ v) (x ∷ w) (suc n) h = ap (r.add _) (dot-by_index v w n (omega arith)) ∙ sym (sum_below-front n _)
