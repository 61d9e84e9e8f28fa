-- Sums and multiples of lists over a commutative ring.
use Rattle.std.proofs.Common.{◌≡◌, ℕ, zero, suc, pos, List, [], ◌∷◌, length, refl, sym, ap, ap₂, ◌∙◌, arith}
use Rattle.exact_math.specs.Ring.{Ring}
use Rattle.exact_math.specs.RingLaws as Laws
use Rattle.exact_math.specs.RingSolver.{ring, reads}
use Rattle.exact_vectors.specs.Vectors.{add, scale, negate, zeros}
use Rattle.exact_vectors.specs.Matrices.{times_vector}
use Rattle.exact_vectors.specs.DotLaws as Dot

module _ {A : Type 0} (r : Ring A) where
  o : A
  o = r.literal (pos 0)

  -- zero times a list adds nothing
  pub add-none_left : (n : ℕ) (f v : List A) → length f ≡ n → length v ≡ n → add r (scale r (r.literal (pos 0)) f) v ≡ v
  add-none_left n [] [] e h = refl
  add-none_left n [] (b ∷ v) e h = absurd (omega arith)
  add-none_left n (a ∷ f) [] e h = absurd (omega arith)
  add-none_left zero (a ∷ f) (b ∷ v) e h = absurd (omega arith)
  add-none_left (suc n) (a ∷ f) (b ∷ v) e h =
      ap₂ (λ (z : A) (l : List A). z ∷ l) (ap (λ z. r.add z b) (Laws.zero_mul r a) ∙ Laws.zero_add r b) (add-none_left n f v (omega arith) (omega arith))

  -- nor on the right
  pub add-none_right : (n : ℕ) (v f : List A) → length v ≡ n → length f ≡ n → add r v (scale r (r.literal (pos 0)) f) ≡ v
  add-none_right n [] f e h = refl
  add-none_right n (b ∷ v) [] e h = absurd (omega arith)
  add-none_right zero (b ∷ v) (a ∷ f) e h = absurd (omega arith)
  add-none_right (suc n) (b ∷ v) (a ∷ f) e h =
      ap₂ (λ (z : A) (l : List A). z ∷ l) (ap (λ z. r.add b z) (Laws.zero_mul r a) ∙ r.add_zero b) (add-none_right n v f (omega arith) (omega arith))

  -- zeros add nothing
  pub add-zeros_right : (n : ℕ) (v : List A) → length v ≡ n → add r v (zeros r n) ≡ v
  add-zeros_right n [] e = refl
  add-zeros_right zero (b ∷ v) e = absurd (omega arith)
  add-zeros_right (suc n) (b ∷ v) e = ap₂ (λ (z : A) (l : List A). z ∷ l) (r.add_zero b) (add-zeros_right n v (omega arith))

  pub add-zeros_left : (n : ℕ) (v : List A) → length v ≡ n → add r (zeros r n) v ≡ v
  add-zeros_left zero [] e = refl
  add-zeros_left zero (b ∷ v) e = absurd (omega arith)
  add-zeros_left (suc n) [] e = absurd (omega arith)
  add-zeros_left (suc n) (b ∷ v) e = ap₂ (λ (z : A) (l : List A). z ∷ l) (Laws.zero_add r b) (add-zeros_left n v (omega arith))

  -- a multiple of zeros
  pub scale-zeros : (n : ℕ) (k : A) → scale r k (zeros r n) ≡ zeros r n
  scale-zeros zero k = refl
  scale-zeros (suc n) k = ap₂ (λ (z : A) (l : List A). z ∷ l) (Laws.mul_zero r k) (scale-zeros n k)

  -- a matrix times zeros
  pub times_vector-zeros : (n : ℕ) (rows : List (List A)) → times_vector r rows (zeros r n) ≡ zeros r (length rows)
  times_vector-zeros n [] = refl
  times_vector-zeros n (row ∷ rows) = ap₂ (λ (z : A) (l : List A). z ∷ l) (Dot.dot-zeros_right r n row) (times_vector-zeros n rows)

  -- what was taken is put back
  pub put_back : (c : A) (n : ℕ) (f h : List A) → length f ≡ n → length h ≡ n → add r (scale r c f) (add r h (scale r (r.neg c) f)) ≡ h
  put_back c n [] [] e g = refl
  put_back c n [] (b ∷ h) e g = absurd (omega arith)
  put_back c n (a ∷ f) [] e g = absurd (omega arith)
  put_back c zero (a ∷ f) (b ∷ h) e g = absurd (omega arith)
  put_back c (suc n) (a ∷ f) (b ∷ h) e g =
      ap₂ (λ (z : A) (l : List A). z ∷ l) (ring r (c ∷ a ∷ b ∷ []) (search reads depth 30) (search reads depth 30) refl) (put_back c n f h (omega arith) (omega arith))

  -- a sum less its first part
  pub less_first : (n : ℕ) (u v : List A) → length u ≡ n → length v ≡ n → add r (add r u v) (negate r u) ≡ v
  less_first n [] [] e g = refl
  less_first n [] (b ∷ v) e g = absurd (omega arith)
  less_first n (a ∷ u) [] e g = absurd (omega arith)
  less_first zero (a ∷ u) (b ∷ v) e g = absurd (omega arith)
  less_first (suc n) (a ∷ u) (b ∷ v) e g =
      ap₂ (λ (z : A) (l : List A). z ∷ l) (ring r (a ∷ b ∷ []) (search reads depth 30) (search reads depth 30) refl) (less_first n u v (omega arith) (omega arith))

  -- a difference put back on what was taken
  pub first_and_rest : (n : ℕ) (u v : List A) → length u ≡ n → length v ≡ n → add r u (add r v (negate r u)) ≡ v
  first_and_rest n [] [] e g = refl
  first_and_rest n [] (b ∷ v) e g = absurd (omega arith)
  first_and_rest n (a ∷ u) [] e g = absurd (omega arith)
  first_and_rest zero (a ∷ u) (b ∷ v) e g = absurd (omega arith)
  first_and_rest (suc n) (a ∷ u) (b ∷ v) e g =
      ap₂ (λ (z : A) (l : List A). z ∷ l) (ring r (a ∷ b ∷ []) (search reads depth 30) (search reads depth 30) refl) (first_and_rest n u v (omega arith) (omega arith))

  -- equal sums with an equal first part
  pub same_rest : (n : ℕ) (u v w : List A) → length u ≡ n → length v ≡ n → length w ≡ n → add r u v ≡ add r u w → v ≡ w
  same_rest n u v w e g h same = sym (less_first n u v e g) ∙ ap (λ l. add r l (negate r u)) same ∙ less_first n u w e h

  -- sums may be bracketed anew
  pub add-again : (u v w : List A) → add r (add r u v) w ≡ add r u (add r v w)
  add-again [] v w = refl
  add-again (a ∷ u) [] w = refl
  add-again (a ∷ u) (b ∷ v) [] = refl
  add-again (a ∷ u) (b ∷ v) (c ∷ w) = ap₂ (λ (z : A) (l : List A). z ∷ l) (r.add_assoc a b c) (add-again u v w)

  pub length-negate : (v : List A) → length (negate r v) ≡ length v
  length-negate [] = refl
  length-negate (a ∷ v) = ap suc (length-negate v)
