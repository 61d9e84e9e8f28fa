-- The laws of the dot product over any commutative ring: it computes from the front, is symmetric and linear in both arguments, adds up over joined lists, and changes by one product where one item changes.
use Rattle.std.proofs.Common.{◌≡◌, ℕ, zero, suc, ◌+◌, ◌<◌, ◌≤◌, ℤ, pos, negsuc, ◌+ℤ◌, ◌*ℤ◌, List, [], ◌∷◌, ◌++◌, length, get_or, drop, take, set, refl, sym, ap, ◌∙◌, arith, add-one, drop-cons}
use Rattle.exact_math.specs.Ring.{Ring, integers}
use Rattle.exact_math.specs.Determinants.{difference}
use Rattle.exact_math.specs.RingLaws as Laws
use Rattle.exact_math.specs.RingSolver.{ring, reads}
use Rattle.exact_vectors.specs.Vectors.{dot, scale, negate, add, zeros}

-- over the whole numbers the first products come off the front
pub dot_integers-cons : (a x : ℤ) (v w : List ℤ) → dot integers (a ∷ v) (x ∷ w) ≡ (a *ℤ x) +ℤ dot integers v w
dot_integers-cons a x v w = refl

-- a worked value: (2, -3, 5) with (7, 1, -1)
pub dot_worked : dot integers (pos 2 ∷ negsuc 2 ∷ pos 5 ∷ []) (pos 7 ∷ pos 1 ∷ negsuc 0 ∷ []) ≡ pos 6
dot_worked = refl

module _ {A : Type 0} (r : Ring A) where
  -- the first product comes off the front
  pub dot-cons : (a x : A) (v w : List A) → dot r (a ∷ v) (x ∷ w) ≡ r.add (r.mul a x) (dot r v w)
  dot-cons a x v w = refl

  -- with an empty list on the right there is nothing to add
  pub dot-nil_right : (v : List A) → dot r v [] ≡ r.literal (pos 0)
  dot-nil_right [] = refl
  dot-nil_right (a ∷ v) = refl

  -- the two lists change places
  pub dot_comm : (v w : List A) → dot r v w ≡ dot r w v
  dot_comm [] w = sym (dot-nil_right w)
  dot_comm (a ∷ v) [] = refl
  dot_comm (a ∷ v) (x ∷ w) = ap (r.add (r.mul a x)) (dot_comm v w) ∙ ap (λ z. r.add z (dot r w v)) (r.mul_comm a x)

  -- zeros give zero
  pub dot-zeros_left : (n : ℕ) (w : List A) → dot r (zeros r n) w ≡ r.literal (pos 0)
  dot-zeros_left zero w = refl
  dot-zeros_left (suc n) [] = refl
  dot-zeros_left (suc n) (x ∷ w) = ap (λ z. r.add z (dot r (zeros r n) w)) (Laws.zero_mul r x) ∙ Laws.zero_add r _ ∙ dot-zeros_left n w

  -- zeros give zero on the right too
  pub dot-zeros_right : (n : ℕ) (v : List A) → dot r v (zeros r n) ≡ r.literal (pos 0)
  dot-zeros_right n v = dot_comm v (zeros r n) ∙ dot-zeros_left n v

  -- a factor of the left list is the product's
  pub dot-scale_left : (k : A) (v w : List A) → dot r (scale r k v) w ≡ r.mul k (dot r v w)
  dot-scale_left k [] w = sym (Laws.mul_zero r k)
  dot-scale_left k (a ∷ v) [] = sym (Laws.mul_zero r k)
  dot-scale_left k (a ∷ v) (x ∷ w) = ap (r.add _) (dot-scale_left k v w) ∙ ring r (k ∷ a ∷ x ∷ dot r v w ∷ []) (search reads depth 30) (search reads depth 30) refl

  -- a factor of the right list is the product's
  pub dot-scale_right : (k : A) (v w : List A) → dot r v (scale r k w) ≡ r.mul k (dot r v w)
  dot-scale_right k v w = dot_comm v (scale r k w) ∙ dot-scale_left k w v ∙ ap (r.mul k) (dot_comm w v)

  -- a sign of the left list is the product's
  pub dot-negate_left : (v w : List A) → dot r (negate r v) w ≡ r.neg (dot r v w)
  dot-negate_left [] w = sym (Laws.neg_zero r)
  dot-negate_left (a ∷ v) [] = sym (Laws.neg_zero r)
  dot-negate_left (a ∷ v) (x ∷ w) = ap (r.add _) (dot-negate_left v w) ∙ ring r (a ∷ x ∷ dot r v w ∷ []) (search reads depth 30) (search reads depth 30) refl

  -- a sign of the right list is the product's
  pub dot-negate_right : (v w : List A) → dot r v (negate r w) ≡ r.neg (dot r v w)
  dot-negate_right v w = dot_comm v (negate r w) ∙ dot-negate_left w v ∙ ap r.neg (dot_comm w v)

  -- a sum of two lists of one length on the left
  pub dot-add_left : (u v w : List A) → length u ≡ length v → dot r (add r u v) w ≡ r.add (dot r u w) (dot r v w)
  dot-add_left [] [] w e = sym (r.add_zero _)
  dot-add_left [] (b ∷ v) w e = absurd (omega arith)
  dot-add_left (a ∷ u) [] w e = absurd (omega arith)
  dot-add_left (a ∷ u) (b ∷ v) [] e = sym (r.add_zero _)
  dot-add_left (a ∷ u) (b ∷ v) (x ∷ w) e =
      ap (r.add _) (dot-add_left u v w (omega arith)) ∙ ring r (a ∷ b ∷ x ∷ dot r u w ∷ dot r v w ∷ []) (search reads depth 30) (search reads depth 30) refl

  -- a sum of two lists of one length on the right
  pub dot-add_right : (u v w : List A) → length v ≡ length w → dot r u (add r v w) ≡ r.add (dot r u v) (dot r u w)
  dot-add_right u v w e = dot_comm u (add r v w) ∙ dot-add_left v w u e ∙ ap (λ z. r.add z (dot r w u)) (dot_comm v u) ∙ ap (r.add (dot r u v)) (dot_comm w u)

  -- lists that are joined at one place
  pub dot-append : (u v x y : List A) → length u ≡ length x → dot r (u ++ v) (x ++ y) ≡ r.add (dot r u x) (dot r v y)
  dot-append [] v [] y e = sym (Laws.zero_add r _)
  dot-append [] v (b ∷ x) y e = absurd (omega arith)
  dot-append (a ∷ u) v [] y e = absurd (omega arith)
  dot-append (a ∷ u) v (b ∷ x) y e = ap (r.add _) (dot-append u v x y (omega arith)) ∙ sym (r.add_assoc _ _ _)

  -- one item changed on the left: the product changes by the difference there
  pub dot-set_left : (v w : List A) (i : ℕ) (b d : A) → i < length v → dot r (set v i b) w ≡ r.add (dot r v w) (r.mul (difference r b (get_or v i d)) (get_or w i (r.literal (pos 0))))
  dot-set_left [] w i b d h = absurd (omega arith)
  dot-set_left (a ∷ v) [] zero b d h = sym (ap (r.add _) (Laws.mul_zero r _) ∙ r.add_zero _)
  dot-set_left (a ∷ v) [] (suc i) b d h = sym (ap (r.add _) (Laws.mul_zero r _) ∙ r.add_zero _)
  dot-set_left (a ∷ v) (x ∷ w) zero b d h = ring r (a ∷ b ∷ x ∷ dot r v w ∷ []) (search reads depth 30) (search reads depth 30) refl
  dot-set_left (a ∷ v) (x ∷ w) (suc i) b d h = ap (r.add _) (dot-set_left v w i b d (omega arith)) ∙ sym (r.add_assoc _ _ _)

  -- one item changed on the right
  pub dot-set_right : (v w : List A) (i : ℕ) (b d : A) → i < length w → dot r v (set w i b) ≡ r.add (dot r v w) (r.mul (get_or v i (r.literal (pos 0))) (difference r b (get_or w i d)))
  dot-set_right v w i b d h = dot_comm v (set w i b) ∙ dot-set_left w v i b d h ∙ ap (λ z. r.add z (r.mul (difference r b (get_or w i d)) (get_or v i (r.literal (pos 0))))) (dot_comm w v) ∙ ap (r.add _) (r.mul_comm _ _)

  -- a loop's step, by what is left: the suffixes from `i` are the product at `i` and the suffixes from `i + 1`
  pub dot-drop : (v w : List A) (i : ℕ) (d e : A) → i < length v → i < length w → dot r (drop i v) (drop i w) ≡ r.add (r.mul (get_or v i d) (get_or w i e)) (dot r (drop (i + 1) v) (drop (i + 1) w))
  dot-drop v w i d e h k = rw (add-one, drop-cons v i d, drop-cons w i e)

  -- a loop's end: past the end of either list nothing is left
  pub dot-drop_all : (v w : List A) (i : ℕ) → length v ≤ i → dot r (drop i v) (drop i w) ≡ r.literal (pos 0)
  dot-drop_all [] w zero h = refl
  dot-drop_all [] w (suc i) h = refl
  dot-drop_all (a ∷ v) w zero h = absurd (omega arith)
  dot-drop_all (a ∷ v) [] (suc i) h = dot-nil_right (drop i v)
  dot-drop_all (a ∷ v) (x ∷ w) (suc i) h = dot-drop_all v w i (omega arith)

  -- a loop's step, by what is done: the prefixes up to `i + 1` are those up to `i` and the product at `i`
  pub dot-take : (v w : List A) (i : ℕ) (d e : A) → i < length v → i < length w → dot r (take (i + 1) v) (take (i + 1) w) ≡ r.add (dot r (take i v) (take i w)) (r.mul (get_or v i d) (get_or w i e))
  dot-take v w i d e h k = rw add-one (go v w i h k)
    where
      go : (v w : List A) (i : ℕ) → i < length v → i < length w → dot r (take (suc i) v) (take (suc i) w) ≡ r.add (dot r (take i v) (take i w)) (r.mul (get_or v i d) (get_or w i e))
      go [] w i h k = absurd (omega arith)
      go (a ∷ v) [] i h k = absurd (omega arith)
      go (a ∷ v) (x ∷ w) zero h k = r.add_comm _ _
      go (a ∷ v) (x ∷ w) (suc i) h k = ap (r.add _) (go v w i (omega arith) (omega arith)) ∙ sym (r.add_assoc _ _ _)

  -- a list and its parts at one place
  pub dot-take_drop : (v w : List A) (i : ℕ) → r.add (dot r (take i v) (take i w)) (dot r (drop i v) (drop i w)) ≡ dot r v w
  dot-take_drop v w zero = Laws.zero_add r _
  dot-take_drop [] w (suc i) = Laws.zero_add r _
  dot-take_drop (a ∷ v) [] (suc i) = Laws.zero_add r _ ∙ dot-nil_right (drop i v)
  dot-take_drop (a ∷ v) (x ∷ w) (suc i) = r.add_assoc _ _ _ ∙ ap (r.add _) (dot-take_drop v w i)
