-- The unit vectors are a reduced basis.
use Rattle.std.proofs.Common.{◌≡◌, ◌≢◌, ⊎_elim, ℕ, zero, suc, ◌<◌, ℤ, pos, negsuc, List, [], ◌∷◌, length, get_or, refl, sym, ap, ap₂, subst, subst₂, ◌∙◌, arith}
use Rattle.std.proofs.lemmas.Bool.{cases_eq}
use Rattle.std.proofs.Math.Seq.{get_or-append_seam}
use Rattle.exact_math.specs.IntegerRing.{linear}
use Rattle.exact_math.specs.RingLaws as Laws
use Rattle.exact_math.specs.RingSolver.{ring, reads}
use Rattle.exact_math.specs.Rational.{ℚ, whole, frac, ◌+ℚ◌, ◌-ℚ◌, ◌*ℚ◌, ◌≤ℚ◌, inv_ℚ}
use Rattle.exact_math.specs.RationalLaws.{whole-frac, frac-neg}
use Rattle.exact_math.specs.RationalOrder.{le_frac}
use Rattle.exact_math.specs.RationalRing.{rationals}
use Rattle.exact_math.specs.Ring.{integers}
use Rattle.exact_vectors.specs.MatrixLaws.{zeros-at}
use Rattle.exact_vectors.specs.SumLaws.{sum_below-zero}
use Rattle.exact_vectors.specs.Vectors.{sum_below, zeros}
use Rattle.gram_minors.specs.Orthogonalisation.{inner, coefficient, orthogonal_part, star, mu, norm, rational_rows, IsAtMostHalf, IsLovaszReduced, LovaszHolds}
use Rattle.gram_minors.specs.OrthogonalLaws.{below_next}
use Rattle.lattice_reduce.specs.Beside.{with_last, IsShortBeside}
use Rattle.lattice_reduce.specs.Numbers.{items_of}
use Rattle.unimodular_pair.specs.PairLaws.{identity-other, identity-same}
use Rattle.unimodular_pair.specs.Pairs.{identity}

-- ---- vectors that are orthogonal already

module _ (n : ℕ) (b : ℕ → ℕ → ℚ) where
  -- nothing is along a vector that is orthogonal
  none_along : (v w : ℕ → ℚ) → inner rationals n v w ≡ whole (pos 0) → coefficient n v w ≡ whole (pos 0)
  none_along v w e = ap (λ z. z *ℚ inv_ℚ (inner rationals n w w)) e ∙ Laws.zero_mul rationals (inv_ℚ (inner rationals n w w))

  -- nothing is taken off
  part_stays : (k : ℕ) (v : ℕ → ℚ) → ((j : ℕ) → j < k → star n b j ≡ b j) → ((j : ℕ) → j < k → inner rationals n v (b j) ≡ whole (pos 0)) → orthogonal_part n b k v ≡ v
  part_stays zero v stars h = refl
  part_stays (suc k) v stars h =
      let before = part_stays k v (λ j lt. stars j (omega arith)) (λ j lt. h j (omega arith)) in
      let none : coefficient n v (star n b k) ≡ whole (pos 0) = none_along v (star n b k) (ap (inner rationals n v) (stars k (omega arith)) ∙ h k (omega arith)) in
      λ t i. nothing (orthogonal_part n b k v i) (v i) (coefficient n v (star n b k)) (star n b k i) (λ s. before s i) none t
    where
      nothing : (x y c s : ℚ) → x ≡ y → c ≡ whole (pos 0) → x -ℚ c *ℚ s ≡ y
      nothing x y c s e f = ap₂ (λ p q. p -ℚ q *ℚ s) e f ∙ ring rationals (y ∷ s ∷ []) (search reads depth 30) (search reads depth 30) refl

  stars_are : ((k j : ℕ) → j ≢ k → inner rationals n (b k) (b j) ≡ whole (pos 0)) → (k j : ℕ) → j < k → star n b j ≡ b j
  stars_are apart zero j lt = absurd (omega arith)
  stars_are apart (suc k) j lt =
      ⊎_elim (λ (below : j < k). stars_are apart k j below)
      (λ (e : j ≡ k). subst (λ i. star n b i ≡ b i) (sym e) (part_stays k (b k) (stars_are apart k) (λ i below. apart k i (λ z. absurd (omega arith)))))
      (below_next j k lt)

-- ---- the unit vectors

module _ (n : ℕ) where
  abbrev pub unit : ℕ → ℕ → ℚ
  unit = rational_rows (items_of (identity n))

  -- two of them are orthogonal
  apart : (k j : ℕ) → j ≢ k → inner rationals n (unit k) (unit j) ≡ whole (pos 0)
  apart k j ne =
      sum_below-zero rationals n (λ i. unit k i *ℚ unit j i)
      (λ i lt.
      ⊎_elim
      (λ (e : i ≡ k). ap (λ z. unit k i *ℚ whole z) (identity-other n j i (λ z. ne (z ∙ e))) ∙ Laws.mul_zero rationals (unit k i))
      (λ (other : i ≡ k → ⊥). ap (λ z. whole z *ℚ unit j i) (identity-other n k i (λ z. other (sym z))) ∙ Laws.zero_mul rationals (unit j i))
      (cases_eq i k))

  -- each has the length 1
  square : (k : ℕ) → k < n → inner rationals n (unit k) (unit k) ≡ whole (pos 1)
  square k lt = only n k (λ i. unit k i *ℚ unit k i) lt (λ i ne. ap (λ z. whole z *ℚ unit k i) (identity-other n k i (λ z. ne (sym z))) ∙ Laws.zero_mul rationals (unit k i)) ∙ ap (λ z. whole z *ℚ whole z) (identity-same n k lt) ∙ rationals.mul_one (whole (pos 1))
    where
      only : (m k : ℕ) (f : ℕ → ℚ) → k < m → ((i : ℕ) → i ≢ k → f i ≡ whole (pos 0)) → sum_below rationals m f ≡ f k
      only zero k f h others = absurd (omega arith)
      only (suc m) k f h others =
          ⊎_elim
          (λ (below : k < m). ap₂ ◌+ℚ◌ (only m k f below others) (others m (λ z. absurd (omega arith))) ∙ rationals.add_zero (f k))
          (λ (e : k ≡ m). ap₂ ◌+ℚ◌ (sum_below-zero rationals m f (λ i lt. others i (λ z. absurd (omega arith)))) (ap f (sym e)) ∙ Laws.zero_add rationals (f k))
          (below_next k m h)

  no_mu : (k j : ℕ) → j < k → mu n unit k j ≡ whole (pos 0)
  no_mu k j lt = none_along n unit (unit k) (star n unit j) (ap (inner rationals n (unit k)) (stars_are n unit apart k j lt) ∙ apart k j (λ z. absurd (omega arith)))

  zero_is_small : IsAtMostHalf (whole (pos 0))
  zero_is_small = (
    subst₂ ◌≤ℚ◌ (sym (frac-neg (pos 1) 2 (omega arith))) (sym (whole-frac (pos 0))) (le_frac (negsuc 0) (pos 0) 2 1 (omega arith) (omega arith) (omega linear)),
    subst (λ z. z ≤ℚ frac (pos 1) 2) (sym (whole-frac (pos 0))) (le_frac (pos 0) (pos 1) 1 2 (omega arith) (omega arith) (omega linear)),
  )

  in_order : (k : ℕ) → suc k < n → LovaszHolds n unit k
  in_order k lt =
      let first : star n unit k ≡ unit k = stars_are n unit apart (suc k) k (omega arith) in
      let second : star n unit (suc k) ≡ unit (suc k) = stars_are n unit apart (suc (suc k)) (suc k) (omega arith) in
      let v : ℕ → ℚ = λ i. star n unit (suc k) i +ℚ mu n unit (suc k) k *ℚ star n unit k i in
      let same : v ≡ unit (suc k) = λ t i. nothing (star n unit (suc k) i) (unit (suc k) i) (mu n unit (suc k) k) (star n unit k i) (λ s. second s i) (no_mu (suc k) k (omega arith)) t in
      let left : frac (pos 3) 4 *ℚ norm n unit k ≡ frac (pos 3) 4 = ap (λ w. frac (pos 3) 4 *ℚ inner rationals n w w) first ∙ ap (λ z. frac (pos 3) 4 *ℚ z) (square k (omega arith)) ∙ rationals.mul_one (frac (pos 3) 4) in
      let right : inner rationals n v v ≡ frac (pos 1) 1 = ap (λ w. inner rationals n w w) same ∙ square (suc k) lt ∙ whole-frac (pos 1) in
      subst₂ ◌≤ℚ◌ (sym left) (sym right) (le_frac (pos 3) (pos 1) 4 1 (omega arith) (omega arith) (omega linear))
    where
      nothing : (x y c s : ℚ) → x ≡ y → c ≡ whole (pos 0) → x +ℚ c *ℚ s ≡ y
      nothing x y c s e f = ap₂ (λ p q. p +ℚ q *ℚ s) e f ∙ ring rationals (y ∷ s ∷ []) (search reads depth 30) (search reads depth 30) refl

  pub unit_vectors_are_reduced : IsLovaszReduced n (rational_rows (items_of (identity n))) n
  unit_vectors_are_reduced = record {
    size = λ k j lt below. subst IsAtMostHalf (sym (no_mu k j lt)) zero_is_small;
    neighbours = in_order;
  }

-- a vector of zeros is short beside any rows
pub zeros_are_short : (n : ℕ) (rows : List (List ℤ)) → IsShortBeside n rows (zeros integers n)
zeros_are_short n rows j lt = subst IsAtMostHalf (sym (none_along n b (b (length rows)) (star n b j) nothing)) (zero_is_small n)
  where
    b : ℕ → ℕ → ℚ
    b = rational_rows (items_of (with_last rows (zeros integers n)))

    is_zero : (i : ℕ) → b (length rows) i ≡ whole (pos 0)
    is_zero i = ap (λ (l : List ℤ). whole (get_or l i (pos 0))) (get_or-append_seam rows (zeros integers n) [] []) ∙ ap whole (zeros-at integers n i)

    nothing : inner rationals n (b (length rows)) (star n b j) ≡ whole (pos 0)
    nothing = sum_below-zero rationals n (λ i. b (length rows) i *ℚ star n b j i) (λ i below. ap (λ z. z *ℚ star n b j i) (is_zero i) ∙ Laws.zero_mul rationals (star n b j i))
