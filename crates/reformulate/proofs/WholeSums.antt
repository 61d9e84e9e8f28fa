-- Sums of whole rows with rational and with whole multipliers.
use Rattle.std.proofs.Common.{◌≡◌, ◌≢◌, ℕ, zero, suc, ◌*◌, ◌/◌, ℤ, pos, neg_ℤ, ◌*ℤ◌, List, [], ◌∷◌, length, map, refl, sym, ap, ap₂, ◌∙◌, arith, All, mul_comm}
use Rattle.std.specs.Int.{◌∣◌}
use Rattle.std.proofs.Math.Nat.{mul-div_cancel'}
use Rattle.std.proofs.lemmas.List.{length-map}
use Rattle.std.proofs.lemmas.List.Elements.{All-head, All-tail}
use Rattle.exact_math.specs.IntegerRing.{expand, linear}
use Rattle.exact_math.specs.Rational.{ℚ, whole, inv_ℚ, ◌*ℚ◌}
use Rattle.exact_math.specs.RationalLaws.{den_pos, frac-mul, frac-self, same_frac, whole-frac}
use Rattle.exact_math.specs.RationalRing.{rationals, mul_inv, whole_add, whole_mul}
use Rattle.exact_math.specs.Ring.{Ring, integers}
use Rattle.exact_math.specs.RingLaws as Laws
use Rattle.exact_vectors.specs.Matrices.{combination}
use Rattle.exact_vectors.specs.MatrixLaws as Matrix
use Rattle.exact_vectors.specs.Vectors.{add, scale, zeros}
use Rattle.row_lifting.specs.Lifting.{wholes, SumsTo}

-- ---- multiples of a combination, over any ring

module _ {A : Type 0} (r : Ring A) where
  scale-zeros : (k : A) (n : ℕ) → scale r k (zeros r n) ≡ zeros r n
  scale-zeros k zero = refl
  scale-zeros k (suc n) = ap₂ (λ (x : A) (l : List A). x ∷ l) (Laws.mul_zero r k) (scale-zeros k n)

  pub scale-scale : (k a : A) (v : List A) → scale r (r.mul k a) v ≡ scale r k (scale r a v)
  scale-scale k a [] = refl
  scale-scale k a (x ∷ v) = ap₂ (λ (y : A) (l : List A). y ∷ l) (r.mul_assoc k a x) (scale-scale k a v)

  scale-add : (k : A) (v w : List A) → scale r k (add r v w) ≡ add r (scale r k v) (scale r k w)
  scale-add k [] w = refl
  scale-add k (a ∷ v) [] = refl
  scale-add k (a ∷ v) (b ∷ w) = ap₂ (λ (y : A) (l : List A). y ∷ l) (r.mul_add k a b) (scale-add k v w)

  pub combination-scale : (n : ℕ) (k : A) (m : List A) (rows : List (List A)) → combination r n (scale r k m) rows ≡ scale r k (combination r n m rows)
  combination-scale n k [] rows = sym (scale-zeros k n)
  combination-scale n k (a ∷ m) [] = sym (scale-zeros k n)
  combination-scale n k (a ∷ m) (row ∷ rows) =
      ap₂ (add r) (scale-scale k a row) (combination-scale n k m rows) ∙ sym (scale-add k (scale r a row) (combination r n m rows))

  pub scale_one : (v : List A) → scale r (r.literal (pos 1)) v ≡ v
  scale_one [] = refl
  scale_one (a ∷ v) = ap₂ (λ (y : A) (l : List A). y ∷ l) (Laws.one_mul r a) (scale_one v)

-- ---- whole rows as rational ones

wholes-add : (v w : List ℤ) → wholes (add integers v w) ≡ add rationals (wholes v) (wholes w)
wholes-add [] w = refl
wholes-add (a ∷ v) [] = refl
wholes-add (a ∷ v) (b ∷ w) = ap₂ (λ (x : ℚ) (l : List ℚ). x ∷ l) (whole_add a b) (wholes-add v w)

wholes-scale : (k : ℤ) (v : List ℤ) → wholes (scale integers k v) ≡ scale rationals (whole k) (wholes v)
wholes-scale k [] = refl
wholes-scale k (a ∷ v) = ap₂ (λ (x : ℚ) (l : List ℚ). x ∷ l) (whole_mul k a) (wholes-scale k v)

wholes-zeros : (n : ℕ) → wholes (zeros integers n) ≡ zeros rationals n
wholes-zeros zero = refl
wholes-zeros (suc n) = ap (λ (l : List ℚ). whole (pos 0) ∷ l) (wholes-zeros n)

wholes-combination : (n : ℕ) (t : List ℤ) (rows : List (List ℤ)) → combination rationals n (wholes t) (map wholes rows) ≡ wholes (combination integers n t rows)
wholes-combination n [] rows = sym (wholes-zeros n)
wholes-combination n (k ∷ t) [] = sym (wholes-zeros n)
wholes-combination n (k ∷ t) (row ∷ rows) =
    ap₂ (add rationals) (sym (wholes-scale k row)) (wholes-combination n t rows) ∙ sym (wholes-add (scale integers k row) (combination integers n t rows))

whole-same : (a b : ℤ) → whole a ≡ whole b → a ≡ b
unfolding whole
whole-same a b e = ap (λ (q : ℚ). q.num) e

wholes-same : (v w : List ℤ) → wholes v ≡ wholes w → v ≡ w
wholes-same [] [] e = refl
wholes-same [] (b ∷ w) e = cc
wholes-same (a ∷ v) [] e = cc
wholes-same (a ∷ v) (b ∷ w) e =
    let first : whole a ≡ whole b = cc in
    let rest : wholes v ≡ wholes w = cc in
    ap₂ (λ (x : ℤ) (l : List ℤ). x ∷ l) (whole-same a b first) (wholes-same v w rest)

-- ---- from whole multipliers to rational ones

whole_nonzero : (k : ℤ) → k ≢ pos 0 → whole k ≢ whole (pos 0)
whole_nonzero k ne e = ne (whole-same k (pos 0) e)

-- whole times that sum up to a multiple of a row, divided by that multiple
pub sums_divided : (rows : List (List ℤ)) (w t : List ℤ) (k : ℤ) → k ≢ pos 0 → length t ≡ length rows → combination integers (length w) t rows ≡ scale integers k w → SumsTo rows (wholes w) (scale rationals (inv_ℚ (whole k)) (wholes t))
sums_divided rows w t k ne many sum = record {
  as_many = Matrix.length-scale rationals (inv_ℚ (whole k)) (wholes t) ∙ length-map t whole ∙ many;
  sum =
      ap (λ n. combination rationals n (scale rationals (inv_ℚ (whole k)) (wholes t)) (map wholes rows)) (length-map w whole)
      ∙ combination-scale rationals (length w) (inv_ℚ (whole k)) (wholes t) (map wholes rows)
      ∙ ap (scale rationals (inv_ℚ (whole k))) (wholes-combination (length w) t rows ∙ ap wholes sum ∙ wholes-scale k w)
      ∙ sym (scale-scale rationals (inv_ℚ (whole k)) (whole k) (wholes w))
      ∙ ap (λ q. scale rationals q (wholes w)) (rationals.mul_comm (inv_ℚ (whole k)) (whole k) ∙ mul_inv (whole k) (whole_nonzero k ne))
      ∙ scale_one rationals (wholes w);
}

-- ---- from rational multipliers to whole ones

-- the time of one multiplier, whose denominator divides the common one
time_is : (s : ℤ) (common : ℕ) (q : ℚ) → q.den ∣ common → whole (neg_ℤ (s *ℤ q.num) *ℤ pos (common / q.den)) ≡ whole (neg_ℤ (s *ℤ pos common)) *ℚ q
time_is s common q h =
    let c : ℤ = neg_ℤ (s *ℤ pos common) in
    let cancel : common / q.den * q.den ≡ common = mul_comm (common / q.den) q.den ∙ mul-div_cancel' q.den h in
    whole-frac (neg_ℤ (s *ℤ q.num) *ℤ pos (common / q.den))
    ∙ same_frac (neg_ℤ (s *ℤ q.num) *ℤ pos (common / q.den)) (c *ℤ q.num) 1 (1 * q.den) (omega arith) (let p = den_pos q in omega arith) (ap (λ d. neg_ℤ (s *ℤ q.num) *ℤ pos (common / q.den) *ℤ pos d) (one_times q.den) ∙ cross s q.num (pos (common / q.den)) (pos q.den) (pos common) (ap pos cancel))
    ∙ sym (ap₂ ◌*ℚ◌ (whole-frac c) (sym (frac-self q)) ∙ frac-mul c q.num 1 q.den (omega arith) (den_pos q))
  where
    one_times : (k : ℕ) → 1 * k ≡ k
    one_times k = omega arith

    cross : (s num e den common : ℤ) → e *ℤ den ≡ common → (neg_ℤ (s *ℤ num) *ℤ e) *ℤ den ≡ (neg_ℤ (s *ℤ common) *ℤ num) *ℤ pos 1
    cross s num e den common h = simp expand (omega (linear, simp expand at (ap (λ t. s *ℤ num *ℤ t) h)))

-- all of them
pub times_are : (s : ℤ) (common : ℕ) (m : List ℚ) → All (λ (q : ℚ). q.den ∣ common) m → wholes (map (λ (q : ℚ). neg_ℤ (s *ℤ q.num) *ℤ pos (common / q.den)) m) ≡ scale rationals (whole (neg_ℤ (s *ℤ pos common))) m
times_are s common [] h = refl
times_are s common (q ∷ m) h =
    ap₂ (λ (x : ℚ) (l : List ℚ). x ∷ l) (time_is s common q (All-head (λ (q : ℚ). q.den ∣ common) q m h)) (times_are s common m (All-tail (λ (q : ℚ). q.den ∣ common) q m h))

-- they sum up to a multiple of the row
pub sums_cleared : (rows : List (List ℤ)) (w : List ℤ) (m : List ℚ) (s : ℤ) (common : ℕ) → All (λ (q : ℚ). q.den ∣ common) m → SumsTo rows (wholes w) m
    → combination integers (length w) (map (λ (q : ℚ). neg_ℤ (s *ℤ q.num) *ℤ pos (common / q.den)) m) rows ≡ scale integers (neg_ℤ (s *ℤ pos common)) w
sums_cleared rows w m s common h sums =
    let t : List ℤ = map (λ (q : ℚ). neg_ℤ (s *ℤ q.num) *ℤ pos (common / q.den)) m in
    let c : ℤ = neg_ℤ (s *ℤ pos common) in
    wholes-same (combination integers (length w) t rows) (scale integers c w)
    (sym (wholes-combination (length w) t rows)
    ∙ ap (λ l. combination rationals (length w) l (map wholes rows)) (times_are s common m h)
    ∙ combination-scale rationals (length w) (whole c) m (map wholes rows)
    ∙ ap (λ n. scale rationals (whole c) (combination rationals n m (map wholes rows))) (sym (length-map w whole))
    ∙ ap (scale rationals (whole c)) sums.sum
    ∙ sym (wholes-scale c w))
