-- Values of variables by a list of them.
use Rattle.std.proofs.Common.{◌≡◌, ◌≢◌, ℕ, zero, suc, ◌+◌, ◌<◌, ◌≤◌, ◌⊎◌, inl, inr, List, [], ◌∷◌, ◌++◌, length, get_or, drop, refl, sym, ap, subst, arith, add-one, drop-cons, Bool, true, false}
use Rattle.std.specs.Prelude.{◌==◌, if◌then◌else◌}
use Rattle.std.proofs.lemmas.Bool.{eqb-true, eq-eqb}
use Rattle.exact_math.specs.Rational.{ℚ, neg_ℚ}
use Rattle.exact_math.specs.RationalRing.{rationals}
use Rattle.exact_math.specs.RingLaws as Laws
use Rattle.exact_vectors.specs.Vectors.{negate, zeros}
use Rattle.lp_dict.specs.Dictionaries.{none}
use Rattle.lp_solve.specs.Values.{value_of}

-- one number is below another, or at least the other
pub lt_or_le : (i r : ℕ) → (i < r) ⊎ (r ≤ i)
lt_or_le i zero = inr (omega arith)
lt_or_le zero (suc r) = inl (omega arith)
lt_or_le (suc i) (suc r) = elim (lt_or_le i r) [ inl h ↦ inl (omega arith) | inr h ↦ inr (omega arith) ]

-- two numbers that differ
pub unequal : (k v : ℕ) → k ≢ v → (k == v) ≡ false
unequal k v ne = go (k == v) refl
  where
    go : (b : Bool) → (k == v) ≡ b → (k == v) ≡ false
    go true e = absurd (ne (eqb-true k v e))
    go false e = e

-- the first variable
pub value_of-same : (k : ℕ) (q : ℚ) (ks : List ℕ) (qs : List ℚ) (v : ℕ) → k ≡ v → value_of (k ∷ ks) (q ∷ qs) v ≡ q
value_of-same k q ks qs v e = ap (λ t. if t then q else value_of ks qs v) (eq-eqb k v e)

-- another variable
pub value_of-other : (k : ℕ) (q : ℚ) (ks : List ℕ) (qs : List ℚ) (v : ℕ) → k ≢ v → value_of (k ∷ ks) (q ∷ qs) v ≡ value_of ks qs v
value_of-other k q ks qs v ne = ap (λ t. if t then q else value_of ks qs v) (unequal k v ne)

-- a variable that is found
pub value_found : (ks : List ℕ) (qs : List ℚ) (v j : ℕ) → j < length ks → j < length qs → get_or ks j 0 ≡ v → value_of (drop j ks) (drop j qs) v ≡ get_or qs j none
value_found ks qs v j h k e = rw (drop-cons ks j 0, drop-cons qs j none) (value_of-same (get_or ks j 0) (get_or qs j none) (drop (suc j) ks) (drop (suc j) qs) v e)

-- one that is not
pub value_passed : (ks : List ℕ) (qs : List ℚ) (v j : ℕ) → j < length ks → j < length qs → get_or ks j 0 ≢ v → value_of (drop (j + 1) ks) (drop (j + 1) qs) v ≡ value_of (drop j ks) (drop j qs) v
value_passed ks qs v j h k ne = rw (drop-cons ks j 0, drop-cons qs j none, add-one) (sym (value_of-other (get_or ks j 0) (get_or qs j none) (drop (suc j) ks) (drop (suc j) qs) v ne))

-- the end of the list
pub value_none : (ks : List ℕ) (qs : List ℚ) (v j : ℕ) → length ks ≤ j → value_of (drop j ks) (drop j qs) v ≡ none
value_none [] qs v zero h = refl
value_none [] qs v (suc j) h = refl
value_none (k ∷ ks) qs v zero h = absurd (omega arith)
value_none (k ∷ ks) [] v (suc j) h = nothing (drop j ks)
  where
    nothing : (l : List ℕ) → value_of l [] v ≡ none
    nothing [] = refl
    nothing (x ∷ l) = refl
value_none (k ∷ ks) (q ∷ qs) v (suc j) h = value_none ks qs v j (omega arith)

-- what holds of 0, and of each value beside the variable, holds of its value
pub value_of-cases : (P : ℚ → Type 0) (ks : List ℕ) (qs : List ℚ) (v : ℕ) → P none → ((i : ℕ) → i < length ks → get_or ks i 0 ≡ v → P (get_or qs i none)) → P (value_of ks qs v)
value_of-cases P [] qs v z h = z
value_of-cases P (k ∷ ks) [] v z h = z
value_of-cases P (k ∷ ks) (q ∷ qs) v z h = go (k == v) refl (value_of-cases P ks qs v z (λ i lt f. h (suc i) (omega arith) f))
  where
    go : (b : Bool) → (k == v) ≡ b → P (value_of ks qs v) → P (if k == v then q else value_of ks qs v)
    go true e rest = subst (λ t. P (if t then q else value_of ks qs v)) (sym e) (h 0 (omega arith) (eqb-true k v e))
    go false e rest = subst (λ t. P (if t then q else value_of ks qs v)) (sym e) rest

-- zeros behind the values change nothing
pub value_of-zeros : (ks ls : List ℕ) (qs : List ℚ) (n v : ℕ) → length qs ≡ length ks → value_of (ks ++ ls) (qs ++ zeros rationals n) v ≡ value_of ks qs v
value_of-zeros [] ls [] n v e = go ls n
  where
    go : (ls : List ℕ) (n : ℕ) → value_of ls (zeros rationals n) v ≡ none
    go [] n = refl
    go (l ∷ ls) zero = refl
    go (l ∷ ls) (suc n) = value_of-cases (λ q. q ≡ none) (l ∷ ls) (zeros rationals (suc n)) v refl (λ i lt f. all n (l ∷ ls) i)
      where
        all : (n : ℕ) (ls : List ℕ) (i : ℕ) → get_or (zeros rationals (suc n)) i none ≡ none
        all n ls zero = refl
        all zero ls (suc i) = refl
        all (suc n) ls (suc i) = all n ls i
value_of-zeros [] ls (q ∷ qs) n v e = absurd (omega arith)
value_of-zeros (k ∷ ks) ls [] n v e = absurd (omega arith)
value_of-zeros (k ∷ ks) ls (q ∷ qs) n v e = ap (λ t. if k == v then q else t) (value_of-zeros ks ls qs n v (omega arith))

-- minus each value gives minus the value
pub value_of-negate : (ks : List ℕ) (qs : List ℚ) (v : ℕ) → value_of ks (negate rationals qs) v ≡ neg_ℚ (value_of ks qs v)
value_of-negate [] qs v = minus_zero
  where
    minus_zero : none ≡ neg_ℚ none
    minus_zero = sym (Laws.neg_zero rationals)
value_of-negate (k ∷ ks) [] v = sym (Laws.neg_zero rationals)
value_of-negate (k ∷ ks) (q ∷ qs) v = go (k == v) (value_of-negate ks qs v)
  where
    go : (b : Bool) → value_of ks (negate rationals qs) v ≡ neg_ℚ (value_of ks qs v) → (if b then neg_ℚ q else value_of ks (negate rationals qs) v) ≡ neg_ℚ (if b then q else value_of ks qs v)
    go true rest = refl
    go false rest = rest

-- values behind the variables are not read
pub value_of-more : (ks : List ℕ) (ps qs : List ℚ) (v : ℕ) → length ps ≡ length ks → value_of ks (ps ++ qs) v ≡ value_of ks ps v
value_of-more [] ps qs v e = refl
value_of-more (k ∷ ks) [] qs v e = absurd (omega arith)
value_of-more (k ∷ ks) (p ∷ ps) qs v e = ap (λ t. if k == v then p else t) (value_of-more ks ps qs v (omega arith))
