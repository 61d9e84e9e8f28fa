-- Loops that look for the first variable with a property.
use Rattle.std.proofs.Common.{◌≡◌, ℕ, ◌+◌, ◌<◌, ◌≤◌, ◌⊎◌, inl, inr, List, length, get_or, sym, ap, subst, arith, below_more, IsTrue, true, false}
use Rattle.std.specs.Prelude.{Option, Some, None, MatchOption, ⊤}
use Rattle.lp_solve.specs.Steps.{FindsFirst}

-- among the first `n` places, `k` has the first variable with the property
pub record IsFirstBelow (variables : List ℕ) (P : ℕ → Type 0) (n k : ℕ) : Type 0 where
  pub inside : k < n
  pub holds : P k
  pub first : (i : ℕ) → i < n → P i → get_or variables k 0 ≤ get_or variables i 0

-- what is found among the first `n` places
abbrev pub FirstSoFar : List ℕ → (ℕ → Type 0) → ℕ → Option ℕ → Type 0
FirstSoFar variables P n best = MatchOption best ((k : ℕ) → k < n → ¬ (P k)) (IsFirstBelow variables P n)

-- which of two places is taken
abbrev pub Taken : List ℕ → Option ℕ → ℕ → ℕ → Type 0
Taken variables best n k = MatchOption best (k ≡ n) (λ b. ((k ≡ b) × (get_or variables b 0 ≤ get_or variables n 0)) ⊎ ((k ≡ n) × (get_or variables n 0 ≤ get_or variables b 0)))

-- what a test that fails refuses
pub refuse : {A : Type 0} → (A → IsTrue false) → ¬ A
refuse f p = let e : false ≡ true = f p in (cc)

module _ (variables : List ℕ) (P : ℕ → Type 0) where
  -- the next place has not the property
  pub found_no : (best : Option ℕ) (n : ℕ) → FirstSoFar variables P n best → ¬ (P n) → FirstSoFar variables P (n + 1) best
  found_no None n h refused = below_more _ _ h refused
  found_no (Some b) n h refused = record {
    inside = omega (arith, h.inside);
    holds = h.holds;
    first = below_more (λ i. P i → get_or variables b 0 ≤ get_or variables i 0) _ h.first (λ p. absurd (refused p));
  }

  -- the next place has it
  pub found_yes : (best : Option ℕ) (n k : ℕ) → FirstSoFar variables P n best → P n → Taken variables best n k → FirstSoFar variables P (n + 1) (Some k)
  found_yes None n k h p taken = record {
    inside = omega (arith, taken);
    holds = subst P (sym taken) p;
    first = below_more (λ i. P i → get_or variables k 0 ≤ get_or variables i 0) _ (λ i lt q. absurd (h i lt q)) (λ q. let same : get_or variables k 0 ≡ get_or variables n 0 = ap (λ j. get_or variables j 0) taken in omega (arith, same));
  }
  found_yes (Some b) n k h p (inl t) =
      let same : get_or variables k 0 ≡ get_or variables b 0 = ap (λ j. get_or variables j 0) t.0 in
      record {
        inside = omega (arith, t.0, h.inside);
        holds = subst P (sym t.0) h.holds;
        first = below_more (λ i. P i → get_or variables k 0 ≤ get_or variables i 0) _ (λ i lt q. omega (arith, h.first i lt q, same)) (λ q. omega (arith, t.1, same));
      }
  found_yes (Some b) n k h p (inr t) =
      let same : get_or variables k 0 ≡ get_or variables n 0 = ap (λ j. get_or variables j 0) t.0 in
      record {
        inside = omega (arith, t.0);
        holds = subst P (sym t.0) p;
        first = below_more (λ i. P i → get_or variables k 0 ≤ get_or variables i 0) _ (λ i lt q. omega (arith, h.first i lt q, t.1, same)) (λ q. omega (arith, same));
      }

  -- all places are looked at
  pub found_all : (best : Option ℕ) (n : ℕ) → length variables ≤ n → n ≤ length variables → FirstSoFar variables P n best → FindsFirst variables P best
  found_all None n low high h = λ k lt. h k (omega arith)
  found_all (Some b) n low high h = record {
    inside = omega (arith, h.inside);
    holds = h.holds;
    first = λ i lt p. h.first i (omega arith) p;
  }

  -- the place that is found so far is a place
  pub found_inside : (best : Option ℕ) (n : ℕ) → n < length variables → FirstSoFar variables P n best → MatchOption best ⊤ (λ k. k < length variables)
  found_inside None n lt h = tt
  found_inside (Some b) n lt h = omega (arith, h.inside)
