-- What a program's comparison of two rational numbers says: each test by `rational_cmp` against the order, both ways. The set `rational_tests` gives them to `search` and `grind`.
use Rattle.std.proofs.Common.{◌≡◌, Bool, true, false, not, true≢false, Less, Equal, Greater, Ordering, Decides, refl, sym, ap, ◌∙◌, subst}
use Rattle.std.specs.Ordering.{is_lt, is_le, is_gt, is_ge, is_eq, MatchOrdering}
use Rattle.exact_math.specs.Rational.{ℚ, ◌≤ℚ◌, ◌<ℚ◌, rational_cmp}
use Rattle.exact_math.specs.RationalOrder.{ranked, le_refl, le_of_lt, not_le_of_lt}

-- the fact of a test, from what each of the three answers says
by_answer : (test : Ordering → Bool) (o : Ordering) (A B C P : Type 0) → MatchOrdering o A B C → (A → test Less ≡ true → P) → (B → test Equal ≡ true → P) → (C → test Greater ≡ true → P) → test o ≡ true → P
by_answer test Less A B C P h f g k e = f h e
by_answer test Equal A B C P h f g k e = g h e
by_answer test Greater A B C P h f g k e = k h e

-- the test from its fact
to_answer : (test : Ordering → Bool) (o : Ordering) (A B C : Type 0) → MatchOrdering o A B C → (A → test Less ≡ true) → (B → test Equal ≡ true) → (C → test Greater ≡ true) → test o ≡ true
to_answer test Less A B C h f g k = f h
to_answer test Equal A B C h f g k = g h
to_answer test Greater A B C h f g k = k h

-- equal numbers are at most each other
same_le : (p q : ℚ) → p ≡ q → p ≤ℚ q
same_le p q e = subst (λ r. p ≤ℚ r) e (le_refl p)

-- no test is both
not_true : {P : Type 0} → false ≡ true → P
not_true e = absurd (true≢false (sym e))

module _ (p q : ℚ) where
  -- ---- a test that passed

  -- below
  pub lt_true : is_lt (rational_cmp p q) ≡ true → p <ℚ q
  lt_true = by_answer is_lt (rational_cmp p q) _ _ _ (p <ℚ q) (ranked p q) (λ h e. h) (λ h e. not_true e) (λ h e. not_true e)

  -- at most
  pub le_true : is_le (rational_cmp p q) ≡ true → p ≤ℚ q
  le_true = by_answer is_le (rational_cmp p q) _ _ _ (p ≤ℚ q) (ranked p q) (λ h e. le_of_lt p q h) (λ h e. same_le p q h) (λ h e. not_true e)

  -- above
  pub gt_true : is_gt (rational_cmp p q) ≡ true → q <ℚ p
  gt_true = by_answer is_gt (rational_cmp p q) _ _ _ (q <ℚ p) (ranked p q) (λ h e. not_true e) (λ h e. not_true e) (λ h e. h)

  -- at least
  pub ge_true : is_ge (rational_cmp p q) ≡ true → q ≤ℚ p
  ge_true = by_answer is_ge (rational_cmp p q) _ _ _ (q ≤ℚ p) (ranked p q) (λ h e. not_true e) (λ h e. same_le q p (sym h)) (λ h e. le_of_lt q p h)

  -- equal
  pub eq_true : is_eq (rational_cmp p q) ≡ true → p ≡ q
  eq_true = by_answer is_eq (rational_cmp p q) _ _ _ (p ≡ q) (ranked p q) (λ h e. not_true e) (λ h e. h) (λ h e. not_true e)

  -- ---- a test that holds

  -- below
  pub true_lt : p <ℚ q → is_lt (rational_cmp p q) ≡ true
  true_lt h = to_answer is_lt (rational_cmp p q) _ _ _ (ranked p q) (λ k. refl) (λ k. absurd (not_le_of_lt p q h (same_le q p (sym k)))) (λ k. absurd (not_le_of_lt p q h (le_of_lt q p k)))

  -- at most
  pub true_le : p ≤ℚ q → is_le (rational_cmp p q) ≡ true
  true_le h = to_answer is_le (rational_cmp p q) _ _ _ (ranked p q) (λ k. refl) (λ k. refl) (λ k. absurd (not_le_of_lt q p k h))

  -- equal
  pub true_eq : p ≡ q → is_eq (rational_cmp p q) ≡ true
  true_eq h = to_answer is_eq (rational_cmp p q) _ _ _ (ranked p q) (λ k. absurd (not_le_of_lt p q k (same_le q p (sym h)))) (λ k. refl) (λ k. absurd (not_le_of_lt q p k (same_le p q h)))

  -- ---- a test that failed is another that passed

  -- where one of two opposite tests fails the other passes
  opposite : (test other : Ordering → Bool) (o : Ordering) → (other Less ≡ not (test Less)) → (other Equal ≡ not (test Equal)) → (other Greater ≡ not (test Greater)) → test o ≡ false → other o ≡ true
  opposite test other Less f g h e = f ∙ ap not e
  opposite test other Equal f g h e = g ∙ ap not e
  opposite test other Greater f g h e = h ∙ ap not e

  -- not below
  pub lt_false : is_lt (rational_cmp p q) ≡ false → q ≤ℚ p
  lt_false e = ge_true (opposite is_lt is_ge (rational_cmp p q) refl refl refl e)

  -- not at most
  pub le_false : is_le (rational_cmp p q) ≡ false → q <ℚ p
  le_false e = gt_true (opposite is_le is_gt (rational_cmp p q) refl refl refl e)

  -- not above
  pub gt_false : is_gt (rational_cmp p q) ≡ false → p ≤ℚ q
  gt_false e = le_true (opposite is_gt is_le (rational_cmp p q) refl refl refl e)

  -- not at least
  pub ge_false : is_ge (rational_cmp p q) ≡ false → p <ℚ q
  ge_false e = lt_true (opposite is_ge is_lt (rational_cmp p q) refl refl refl e)

  -- ---- the three answers

  -- `Less`
  pub Less-is : rational_cmp p q ≡ Less → p <ℚ q
  Less-is e = lt_true (ap is_lt e)

  -- `Equal`
  pub Equal-is : rational_cmp p q ≡ Equal → p ≡ q
  Equal-is e = eq_true (ap is_eq e)

  -- `Greater`
  pub Greater-is : rational_cmp p q ≡ Greater → q <ℚ p
  Greater-is e = gt_true (ap is_gt e)

-- the test `<` and the fact
pub lt_decides : (p q : ℚ) → Decides (is_lt (rational_cmp p q)) (p <ℚ q)
lt_decides p q = (lt_true p q, true_lt p q)

-- the test `<=` and the fact
pub le_decides : (p q : ℚ) → Decides (is_le (rational_cmp p q)) (p ≤ℚ q)
le_decides p q = (le_true p q, true_le p q)

-- the test `==` and the fact
pub eq_decides : (p q : ℚ) → Decides (is_eq (rational_cmp p q)) (p ≡ q)
eq_decides p q = (eq_true p q, true_eq p q)

-- with the order's first laws, which join two such facts
pub ruleset rational_tests = (le_refl, le_of_lt, lt_true, le_true, gt_true, ge_true, eq_true, true_lt, true_le, true_eq, lt_false, le_false, gt_false, ge_false, Less-is, Equal-is, Greater-is)
