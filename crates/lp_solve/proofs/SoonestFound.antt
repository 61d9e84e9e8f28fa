-- The loop that looks for the slack that reaches 0 soonest.
use Rattle.std.proofs.Common.{◌≡◌, ◌≢◌, ℕ, ◌+◌, ◌<◌, ◌≤◌, pos, inl, inr, length, sym, ap, subst, ◌∙◌, arith, below_more}
use Rattle.std.proofs.lemmas.Int.{ints}
use Rattle.std.specs.Prelude.{Option, Some, None, MatchOption, ⊤}
use Rattle.exact_math.specs.Rational.{ℚ, neg_ℚ, ◌≤ℚ◌}
use Rattle.exact_math.specs.RationalLaws.{num_zero, zero_from_num}
use Rattle.exact_math.specs.RationalOrder as Order
use Rattle.exact_math.specs.RationalRing.{rationals}
use Rattle.exact_math.specs.RingLaws as Laws
use Rattle.lp_dict.specs.Dictionaries.{Dictionary}
use Rattle.lp_solve.specs.Rule.{IsFirst, Limits, IsSoonest, time_at, basic_at, IsNegative}
use Rattle.lp_solve.specs.Steps.{Sooner}
use Rattle.lp_solve.specs.declared.search.Limit.{Limit}

-- minus a number below 0 is not 0
pub fall_not_zero : (q f : ℚ) → f ≡ neg_ℚ q → IsNegative q → f.num ≢ pos 0
fall_not_zero q f e negative z =
    let zero_too : q.num ≡ pos 0 = num_zero q (sym (Laws.neg_neg rationals q) ∙ ap neg_ℚ (sym e ∙ zero_from_num f z) ∙ Laws.neg_zero rationals) in
    absurd (omega (arith, ints, zero_too, negative))

-- among the first `n` rows, `b` is at 0 soonest, and first of those
pub record IsSoonestBelow (d : Dictionary) (j n : ℕ) (b : Limit) : Type 0 where
  pub inside : b.row < n
  pub time : b.time ≡ time_at d j b.row
  pub limits : Limits d j b.row
  pub soonest : (k : ℕ) → k < n → Limits d j k → b.time ≤ℚ time_at d j k
  pub first : (k : ℕ) → k < n → Limits d j k → time_at d j k ≡ b.time → basic_at d b.row ≤ basic_at d k

-- what is found among the first `n` rows
abbrev pub SoonestSoFar : Dictionary → ℕ → ℕ → Option Limit → Type 0
SoonestSoFar d j n best = MatchOption best ((k : ℕ) → k < n → ¬ (Limits d j k)) (IsSoonestBelow d j n)

module _ (d : Dictionary) (j : ℕ) where
  -- the next row has no limit
  pub soonest_no : (best : Option Limit) (n : ℕ) → SoonestSoFar d j n best → ¬ (Limits d j n) → SoonestSoFar d j (n + 1) best
  soonest_no None n h refused = below_more _ _ h refused
  soonest_no (Some b) n h refused = record {
    inside = omega (arith, h.inside);
    time = h.time;
    limits = h.limits;
    soonest = below_more (λ k. Limits d j k → b.time ≤ℚ time_at d j k) _ h.soonest (λ p. absurd (refused p));
    first = below_more (λ k. Limits d j k → time_at d j k ≡ b.time → basic_at d b.row ≤ basic_at d k) _ h.first (λ p. absurd (refused p));
  }

  -- the new row is taken
  new_taken : (n : ℕ) (t : ℚ) → t ≡ time_at d j n → Limits d j n → ((k : ℕ) → k < n → Limits d j k → t ≤ℚ time_at d j k) → ((k : ℕ) → k < n → Limits d j k → time_at d j k ≡ t → basic_at d n ≤ basic_at d k)
      → IsSoonestBelow d j (n + 1) (record { row = n; time = t })
  new_taken n t is p soonest first = record {
    inside = omega arith;
    time = is;
    limits = p;
    soonest = below_more (λ k. Limits d j k → t ≤ℚ time_at d j k) _ soonest (λ q. subst (λ s. t ≤ℚ s) is (Order.le_refl t));
    first = below_more (λ k. Limits d j k → time_at d j k ≡ t → basic_at d n ≤ basic_at d k) _ first (λ q e. omega arith);
  }

  -- the next row has one
  pub soonest_yes : (best : Option Limit) (n : ℕ) (t : ℚ) (taken : Limit) → SoonestSoFar d j n best → Limits d j n → t ≡ time_at d j n → Sooner d best n t taken → SoonestSoFar d j (n + 1) (Some taken)
  soonest_yes None n t taken h p is s = subst (IsSoonestBelow d j (n + 1)) (sym s) (new_taken n t is p (λ k lt q. absurd (h k lt q)) (λ k lt q. absurd (h k lt q)))
  soonest_yes (Some b) n t taken h p is (inl s) = subst (IsSoonestBelow d j (n + 1)) (sym s.0) record {
    inside = omega (arith, h.inside);
    time = h.time;
    limits = h.limits;
    soonest = below_more (λ k. Limits d j k → b.time ≤ℚ time_at d j k) _ h.soonest (λ q. subst (λ z. b.time ≤ℚ z) is s.1);
    first = below_more (λ k. Limits d j k → time_at d j k ≡ b.time → basic_at d b.row ≤ basic_at d k) _ h.first (λ q e. s.2 (sym (is ∙ e)));
  }
  soonest_yes (Some b) n t taken h p is (inr s) = subst (IsSoonestBelow d j (n + 1)) (sym s.0)
      (new_taken n t is p (λ k lt q. Order.le_trans t b.time (time_at d j k) s.1 (h.soonest k lt q))
      (λ k lt q e.
      let same : t ≡ b.time = Order.le_antisym t b.time s.1 (subst (λ z. b.time ≤ℚ z) e (h.soonest k lt q)) in
      let one : basic_at d n ≤ basic_at d b.row = s.2 same in
      let other : basic_at d b.row ≤ basic_at d k = h.first k lt q (e ∙ same) in
      omega arith))

  -- all rows are looked at
  pub soonest_all : (b : Limit) (n : ℕ) → length d.basic ≤ n → n ≤ length d.basic → IsSoonestBelow d j n b → IsFirst d.basic (IsSoonest d j) b.row
  soonest_all b n low high h = record {
    inside = omega (arith, h.inside);
    holds = record { limits = h.limits; soonest = λ k lt q. subst (λ z. z ≤ℚ time_at d j k) h.time (h.soonest k (omega arith) q) };
    first = λ k lt q. h.first k (omega arith) q.limits (Order.le_antisym (time_at d j k) b.time (subst (λ z. time_at d j k ≤ℚ z) (sym h.time) (q.soonest b.row (omega (arith, h.inside)) h.limits)) (h.soonest k (omega arith) q.limits));
  }

  -- the row that is found so far is a row
  pub soonest_inside : (best : Option Limit) (n : ℕ) → n < length d.basic → SoonestSoFar d j n best → MatchOption best ⊤ (λ b. b.row < length d.basic)
  soonest_inside None n lt h = tt
  soonest_inside (Some b) n lt h = omega (arith, h.inside)
