-- What the sum of products uses.
use Rattle.std.proofs.Common.{◌≡◌, ◌↔◌, ℕ, ◌+◌, ◌<◌, ◌≤◌, ℤ, pos, List, [], length, get_or, drop, sym, ap, subst, ◌∙◌, add-one, drop-cons}
use Rattle.std.proofs.lemmas.List.{get_or-map, drop_all}
use Rattle.exact_math.specs.Rational.{ℚ, whole, ◌+ℚ◌, ◌*ℚ◌}
use Rattle.exact_math.specs.RationalRing.{rationals}
use Rattle.exact_vectors.specs.Vectors.{dot}
use Rattle.exact_vectors.specs.DotLaws as Dot
use Rattle.frac128.specs.Range.{SumInRange, ProductInRange}
use Rattle.lp_dict.specs.Dictionaries.{none}
use Rattle.lp_dict.specs.Systems.{wholes}
use Rattle.norm_gauge.specs.Gauges.{SumStays}

-- the sum so far, from which what is left is in range where all is, and is the rest of the whole
pub record IsSummed (v w : List ℚ) (sum : ℚ) (j : ℕ) : Type 0 where
  pub same_range : SumStays none v w ↔ SumStays sum (drop j v) (drop j w)
  pub total : sum +ℚ dot rationals (drop j v) (drop j w) ≡ dot rationals v w

-- what is left from one place on
left_range : (s : ℚ) (v w : List ℚ) (j : ℕ) → j < length v → j < length w
    → SumStays s (drop j v) (drop j w) ↔ (ProductInRange (get_or v j none) (get_or w j none) × SumInRange s (get_or v j none *ℚ get_or w j none) × SumStays (s +ℚ get_or v j none *ℚ get_or w j none) (drop (j + 1) v) (drop (j + 1) w))
left_range s v w j h k = rw (add-one, drop-cons v j none, drop-cons w j none) (λ p. p, λ p. p)

-- a product is out of range, or the sum with it
pub refused : (v w : List ℚ) (sum : ℚ) (j : ℕ) (a x : ℚ) → j < length v → j < length w → a ≡ get_or v j none → x ≡ get_or w j none → IsSummed v w sum j → ¬ (ProductInRange a x × SumInRange sum (a *ℚ x)) → ¬ (SumStays none v w)
refused v w sum j a x h k e f summed out stays =
    let parts = (left_range sum v w j h k).0 (summed.same_range.0 stays) in
    out (subst (λ b. ProductInRange b x × SumInRange sum (b *ℚ x)) (sym e) (subst (λ y. ProductInRange (get_or v j none) y × SumInRange sum (get_or v j none *ℚ y)) (sym f) (parts.0, parts.1)))

-- a product is added
pub summed_more : (v w : List ℚ) (sum next : ℚ) (j : ℕ) (a x : ℚ) → j < length v → j < length w → a ≡ get_or v j none → x ≡ get_or w j none → IsSummed v w sum j → ProductInRange a x → SumInRange sum (a *ℚ x) → next ≡ sum +ℚ a *ℚ x → IsSummed v w next (j + 1)
summed_more v w sum next j a x h k e f summed product range is =
    let left = left_range sum v w j h k in
    let item : a *ℚ x ≡ get_or v j none *ℚ get_or w j none = ap (λ b. b *ℚ x) e ∙ ap (λ y. get_or v j none *ℚ y) f in
    let same : next ≡ sum +ℚ get_or v j none *ℚ get_or w j none = is ∙ ap (λ p. sum +ℚ p) item in
    let p : ProductInRange (get_or v j none) (get_or w j none) = subst (λ b. ProductInRange b (get_or w j none)) e (subst (λ y. ProductInRange a y) f product) in
    let r : SumInRange sum (get_or v j none *ℚ get_or w j none) = subst (SumInRange sum) item range in
    let rest : sum +ℚ dot rationals (drop j v) (drop j w) ≡ next +ℚ dot rationals (drop (j + 1) v) (drop (j + 1) w) =
    ap (λ d. sum +ℚ d) (Dot.dot-drop rationals v w j none none h k) ∙ sym (rationals.add_assoc sum (get_or v j none *ℚ get_or w j none) (dot rationals (drop (j + 1) v) (drop (j + 1) w))) ∙ ap (λ s. s +ℚ dot rationals (drop (j + 1) v) (drop (j + 1) w)) (sym same) in
    record {
      same_range = (
        λ stays. subst (λ s. SumStays s (drop (j + 1) v) (drop (j + 1) w)) (sym same) (left.0 (summed.same_range.0 stays)).2,
        λ stays. summed.same_range.1 (left.1 (p, r, subst (λ s. SumStays s (drop (j + 1) v) (drop (j + 1) w)) same stays)),
      );
      total = sym rest ∙ summed.total;
    }

-- nothing is left
pub summed_all : (v w : List ℚ) (sum : ℚ) (j : ℕ) → length v ≤ j → IsSummed v w sum j → SumStays none v w × (sum ≡ dot rationals v w)
summed_all v w sum j h summed =
    let gone : drop j v ≡ [] = drop_all j v h in (
      summed.same_range.1 (subst (λ l. SumStays sum l (drop j w)) (sym gone) tt),
      sym (rationals.add_zero sum) ∙ ap (λ d. sum +ℚ d) (sym (ap (λ l. dot rationals l (drop j w)) gone)) ∙ summed.total,
    )

-- the beginning
pub summed_none : (v w : List ℚ) (sum : ℚ) → sum ≡ none → IsSummed v w sum 0
summed_none v w sum is = record {
  same_range = (λ stays. subst (λ s. SumStays s v w) (sym is) stays, λ stays. subst (λ s. SumStays s v w) is stays);
  total = ap (λ s. s +ℚ dot rationals v w) is ∙ rationals.add_comm none (dot rationals v w) ∙ rationals.add_zero (dot rationals v w);
}

-- a factor as a fraction
pub factor_is : (form : List ℤ) (j : ℕ) (x : ℤ) (a : ℚ) → j < length form → x ≡ get_or form j (pos 0) → a ≡ whole x → a ≡ get_or (wholes form) j none
factor_is form j x a h r is = is ∙ ap whole r ∙ sym (get_or-map whole form j (pos 0) none h)
