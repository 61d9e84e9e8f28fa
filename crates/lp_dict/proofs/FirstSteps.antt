-- What the loops that write the first dictionary use.
use Rattle.std.proofs.Common.{◌≡◌, ℕ, zero, suc, ◌+◌, ◌<◌, ◌≤◌, ℤ, pos, List, [], ◌∷◌, ◌++◌, length, map, get_or, set, take, drop, refl, sym, ap, subst, ◌∙◌, arith, add-one, length-append}
use Rattle.std.proofs.lemmas.List.{length-map, get_or-map, get_or_append_left, get_or-append-add}
use Rattle.exact_math.specs.Rational.{ℚ, whole, neg_ℚ}
use Rattle.exact_math.specs.RationalRing.{rationals}
use Rattle.exact_vectors.specs.Vectors.{negate}
use Rattle.lp_dict.specs.Dictionaries.{none, numbers_from, slack_row}
use Rattle.lp_dict.specs.Systems.{wholes}
use Rattle.lp_dict.proofs.ListSteps.{written_more, written_all}

-- one more variable
pub numbers_more : (first i : ℕ) → numbers_from first i ++ (first + i) ∷ [] ≡ numbers_from first (i + 1)
numbers_more first i = rw add-one (go first i)
  where
    go : (first i : ℕ) → numbers_from first i ++ (first + i) ∷ [] ≡ numbers_from first (suc i)
    go first zero = let same : first + 0 ≡ first = omega arith in ap (λ n. n ∷ []) same
    go first (suc i) = let same : first + suc i ≡ suc first + i = omega arith in ap (λ n. first ∷ (numbers_from (suc first) i ++ n ∷ [])) same ∙ ap (λ l. first ∷ l) (go (suc first) i)

-- how many they are
pub length-numbers_from : (first count : ℕ) → length (numbers_from first count) ≡ count
length-numbers_from first zero = refl
length-numbers_from first (suc count) = ap suc (length-numbers_from (suc first) count)

-- ---- a row of mapped factors and a last item

module _ (f : ℤ → ℚ) (factors : List ℤ) (last : ℚ) (old : List ℚ) (size : length old ≡ length factors + 1) where
  -- it has the length of the row
  long : length (map f factors ++ last ∷ []) ≡ length old
  long = length-append (map f factors) (last ∷ []) ∙ ap (λ n. n + 1) (length-map factors f) ∙ sym size

  -- a factor written
  pub factor_more : (now : List ℚ) (j : ℕ) (a : ℚ) (x : ℤ) → j < length factors → x ≡ get_or factors j (pos 0) → a ≡ f x → now ≡ take j (map f factors ++ last ∷ []) ++ drop j old → set now j a ≡ take (j + 1) (map f factors ++ last ∷ []) ++ drop (j + 1) old
  factor_more now j a x h r v is =
      let place : j < length (map f factors) = simp length-map h in
      let inside : j < length old = omega arith in
      written_more (map f factors ++ last ∷ []) old now j a none long inside is
      (v ∙ ap f r ∙ sym (get_or-map f factors j (pos 0) none h) ∙ sym (get_or_append_left (map f factors) (last ∷ []) none j place))

  -- the last item written
  pub last_written : (now : List ℚ) (j : ℕ) (a : ℚ) → length factors ≤ j → j ≤ length factors → a ≡ last → now ≡ take j (map f factors ++ last ∷ []) ++ drop j old → set now (length factors) a ≡ map f factors ++ last ∷ []
  last_written now j a low high v is =
      let end : j ≡ length factors = omega arith in
      let count : length (map f factors) ≡ length factors = length-map factors f in
      let inside : length factors < length old = omega arith in
      let item : a ≡ get_or (map f factors ++ last ∷ []) (length factors) none
      = v ∙ sym (ap (λ k. get_or (map f factors ++ last ∷ []) k none) (sym count ∙ (let plus : length (map f factors) ≡ length (map f factors) + 0 = omega arith in plus)) ∙ get_or-append-add (map f factors) (last ∷ []) 0 none) in
      let begun : now ≡ take (length factors) (map f factors ++ last ∷ []) ++ drop (length factors) old = subst (λ k. now ≡ take k (map f factors ++ last ∷ []) ++ drop k old) end is in
      let past : length old ≤ length factors + 1 = omega arith in
      written_more (map f factors ++ last ∷ []) old now (length factors) a none long inside begun item ∙ written_all (map f factors ++ last ∷ []) old (length factors + 1) long past

-- the negated row
pub negated_wholes : (factors : List ℤ) → negate rationals (wholes factors) ≡ map (λ z. neg_ℚ (whole z)) factors
negated_wholes [] = refl
negated_wholes (z ∷ factors) = ap (λ l. neg_ℚ (whole z) ∷ l) (negated_wholes factors)

-- ---- the row of a slack

module _ (factors : List ℤ) (limit : ℚ) (old : List ℚ) (size : length old ≡ length factors + 1) where
  -- the row by its factors
  row_is : slack_row (wholes factors) limit ≡ map (λ z. neg_ℚ (whole z)) factors ++ limit ∷ []
  row_is = ap (λ l. l ++ limit ∷ []) (negated_wholes factors)

  -- a factor written
  pub slack_more : (now : List ℚ) (j : ℕ) (a : ℚ) (x : ℤ) → j < length factors → x ≡ get_or factors j (pos 0) → a ≡ neg_ℚ (whole x) → now ≡ take j (slack_row (wholes factors) limit) ++ drop j old
      → set now j a ≡ take (j + 1) (slack_row (wholes factors) limit) ++ drop (j + 1) old
  slack_more now j a x h r v is =
      subst (λ l. set now j a ≡ take (j + 1) l ++ drop (j + 1) old) (sym row_is) (factor_more (λ z. neg_ℚ (whole z)) factors limit old size now j a x h r v (subst (λ l. now ≡ take j l ++ drop j old) row_is is))

  -- the limit written
  pub slack_last : (now : List ℚ) (j : ℕ) → length factors ≤ j → j ≤ length factors → now ≡ take j (slack_row (wholes factors) limit) ++ drop j old → set now (length factors) limit ≡ slack_row (wholes factors) limit
  slack_last now j low high is = last_written (λ z. neg_ℚ (whole z)) factors limit old size now j limit low high refl (subst (λ l. now ≡ take j l ++ drop j old) row_is is) ∙ sym row_is
