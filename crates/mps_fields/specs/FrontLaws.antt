-- How many items in front of a list, or at its end, pass a test.
use Rattle.std.proofs.Common.{◌≡◌, ℕ, suc, ◌+◌, Bool, true, false, cond, not, ltb, List, [], ◌∷◌, length, take, reverse, Some, None, refl, sym, ap, subst, ◌∙◌, arith}
use Rattle.std.specs.Prelude.{position}
use Rattle.std.specs.List.{list_all, prefix_len, suffix_len, position_or_len}
use Rattle.std.proofs.lemmas.Bool.{and_from}
use Rattle.std.proofs.lemmas.List.{length-reverse}
use Rattle.std.proofs.lemmas.List.Sums.{prefix_len-le-length}
use Rattle.std.proofs.lemmas.Option.{cond_some, none-some}
use Rattle.mps_fields.specs.BooleanLaws.{either}

-- one more on either side
pub one_more : (n : ℕ) → 1 + n ≡ suc n
one_more n = omega arith

-- ---- the first item that passes

-- the place that `position` finds
pub place_some : {X : Type 0} (p : X → Bool) (xs : List X) (i : ℕ) → position p xs ≡ Some i → i ≡ position_or_len p xs
place_some p xs i e = sym (cond_some _ _ _ e).1

-- where it finds none, the whole list is passed
pub place_none : {X : Type 0} (p : X → Bool) (xs : List X) → position p xs ≡ None → length xs ≡ position_or_len p xs
place_none p xs e =
    let end : ℕ = position_or_len p xs in
    either (ltb end (length xs))
    (λ t. absurd (none-some end (sym e ∙ ap (λ c. cond c (Some end) None) t)))
    (λ t. grind (arith, t, prefix_len-le-length (λ x. not (p x)) xs))

-- ---- the items in front that pass

not_not : (b : Bool) → not (not b) ≡ b
not_not true = refl
not_not false = refl

module _ {X : Type 0} (p : X → Bool) where
  -- one more item that passes
  pub prefix_len-cons : (x : X) (xs : List X) → p x ≡ true → prefix_len p (x ∷ xs) ≡ suc (prefix_len p xs)
  prefix_len-cons x xs t = ap (λ b. cond b (1 + prefix_len p xs) 0) t ∙ one_more (prefix_len p xs)

  -- each item of the front that passes, passes
  pub front-all : (xs : List X) → list_all p (take (prefix_len p xs) xs) ≡ true
  front-all [] = refl
  front-all (x ∷ xs) =
      either (p x)
      (λ t. subst (λ n. list_all p (take n (x ∷ xs)) ≡ true) (sym (prefix_len-cons x xs t)) (and_from (p x) (list_all p (take (prefix_len p xs) xs)) t (front-all xs)))
      (λ f. subst (λ n. list_all p (take n (x ∷ xs)) ≡ true) (sym (ap (λ b. cond b (1 + prefix_len p xs) 0) f)) refl)

  -- so many pass, the test turned twice or not
  pub prefix_len-not_not : (xs : List X) → prefix_len (λ x. not (not (p x))) xs ≡ prefix_len p xs
  prefix_len-not_not [] = refl
  prefix_len-not_not (x ∷ xs) =
      ap (λ b. cond b (1 + prefix_len (λ x. not (not (p x))) xs) 0) (not_not (p x)) ∙ ap (λ n. cond (p x) (1 + n) 0) (prefix_len-not_not xs)

  -- the place of the first item that fails
  pub lead_some : (xs : List X) (i : ℕ) → position (λ x. not (p x)) xs ≡ Some i → i ≡ prefix_len p xs
  lead_some xs i e = place_some (λ x. not (p x)) xs i e ∙ prefix_len-not_not xs

  -- no item fails
  pub lead_none : (xs : List X) → position (λ x. not (p x)) xs ≡ None → length xs ≡ prefix_len p xs
  lead_none xs e = place_none (λ x. not (p x)) xs e ∙ prefix_len-not_not xs

  -- the place of the last item that fails, from the end
  pub tail_some : (xs : List X) (i : ℕ) → position (λ x. not (p x)) (reverse xs) ≡ Some i → i ≡ suffix_len p xs
  tail_some xs i e = lead_some (reverse xs) i e

  pub tail_none : (xs : List X) → position (λ x. not (p x)) (reverse xs) ≡ None → length xs ≡ suffix_len p xs
  tail_none xs e = sym (length-reverse xs) ∙ lead_none (reverse xs) e
