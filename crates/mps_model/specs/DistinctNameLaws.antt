-- Names without repeats are distinct, and a name that has a place is among them.
use Rattle.std.proofs.Common.{◌≡◌, ℕ, ◌<◌, length, get_or, Bool, true, false, not, cond, inl, inr, List, [], ◌∷◌, map, filter, Some, None, sym, ap, subst, ◌∙◌, arith}
use Rattle.std.specs.Prelude.{bytes_eq, position}
use Rattle.std.specs.List.{IsDistinct, AllByRecursion, list_any}
use Rattle.std.proofs.lemmas.Bool.{not-true, cases_lt}
use Rattle.std.proofs.lemmas.Map.Keys.{apart_from_distinct}
use Rattle.std.proofs.lemmas.List.Folds.{list_any_at, list_any_none}
use Rattle.std.proofs.lemmas.List.Sums.{fails_before_first}
use Rattle.std.proofs.lemmas.List.Quantifiers.{position-Some}
use Rattle.mps_fields.specs.BooleanLaws.{either}
use Rattle.mps_fields.specs.FrontLaws.{place_none}
use Rattle.mps_model.specs.Tables.{ColumnLine}
use Rattle.mps_model.specs.Bounds.{without_repeats, entry_lines, column_names}
use Rattle.mps_model.specs.FirstPlaceLaws.{bytes_flip}

-- ---- distinct names

-- none of the names is this one
abbrev pub AreOthers : List ℕ → List (List ℕ) → Type 0
AreOthers name names = AllByRecursion (λ other. bytes_eq name other ≡ false) names

others_left : (name : List ℕ) (names : List (List ℕ)) → AreOthers name (filter (λ other. not (bytes_eq name other)) names)
others_left name [] = tt
others_left name (x ∷ xs) =
    either (not (bytes_eq name x))
    (λ kept. subst (AreOthers name) (ap (λ t. cond t (x ∷ filter (λ other. not (bytes_eq name other)) xs) (filter (λ other. not (bytes_eq name other)) xs)) (sym kept)) (not-true (bytes_eq name x) kept, others_left name xs))
    (λ left. subst (AreOthers name) (ap (λ t. cond t (x ∷ filter (λ other. not (bytes_eq name other)) xs) (filter (λ other. not (bytes_eq name other)) xs)) (sym left)) (others_left name xs))

others_filter : (p : List ℕ → Bool) (name : List ℕ) (names : List (List ℕ)) → AreOthers name names → AreOthers name (filter p names)
others_filter p name [] others = tt
others_filter p name (x ∷ xs) others =
    elim (p x) as (λ t. AreOthers name (cond t (x ∷ filter p xs) (filter p xs))) [ true ↦ (others.0, others_filter p name xs others.1) | false ↦ others_filter p name xs others.1 ]

distinct_filter : (p : List ℕ → Bool) (names : List (List ℕ)) → IsDistinct bytes_eq names → IsDistinct bytes_eq (filter p names)
unfolding IsDistinct
distinct_filter p [] distinct = tt
distinct_filter p (x ∷ xs) distinct =
    elim (p x) as (λ t. IsDistinct bytes_eq (cond t (x ∷ filter p xs) (filter p xs)))
    [ true ↦ (others_filter p x xs distinct.0, distinct_filter p xs distinct.1) | false ↦ distinct_filter p xs distinct.1 ]

pub without_repeats_distinct : (names : List (List ℕ)) → IsDistinct bytes_eq (without_repeats names)
unfolding IsDistinct without_repeats
without_repeats_distinct [] = tt
without_repeats_distinct (x ∷ xs) =
    (others_left x (without_repeats xs), distinct_filter (λ other. not (bytes_eq x other)) (without_repeats xs) (without_repeats_distinct xs))

-- the names at two places differ
pub apart : (names : List (List ℕ)) (i j : ℕ) → IsDistinct bytes_eq names → i < length names → j < length names → (i ≡ j → ⊥)
    → bytes_eq (get_or names i []) (get_or names j []) ≡ false
apart names i j distinct first second differ =
    elim (cases_lt i j) [
      | inl before ↦ apart_from_distinct bytes_eq names i j [] distinct before second
      | inr behind ↦ bytes_flip (get_or names i []) (get_or names j []) ∙ apart_from_distinct bytes_eq names j i [] distinct (omega arith) first
    ]

-- ---- the place of a name

-- a name without a place is not there
pub position-none : {A : Type 0} (p : A → Bool) (xs : List A) → position p xs ≡ None → list_any p xs ≡ false
position-none p xs h = list_any_none p xs (λ k d within. fails_before_first p xs k d (omega (arith, place_none p xs h)))

-- a name with a place is there
pub position-some : {A : Type 0} (p : A → Bool) (xs : List A) (i : ℕ) (d : A) → position p xs ≡ Some i → list_any p xs ≡ true
position-some p xs i d h = let at = position-Some p xs i d h in list_any_at p xs i d at.0 at.1

pub column_names_distinct : (names : List (List ℕ)) (lines : List ColumnLine) → names ≡ column_names lines → IsDistinct bytes_eq names
column_names_distinct names lines named = subst (IsDistinct bytes_eq) (sym named) (without_repeats_distinct (map (λ line. line.label) (entry_lines lines)))
