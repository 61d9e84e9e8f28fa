-- What stands before and behind the first item of a kind in a list, where one more item comes at its end.
use Rattle.std.proofs.Common.{◌≡◌, ℕ, suc, ◌+◌, Bool, true, false, true≢false, cond, not, ◌&&◌, ◌||◌, List, [], ◌∷◌, ◌++◌, take, drop, Option, Some, refl, sym, ap, subst, ◌∙◌, append_assoc, arith}
use Rattle.std.specs.Prelude.{find}
use Rattle.std.specs.List.{list_all, list_any, last_or, before_first, after_first, position_or_len}
use Rattle.std.proofs.lemmas.Option.{same_Some}
use Rattle.std.proofs.lemmas.List.{append-nil}
use Rattle.std.proofs.lemmas.List.Folds.{list_all-append, list_any-append}
use Rattle.std.proofs.lemmas.Bool.{and_parts}
use Rattle.mps_fields.specs.BooleanLaws.{either}
use Rattle.mps_fields.specs.FrontLaws.{one_more}

pub two_more : (n : ℕ) → 1 + n + 1 ≡ suc (n + 1)
two_more n = omega arith

pub before-cons : {X : Type 0} (p : X → Bool) (x : X) (xs : List X) → before_first p (x ∷ xs) ≡ cond (p x) [] (x ∷ before_first p xs)
before-cons p x xs =
    elim (p x) as (λ b. take (cond (not b) (1 + position_or_len p xs) 0) (x ∷ xs) ≡ cond b [] (x ∷ before_first p xs))
    [ true ↦ refl | false ↦ rw one_more refl ]

pub after-cons : {X : Type 0} (p : X → Bool) (x : X) (xs : List X) → after_first p (x ∷ xs) ≡ cond (p x) xs (after_first p xs)
after-cons p x xs =
    elim (p x) as (λ b. drop (cond (not b) (1 + position_or_len p xs) 0 + 1) (x ∷ xs) ≡ cond b xs (after_first p xs))
    [ true ↦ refl | false ↦ rw two_more refl ]

-- the first that passes passes
pub find_passes : {X : Type 0} (p : X → Bool) (xs : List X) (x : X) → find p xs ≡ Some x → p x ≡ true
find_passes p [] x h = cc
find_passes p (y ∷ ys) x h = either (p y)
    (λ t. ap p (sym (same_Some y x (ap (λ b. cond b (Some y) (find p ys)) (sym t) ∙ h))) ∙ t)
    (λ f. find_passes p ys x (ap (λ b. cond b (Some y) (find p ys)) (sym f) ∙ h))

-- the last item is the new one
pub last_or-push : {X : Type 0} (o : Option X) (xs : List X) (y : X) → last_or o (xs ++ y ∷ []) ≡ Some y
last_or-push o [] y = refl
last_or-push o (x ∷ xs) y = last_or-push (Some x) xs y

onto_either : {X : Type 0} (b : Bool) (x : X) (us vs : List X) → x ∷ cond b us vs ≡ cond b (x ∷ us) (x ∷ vs)
onto_either true x us vs = refl
onto_either false x us vs = refl

-- up to the first: the new item follows where there is none and it is none
pub before-push : {X : Type 0} (p : X → Bool) (xs : List X) (y : X)
    → before_first p (xs ++ y ∷ []) ≡ cond (list_any p xs || p y) (before_first p xs) (before_first p xs ++ y ∷ [])
before-push p [] y = before-cons p y []
before-push p (x ∷ xs) y =
    rw (before-cons p x (xs ++ y ∷ []), before-cons p x xs)
    (elim (p x) as (λ b. cond b [] (x ∷ before_first p (xs ++ y ∷ [])) ≡ cond ((b || list_any p xs) || p y) (cond b [] (x ∷ before_first p xs)) (cond b [] (x ∷ before_first p xs) ++ y ∷ [])) [
      | true ↦ refl
      | false ↦ ap (λ zs. x ∷ zs) (before-push p xs y) ∙ onto_either (list_any p xs || p y) x (before_first p xs) (before_first p xs ++ y ∷ [])
    ])

-- behind the first: the new item follows where there is one
pub after-push : {X : Type 0} (p : X → Bool) (xs : List X) (y : X)
    → after_first p (xs ++ y ∷ []) ≡ cond (list_any p xs) (after_first p xs ++ y ∷ []) []
after-push p [] y = after-cons p y [] ∙ elim (p y) as (λ b. cond b [] (after_first p []) ≡ []) [ true ↦ refl | false ↦ refl ]
after-push p (x ∷ xs) y =
    rw (after-cons p x (xs ++ y ∷ []), after-cons p x xs)
    (elim (p x) as (λ b. cond b (xs ++ y ∷ []) (after_first p (xs ++ y ∷ [])) ≡ cond (b || list_any p xs) (cond b xs (after_first p xs) ++ y ∷ []) [])
    [ true ↦ refl | false ↦ after-push p xs y ])

none_behind : {X : Type 0} (b any : Bool) (us vs : List X) → (any ≡ false → vs ≡ []) → (b || any) ≡ false → cond b us vs ≡ []
none_behind true any us vs rest h = absurd (true≢false h)
none_behind false any us vs rest h = rest h

-- behind the first there is nothing where there is none
pub after_none : {X : Type 0} (p : X → Bool) (xs : List X) → list_any p xs ≡ false → after_first p xs ≡ []
after_none p [] h = refl
after_none p (x ∷ xs) h =
    after-cons p x xs ∙ none_behind (p x) (list_any p xs) xs (after_first p xs) (after_none p xs) h

-- ---- a part of a list: what stands behind the first item that begins it, up to the next that ends it

abbrev pub part_of : {X : Type 0} → (X → Bool) → (X → Bool) → List X → List X
part_of begin end xs = before_first end (after_first begin xs)

-- the part goes on at the end of the list
abbrev pub is_open_part : {X : Type 0} → (X → Bool) → (X → Bool) → List X → Bool
is_open_part begin end xs = list_any begin xs && not (list_any end (after_first begin xs))

goes_on : {A : Type 0} (b any y : Bool) (u v : A) → b ≡ true → cond (any || y) u v ≡ cond ((b && not any) && not y) v u
goes_on true true y u v h = refl
goes_on true false true u v h = refl
goes_on true false false u v h = refl
goes_on false any y u v h = absurd (true≢false (sym h))

closed : {A : Type 0} (b any y : Bool) (u v : A) → b ≡ false → v ≡ cond ((b && not any) && not y) u v
closed true any y u v h = absurd (true≢false h)
closed false any y u v h = refl

-- the new item is in the part where the part goes on and it does not end it
pub part-push : {X : Type 0} (begin end : X → Bool) (xs : List X) (y : X)
    → part_of begin end (xs ++ y ∷ []) ≡ cond (is_open_part begin end xs && not (end y)) (part_of begin end xs ++ y ∷ []) (part_of begin end xs)
part-push begin end xs y =
    either (list_any begin xs)
    (λ t.
    ap (before_first end) (after-push begin xs y ∙ ap (λ b. cond b (after_first begin xs ++ y ∷ []) []) t)
    ∙ before-push end (after_first begin xs) y
    ∙ goes_on (list_any begin xs) (list_any end (after_first begin xs)) (end y) _ _ t)
    (λ f.
    ap (before_first end) (after-push begin xs y ∙ ap (λ b. cond b (after_first begin xs ++ y ∷ []) []) f ∙ sym (after_none begin xs f))
    ∙ closed (list_any begin xs) (list_any end (after_first begin xs)) (end y) _ _ f)

shorter : {X : Type 0} (h : X → Bool) (b : Bool) (xs : List X) (y : X) → list_all h (cond b (xs ++ y ∷ []) xs) ≡ true → list_all h xs ≡ true
shorter h true xs y all = (and_parts (list_all h xs) (h y && true) (sym (list_all-append h xs (y ∷ [])) ∙ all)).0
shorter h false xs y all = all

-- what holds of the part holds of what there is of it before more items
pub part_so_far : {X : Type 0} (begin end h : X → Bool) (xs ys : List X) → list_all h (part_of begin end (xs ++ ys)) ≡ true → list_all h (part_of begin end xs) ≡ true
part_so_far begin end h xs [] all = subst (λ zs. list_all h (part_of begin end zs) ≡ true) (append-nil xs) all
part_so_far begin end h xs (y ∷ ys) all =
    let behind = part_so_far begin end h (xs ++ y ∷ []) ys (ap (λ zs. list_all h (part_of begin end zs)) (append_assoc xs (y ∷ []) ys) ∙ all) in
    shorter h (is_open_part begin end xs && not (end y)) (part_of begin end xs) y (sym (ap (list_all h) (part-push begin end xs y)) ∙ behind)

still_open : (b any begins ends : Bool) → b ≡ true → ((b || (begins || false)) && not (any || (ends || false))) ≡ ((not b && begins) || ((b && not any) && not ends))
still_open true true begins ends h = refl
still_open true false true ends h = elim ends as (λ e. not (e || false) ≡ not e) [ true ↦ refl | false ↦ refl ]
still_open true false false ends h = elim ends as (λ e. not (e || false) ≡ not e) [ true ↦ refl | false ↦ refl ]
still_open false any begins ends h = absurd (true≢false (sym h))

opens : (b any begins ends : Bool) → b ≡ false → ((b || (begins || false)) && true) ≡ ((not b && begins) || ((b && not any) && not ends))
opens true any begins ends h = absurd (true≢false h)
opens false any true ends h = refl
opens false any false ends h = refl

-- the part goes on behind the new item where that is the first to begin it, or where it went on before and is not ended
pub open-push : {X : Type 0} (begin end : X → Bool) (xs : List X) (y : X)
    → is_open_part begin end (xs ++ y ∷ []) ≡ ((not (list_any begin xs) && begin y) || (is_open_part begin end xs && not (end y)))
open-push begin end xs y =
    either (list_any begin xs)
    (λ t.
    let behind = after-push begin xs y ∙ ap (λ b. cond b (after_first begin xs ++ y ∷ []) []) t in
    ap (λ zs. list_any begin (xs ++ y ∷ []) && not (list_any end zs)) behind
    ∙ ap (λ b. b && not (list_any end (after_first begin xs ++ y ∷ []))) (list_any-append begin xs (y ∷ []))
    ∙ ap (λ b. (list_any begin xs || (begin y || false)) && not b) (list_any-append end (after_first begin xs) (y ∷ []))
    ∙ still_open (list_any begin xs) (list_any end (after_first begin xs)) (begin y) (end y) t)
    (λ f.
    let behind = after-push begin xs y ∙ ap (λ b. cond b (after_first begin xs ++ y ∷ []) []) f in
    ap (λ zs. list_any begin (xs ++ y ∷ []) && not (list_any end zs)) behind
    ∙ ap (λ b. b && true) (list_any-append begin xs (y ∷ []))
    ∙ opens (list_any begin xs) (list_any end (after_first begin xs)) (begin y) (end y) f)
