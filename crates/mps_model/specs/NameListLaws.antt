-- Lists of names: what one more element at the end of a list does to tests, places and images, and the names of a list
-- without those that repeat an earlier one.
use Rattle.std.proofs.Common.{◌≡◌, ℕ, zero, suc, ◌+◌, ◌<◌, length, get_or, set, Bool, true, false, true≢false, cond, ◌||◌, not, List, [], ◌∷◌, ◌++◌, map, filter, Option, Some, None, refl, sym, ap, ◌∙◌, arith, subst}
use Rattle.std.specs.Prelude.{bytes_eq, filter_map}
use Rattle.std.specs.List.{list_any, list_all, position_or_len, before_first, cons_option, IsDistinct}
use Rattle.std.proofs.lemmas.Bool.{or_from, or_right, or_parts, and_parts, and_from}
use Rattle.std.proofs.lemmas.List.{append-nil, take_all, map-id}
use Rattle.std.proofs.lemmas.List.Elements.{filter-append}
use Rattle.std.proofs.lemmas.Map.Keys.{IsDistinct-head, IsDistinct-tail}
use Rattle.std.proofs.lemmas.Option.{slice_get_within, get_or_from_slice_get}
use Rattle.mps_fields.specs.BooleanLaws.{either}
use Rattle.mps_model.specs.FaultRules.{is_among}
use Rattle.mps_model.specs.Bounds.{without_repeats, last_of}
use Rattle.mps_model.specs.FirstItemLaws.{last_or-push, before-push}
use Rattle.mps_model.specs.FirstPlaceLaws.{same_bytes, bytes_same, bytes_flip, IsFirst, name_at}
use Rattle.mps_model.specs.DistinctNameLaws.{AreOthers}

-- ---- names among others

-- a name among these differs from one that is not
pub among_differs : (names : List (List ℕ)) (name other : List ℕ) → is_among names name ≡ true → is_among names other ≡ false → bytes_eq name other ≡ false
among_differs names name other among fresh =
    either (bytes_eq name other)
    (λ e. absurd (true≢false (sym among ∙ ap (is_among names) (same_bytes name other e) ∙ fresh)))
    (λ e. e)

-- ---- lists whose elements pass a test

pub list_all_weaker : {X : Type 0} (p q : X → Bool) (xs : List X) → ((x : X) → p x ≡ true → q x ≡ true) → list_all p xs ≡ true → list_all q xs ≡ true
list_all_weaker p q [] weaker all = refl
list_all_weaker p q (x ∷ xs) weaker all =
    let parts = and_parts (p x) (list_all p xs) all in
    and_from (q x) (list_all q xs) (weaker x parts.0) (list_all_weaker p q xs weaker parts.1)

pub map_same : {X Y : Type 0} (test : X → Bool) (f g : X → Y) (xs : List X) → list_all test xs ≡ true → ((x : X) → test x ≡ true → f x ≡ g x) → map f xs ≡ map g xs
map_same test f g [] all same = refl
map_same test f g (x ∷ xs) all same =
    let parts = and_parts (test x) (list_all test xs) all in
    ap (λ y. y ∷ map f xs) (same x parts.0) ∙ ap (λ ys. g x ∷ ys) (map_same test f g xs parts.1 same)

pub filter_map_same : {X Y : Type 0} (test : X → Bool) (f g : X → Option Y) (xs : List X) → list_all test xs ≡ true → ((x : X) → test x ≡ true → f x ≡ g x) → filter_map f xs ≡ filter_map g xs
filter_map_same test f g [] all same = refl
filter_map_same test f g (x ∷ xs) all same =
    let parts = and_parts (test x) (list_all test xs) all in
    ap (λ y. cons_option y (filter_map f xs)) (same x parts.0) ∙ ap (cons_option (g x)) (filter_map_same test f g xs parts.1 same)

pub filter_same : {X : Type 0} (test p q : X → Bool) (xs : List X) → list_all test xs ≡ true → ((x : X) → test x ≡ true → p x ≡ q x) → filter p xs ≡ filter q xs
filter_same test p q [] all same = refl
filter_same test p q (x ∷ xs) all same =
    let parts = and_parts (test x) (list_all test xs) all in
    ap (λ b. cond b (x ∷ filter p xs) (filter p xs)) (same x parts.0) ∙ ap (λ ys. cond (q x) (x ∷ ys) ys) (filter_same test p q xs parts.1 same)

-- each name is among the names
pub all_among : (names : List (List ℕ)) → list_all (is_among names) names ≡ true
all_among [] = refl
all_among (x ∷ xs) =
    and_from (is_among (x ∷ xs) x) (list_all (is_among (x ∷ xs)) xs)
    (ap (λ b. b || is_among xs x) (bytes_same x))
    (list_all_weaker (is_among xs) (is_among (x ∷ xs)) xs (λ name e. or_right (bytes_eq name x) (is_among xs name) e) (all_among xs))

-- ---- places, where one more element stands at the end

pub position_within : {X : Type 0} (p : X → Bool) (xs : List X) → list_any p xs ≡ true → position_or_len p xs < length xs
position_within p [] any = absurd (true≢false (sym any))
position_within p (x ∷ xs) any =
    elim (p x) as (λ b. (b || list_any p xs) ≡ true → cond (not b) (1 + position_or_len p xs) 0 < length (x ∷ xs)) [
      | true ↦ λ e. omega arith
      | false ↦ λ e. let within : position_or_len p xs < length xs = position_within p xs e in omega arith
    ] any

pub position_none : {X : Type 0} (p : X → Bool) (xs : List X) → list_any p xs ≡ false → position_or_len p xs ≡ length xs
position_none p [] none = refl
position_none p (x ∷ xs) none =
    let parts = or_parts (p x) (list_any p xs) none in
    let rest : position_or_len p xs ≡ length xs = position_none p xs parts.1 in
    ap (λ b. cond (not b) (1 + position_or_len p xs) 0) parts.0 ∙ omega arith

pub position-known : {X : Type 0} (p : X → Bool) (xs ys : List X) → list_any p xs ≡ true → position_or_len p (xs ++ ys) ≡ position_or_len p xs
position-known p [] ys any = absurd (true≢false (sym any))
position-known p (x ∷ xs) ys any =
    elim (p x) as (λ b. (b || list_any p xs) ≡ true → cond (not b) (1 + position_or_len p (xs ++ ys)) 0 ≡ cond (not b) (1 + position_or_len p xs) 0) [
      | true ↦ λ e. refl
      | false ↦ λ e. ap (λ n. 1 + n) (position-known p xs ys e)
    ] any

pub position_fresh : {X : Type 0} (p : X → Bool) (xs : List X) (y : X) → list_any p xs ≡ false → p y ≡ true → position_or_len p (xs ++ y ∷ []) ≡ length xs
position_fresh p [] y none here = ap (λ b. cond (not b) (1 + 0) 0) here
position_fresh p (x ∷ xs) y none here =
    let parts = or_parts (p x) (list_any p xs) none in
    let rest : position_or_len p (xs ++ y ∷ []) ≡ length xs = position_fresh p xs y parts.1 here in
    ap (λ b. cond (not b) (1 + position_or_len p (xs ++ y ∷ [])) 0) parts.0 ∙ omega arith

-- what stands before the first that passes, where that is there already or stands at the end
pub before_first-end : {X : Type 0} (p : X → Bool) (xs : List X) (y : X) → (list_any p xs || p y) ≡ true → before_first p (xs ++ y ∷ []) ≡ before_first p xs
before_first-end p xs y any = before-push p xs y ∙ ap (λ b. cond b (before_first p xs) (before_first p xs ++ y ∷ [])) any

pub before_first_none : {X : Type 0} (p : X → Bool) (xs : List X) → list_any p xs ≡ false → before_first p xs ≡ xs
before_first_none p xs none = let at : position_or_len p xs ≡ length xs = position_none p xs none in take_all (position_or_len p xs) xs (omega arith)

pub last_of-push : {X : Type 0} (xs : List X) (y : X) → last_of (xs ++ y ∷ []) ≡ Some y
last_of-push xs y = last_or-push None xs y

-- ---- distinct names

none_same : (names : List (List ℕ)) (name : List ℕ) → AreOthers name names → is_among names name ≡ false
none_same [] name none = refl
none_same (x ∷ xs) name none = or_from (bytes_eq name x) (is_among xs name) none.0 (none_same xs name none.1)

other_at_end : (names : List (List ℕ)) (name other : List ℕ) → AreOthers name (names ++ other ∷ []) → bytes_eq name other ≡ false
other_at_end [] name other differ = differ.0
other_at_end (x ∷ xs) name other differ = other_at_end xs name other differ.1

-- the last of distinct names is not among those before it
pub distinct_last : (names : List (List ℕ)) (name : List ℕ) → IsDistinct bytes_eq (names ++ name ∷ []) → is_among names name ≡ false
distinct_last [] name distinct = refl
distinct_last (x ∷ xs) name distinct =
    or_from (bytes_eq name x) (is_among xs name)
    (bytes_flip name x ∙ other_at_end xs x name (IsDistinct-head bytes_eq x (xs ++ name ∷ []) distinct))
    (distinct_last xs name (IsDistinct-tail bytes_eq x (xs ++ name ∷ []) distinct))

-- ---- names without those that repeat an earlier one

-- leaving out one name keeps the others
among_left : (names : List (List ℕ)) (out name : List ℕ) → bytes_eq name out ≡ false → is_among (filter (λ other. not (bytes_eq out other)) names) name ≡ is_among names name
among_left [] out name differ = refl
among_left (x ∷ xs) out name differ =
    let rest = filter (λ other. not (bytes_eq out other)) xs in
    either (bytes_eq out x)
    (λ e. ap (λ b. is_among (cond (not b) (x ∷ rest) rest) name) e
    ∙ among_left xs out name differ
    ∙ sym (ap (λ b. b || is_among xs name) (ap (bytes_eq name) (sym (same_bytes out x e)) ∙ differ)))
    (λ e. ap (λ b. is_among (cond (not b) (x ∷ rest) rest) name) e ∙ ap (λ b. bytes_eq name x || b) (among_left xs out name differ))

pub among-without_repeats : (names : List (List ℕ)) (name : List ℕ) → is_among (without_repeats names) name ≡ is_among names name
unfolding without_repeats
among-without_repeats [] name = refl
among-without_repeats (x ∷ xs) name =
    let rest = filter (λ other. not (bytes_eq x other)) (without_repeats xs) in
    either (bytes_eq name x)
    (λ e. ap (λ b. b || is_among rest name) e ∙ sym (ap (λ b. b || is_among xs name) e))
    (λ e. ap (λ b. bytes_eq name x || b) (among_left (without_repeats xs) x name e ∙ among-without_repeats xs name))

-- one more name stands at the end, unless it is there already
pub without_repeats_fresh : (names : List (List ℕ)) (name : List ℕ) → is_among names name ≡ false → without_repeats (names ++ name ∷ []) ≡ without_repeats names ++ name ∷ []
unfolding without_repeats
without_repeats_fresh [] name fresh = refl
without_repeats_fresh (x ∷ xs) name fresh =
    let parts = or_parts (bytes_eq name x) (is_among xs name) fresh in
    let others : List ℕ → Bool = λ other. not (bytes_eq x other) in
    ap (λ names. x ∷ filter others names) (without_repeats_fresh xs name parts.1)
    ∙ ap (λ names. x ∷ names) (filter-append others (without_repeats xs) (name ∷ [])
    ∙ ap (λ b. filter others (without_repeats xs) ++ cond (not b) (name ∷ []) []) (bytes_flip x name ∙ parts.0))

pub without_repeats_known : (names : List (List ℕ)) (name : List ℕ) → is_among names name ≡ true → without_repeats (names ++ name ∷ []) ≡ without_repeats names
unfolding without_repeats
without_repeats_known [] name among = absurd (true≢false (sym among))
without_repeats_known (x ∷ xs) name among =
    let others : List ℕ → Bool = λ other. not (bytes_eq x other) in
    either (is_among xs name)
    (λ e. ap (λ names. x ∷ filter others names) (without_repeats_known xs name e))
    (λ e. either (bytes_eq name x)
    (λ same.
    ap (λ names. x ∷ filter others names) (without_repeats_fresh xs name e)
    ∙ ap (λ names. x ∷ names) (filter-append others (without_repeats xs) (name ∷ [])
    ∙ ap (λ b. filter others (without_repeats xs) ++ cond (not b) (name ∷ []) []) (bytes_flip x name ∙ same)
    ∙ append-nil (filter others (without_repeats xs))))
    (λ differ. absurd (true≢false (sym among ∙ or_from (bytes_eq name x) (is_among xs name) differ e))))

-- ---- images of lists with distinct names

among_at : {X : Type 0} (name_of : X → List ℕ) (xs : List X) (i : ℕ) (d : X) → i < length xs → is_among (map name_of xs) (name_of (get_or xs i d)) ≡ true
among_at name_of [] i d within = absurd (omega arith)
among_at name_of (x ∷ xs) zero d within = ap (λ b. b || is_among (map name_of xs) (name_of x)) (bytes_same (name_of x))
among_at name_of (x ∷ xs) (suc i) d within =
    or_right (bytes_eq (name_of (get_or xs i d)) (name_of x)) (is_among (map name_of xs) (name_of (get_or xs i d)))
    (among_at name_of xs i d (omega arith))

map_others : {X Y : Type 0} (name_of : X → List ℕ) (f g : X → Y) (xs : List X) (name : List ℕ) → is_among (map name_of xs) name ≡ false
    → ((x : X) → bytes_eq (name_of x) name ≡ false → g x ≡ f x) → map g xs ≡ map f xs
map_others name_of f g [] name fresh same = refl
map_others name_of f g (x ∷ xs) name fresh same =
    let parts = or_parts (bytes_eq name (name_of x)) (is_among (map name_of xs) name) fresh in
    ap (λ y. y ∷ map g xs) (same x (bytes_flip (name_of x) name ∙ parts.0)) ∙ ap (λ ys. f x ∷ ys) (map_others name_of f g xs name parts.1 same)

-- where two images differ at one name alone, they differ at its place alone
pub map_changed : {X Y : Type 0} (name_of : X → List ℕ) (f g : X → Y) (xs : List X) (i : ℕ) (d : X) → IsDistinct bytes_eq (map name_of xs) → i < length xs
    → ((x : X) → bytes_eq (name_of x) (name_of (get_or xs i d)) ≡ false → g x ≡ f x) → map g xs ≡ set (map f xs) i (g (get_or xs i d))
map_changed name_of f g [] i d distinct within same = absurd (omega arith)
map_changed name_of f g (x ∷ xs) zero d distinct within same =
    ap (λ ys. g x ∷ ys) (map_others name_of f g xs (name_of x) (none_same (map name_of xs) (name_of x) (IsDistinct-head bytes_eq (name_of x) (map name_of xs) distinct)) same)
map_changed name_of f g (x ∷ xs) (suc i) d distinct within same =
    let here : i < length xs = omega arith in
    let none = none_same (map name_of xs) (name_of x) (IsDistinct-head bytes_eq (name_of x) (map name_of xs) distinct) in
    let differ : bytes_eq (name_of x) (name_of (get_or xs i d)) ≡ false =
    bytes_flip (name_of x) (name_of (get_or xs i d)) ∙ among_differs (map name_of xs) (name_of (get_or xs i d)) (name_of x) (among_at name_of xs i d here) none in
    ap (λ y. y ∷ map g xs) (same x differ)
    ∙ ap (λ ys. f x ∷ ys) (map_changed name_of f g xs i d (IsDistinct-tail bytes_eq (name_of x) (map name_of xs) distinct) here same)

-- the same of a list of names, where the value beside one name changes alone
pub map_at : {Y : Type 0} (f g : List ℕ → Y) (v : Y) (name : List ℕ) (names : List (List ℕ)) (i : ℕ) → IsDistinct bytes_eq names → IsFirst (bytes_eq name) names i
    → g name ≡ v → ((other : List ℕ) → bytes_eq name other ≡ false → g other ≡ f other) → map g names ≡ set (map f names) i v
map_at f g v name names i distinct first value same =
    let there = name_at name names i first in
    let at : get_or names i [] ≡ name = get_or_from_slice_get names i name [] there in
    map_changed (λ n. n) f g names i [] (subst (IsDistinct bytes_eq) (sym (map-id names)) distinct) (slice_get_within names i name there)
    (λ other differ. same other (bytes_flip name other ∙ ap (bytes_eq other) (sym at) ∙ differ))
    ∙ ap (set (map f names) i) (ap g at ∙ value)
