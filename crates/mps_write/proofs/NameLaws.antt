-- Names that are all different, and what stands beside one of them.
use Rattle.std.proofs.Common.{◌≡◌, ◌≢◌, ℕ, suc, ◌+◌, Bool, true, false, true≢false, cond, not, List, [], ◌∷◌, ◌++◌, length, map, filter_map, Option, Some, None, refl, sym, ap, subst, ◌∙◌, append_assoc, append-nil, arith}
use Rattle.std.specs.Prelude.{find, bytes_eq, All, AllPairs}
use Rattle.std.specs.List.{cons_option, position_or_len, AllByRecursion}
use Rattle.std.proofs.lemmas.Bool.{or_from, or_parts, or_left, or_right}
use Rattle.std.proofs.lemmas.Slice.Eq.{bytes_eq-Decides}
use Rattle.std.proofs.lemmas.List.{map-append}
use Rattle.std.proofs.lemmas.List.Elements.{filter_map-append}
use Rattle.std.proofs.lemmas.List.Folds.{list_any-append}
use Rattle.mps_fields.specs.BooleanLaws.{either}
use Rattle.mps_model.specs.Tables.{Pair}
use Rattle.mps_model.specs.FaultRules.{is_among}

-- ---- equal names

pub same_bytes : (x y : List ℕ) → bytes_eq x y ≡ true → x ≡ y
same_bytes x y e = (bytes_eq-Decides x y).0 e

pub bytes_same : (x : List ℕ) → bytes_eq x x ≡ true
bytes_same x = (bytes_eq-Decides x x).1 refl

pub bytes_differ : (x y : List ℕ) → x ≢ y → bytes_eq x y ≡ false
bytes_differ x y differ = either (bytes_eq x y) (λ t. absurd (differ (same_bytes x y t))) (λ f. f)

-- ---- lists whose elements all have a property, by recursion

pub each : {X : Type 0} (P : X → Type 0) (xs : List X) → All P xs → AllByRecursion P xs
each P [] all = tt
each P (x ∷ xs) all = (all 0 x (omega arith), each P xs (λ k d h. all (suc k) d (omega arith)))

pub each_weaker : {X : Type 0} (P Q : X → Type 0) (xs : List X) → ((x : X) → P x → Q x) → AllByRecursion P xs → AllByRecursion Q xs
each_weaker P Q [] weaker all = tt
each_weaker P Q (x ∷ xs) weaker all = (weaker x all.0, each_weaker P Q xs weaker all.1)

pub each-append : {X : Type 0} (P : X → Type 0) (xs ys : List X) → AllByRecursion P xs → AllByRecursion P ys → AllByRecursion P (xs ++ ys)
each-append P [] ys all others = others
each-append P (x ∷ xs) ys all others = (all.0, each-append P xs ys all.1 others)

pub each-map : {X Y : Type 0} (P : Y → Type 0) (f : X → Y) (xs : List X) → AllByRecursion (λ x. P (f x)) xs → AllByRecursion P (map f xs)
each-map P f [] all = tt
each-map P f (x ∷ xs) all = (all.0, each-map P f xs all.1)

-- at an element between others
pub each_at : {X : Type 0} (P : X → Type 0) (all front rest : List X) (x : X) → front ++ x ∷ rest ≡ all → AllByRecursion P all → P x
each_at {X = X} P all front rest x whole holds = inside front (subst (AllByRecursion P) (sym whole) holds)
  where
    inside : (front : List X) → AllByRecursion P (front ++ x ∷ rest) → P x
    inside [] holds = holds.0
    inside (y ∷ front) holds = inside front holds.1

-- ---- names that are all different, and differ from those that are taken

abbrev pub AreFresh : List (List ℕ) → List (List ℕ) → Type 0
AreFresh taken [] = Unit {0}
AreFresh taken (name ∷ names) = (is_among taken name ≡ false) × AreFresh (taken ++ name ∷ []) names

-- a name that is taken is none of the others
pub taken_apart : (taken names : List (List ℕ)) (name : List ℕ) → is_among taken name ≡ true → AreFresh taken names → is_among names name ≡ false
taken_apart taken [] name among fresh = refl
taken_apart taken (other ∷ names) name among fresh =
    or_from (bytes_eq name other) (is_among names name)
    (bytes_differ name other (λ same. absurd (true≢false (sym among ∙ ap (is_among taken) same ∙ fresh.0))))
    (taken_apart (taken ++ other ∷ []) names name
    (list_any-append (bytes_eq name) taken (other ∷ []) ∙ or_left (is_among taken name) (is_among (other ∷ []) name) among) fresh.1)

push_taken : (taken names : List (List ℕ)) (name : List ℕ) → AllByRecursion (λ other. is_among taken other ≡ false) names → AllByRecursion (λ other. name ≢ other) names
    → AllByRecursion (λ other. is_among (taken ++ name ∷ []) other ≡ false) names
push_taken taken [] name apart differ = tt
push_taken taken (other ∷ names) name apart differ = (
  list_any-append (bytes_eq other) taken (name ∷ [])
      ∙ or_from (is_among taken other) (is_among (name ∷ []) other) apart.0
      (or_from (bytes_eq other name) false (bytes_differ other name (λ same. differ.0 (sym same))) refl),
  push_taken taken names name apart.1 differ.1,
)

-- names that differ pairwise are fresh where none of them is taken
pub fresh_from : {X : Type 0} (name_of : X → List ℕ) (taken : List (List ℕ)) (xs : List X) → AllByRecursion (λ x. is_among taken (name_of x) ≡ false) xs
    → AllPairs (λ (a b : X). name_of a ≢ name_of b) xs → AreFresh taken (map name_of xs)
fresh_from {X = X} name_of taken [] apart differ = tt
fresh_from {X = X} name_of taken (x ∷ xs) apart differ = (
  apart.0,
  fresh_from name_of (taken ++ name_of x ∷ []) xs
      (unmapped xs (push_taken taken (map name_of xs) (name_of x) (each-map (λ name. is_among taken name ≡ false) name_of xs apart.1)
      (each-map (λ other. name_of x ≢ other) name_of xs (each (λ y. name_of x ≢ name_of y) xs (λ k d h. differ 0 (suc k) d (omega arith) (omega arith))))))
      (λ i j d lt within. differ (suc i) (suc j) d (omega arith) (omega arith)),
)
  where
    unmapped : (ys : List X) → AllByRecursion (λ other. is_among (taken ++ name_of x ∷ []) other ≡ false) (map name_of ys)
        → AllByRecursion (λ y. is_among (taken ++ name_of x ∷ []) (name_of y) ≡ false) ys
    unmapped [] all = tt
    unmapped (y ∷ ys) all = (all.0, unmapped ys all.1)

-- an element between others has a name that none before it has, nor one that is taken
pub fresh_at : {X : Type 0} (name_of : X → List ℕ) (taken : List (List ℕ)) (all front rest : List X) (x : X) → front ++ x ∷ rest ≡ all → AreFresh taken (map name_of all)
    → is_among (taken ++ map name_of front) (name_of x) ≡ false
fresh_at {X = X} name_of taken all front rest x whole fresh = inside taken front (subst (λ xs. AreFresh taken (map name_of xs)) (sym whole) fresh)
  where
    inside : (taken : List (List ℕ)) (front : List X) → AreFresh taken (map name_of (front ++ x ∷ rest)) → is_among (taken ++ map name_of front) (name_of x) ≡ false
    inside taken [] fresh = ap (λ names. is_among names (name_of x)) (append-nil taken) ∙ fresh.0
    inside taken (y ∷ front) fresh = ap (λ names. is_among names (name_of x)) (sym (append_assoc taken (name_of y ∷ []) (map name_of front))) ∙ inside (taken ++ name_of y ∷ []) front fresh.1

-- the place of a name behind others
pub position-behind : (front rest : List (List ℕ)) (name : List ℕ) → is_among front name ≡ false → position_or_len (bytes_eq name) (front ++ name ∷ rest) ≡ length front
position-behind [] rest name apart = ap (λ b. cond (not b) (1 + position_or_len (bytes_eq name) rest) 0) (bytes_same name)
position-behind (other ∷ front) rest name apart =
    let parts = or_parts (bytes_eq name other) (is_among front name) apart in
    ap (λ b. cond (not b) (1 + position_or_len (bytes_eq name) (front ++ name ∷ rest)) 0) parts.0 ∙ ap (λ n. 1 + n) (position-behind front rest name parts.1) ∙ omega arith

-- ---- the pair under a name, where each element has one pair at most

pub find-append : {X : Type 0} (p : X → Bool) (xs ys : List X) → find p xs ≡ None → find p (xs ++ ys) ≡ find p ys
find-append p [] ys none = refl
find-append p (x ∷ xs) ys none =
    either (p x)
    (λ t. let e = ap (λ b. cond b (Some x) (find p xs)) (sym t) ∙ none in cc)
    (λ f. ap (λ b. cond b (Some x) (find p (xs ++ ys))) f ∙ find-append p xs ys (ap (λ b. cond b (Some x) (find p xs)) (sym f) ∙ none))

abbrev pub is_under : List ℕ → Pair → Bool
is_under name pair = bytes_eq pair.name name

module _ {X : Type 0} (name_of : X → List ℕ) (pair_at : X → Option Pair) (named : (x : X) (pair : Pair) → pair_at x ≡ Some pair → pair.name ≡ name_of x) where
  none_step : (x : X) (xs : List X) (name : List ℕ) (o : Option Pair) → pair_at x ≡ o → bytes_eq name (name_of x) ≡ false → find (is_under name) (filter_map pair_at xs) ≡ None
      → find (is_under name) (cons_option o (filter_map pair_at xs)) ≡ None
  none_step x xs name None e apart rest = rest
  none_step x xs name (Some pair) e apart rest =
      ap (λ b. cond b (Some pair) (find (is_under name) (filter_map pair_at xs)))
      (bytes_differ pair.name name (λ same. absurd (true≢false (sym (bytes_same name) ∙ ap (bytes_eq name) (sym same ∙ named x pair e) ∙ apart)))) ∙ rest

  pub none_under : (xs : List X) (name : List ℕ) → is_among (map name_of xs) name ≡ false → find (is_under name) (filter_map pair_at xs) ≡ None
  none_under [] name apart = refl
  none_under (x ∷ xs) name apart =
      let parts = or_parts (bytes_eq name (name_of x)) (is_among (map name_of xs) name) apart in
      none_step x xs name (pair_at x) refl parts.0 (none_under xs name parts.1)

  here_step : (x : X) (xs : List X) (o : Option Pair) → pair_at x ≡ o → is_among (map name_of xs) (name_of x) ≡ false
      → find (is_under (name_of x)) (cons_option o (filter_map pair_at xs)) ≡ o
  here_step x xs None e apart = none_under xs (name_of x) apart
  here_step x xs (Some pair) e apart =
      ap (λ b. cond b (Some pair) (find (is_under (name_of x)) (filter_map pair_at xs))) (ap (bytes_eq pair.name) (sym (named x pair e)) ∙ bytes_same pair.name)

  -- under the name of each element stands its pair
  pub each_under : (front xs : List X) → AreFresh (map name_of front) (map name_of xs)
      → AllByRecursion (λ x. find (is_under (name_of x)) (filter_map pair_at (front ++ xs)) ≡ pair_at x) xs
  each_under front [] fresh = tt
  each_under front (x ∷ xs) fresh = (
    ap (find (is_under (name_of x))) (filter_map-append pair_at front (x ∷ xs))
        ∙ find-append (is_under (name_of x)) (filter_map pair_at front) (filter_map pair_at (x ∷ xs)) (none_under front (name_of x) fresh.0)
        ∙ here_step x xs (pair_at x) refl
        (taken_apart (map name_of front ++ name_of x ∷ []) (map name_of xs) (name_of x)
        (list_any-append (bytes_eq (name_of x)) (map name_of front) (name_of x ∷ [])
        ∙ or_right (is_among (map name_of front) (name_of x)) (is_among (name_of x ∷ []) (name_of x)) (or_left (bytes_eq (name_of x) (name_of x)) false (bytes_same (name_of x))))
        fresh.1),
    subst (λ all. AllByRecursion (λ y. find (is_under (name_of y)) (filter_map pair_at all) ≡ pair_at y) xs) (append_assoc front (x ∷ []) xs)
        (each_under (front ++ x ∷ []) xs (subst (λ taken. AreFresh taken (map name_of xs)) (sym (map-append name_of front (x ∷ []))) fresh.1)),
  )

-- ---- the element under a name

find_none : {X : Type 0} (name_of : X → List ℕ) (xs : List X) (name : List ℕ) → is_among (map name_of xs) name ≡ false → find (λ y. bytes_eq (name_of y) name) xs ≡ None
find_none name_of [] name apart = refl
find_none name_of (x ∷ xs) name apart =
    let parts = or_parts (bytes_eq name (name_of x)) (is_among (map name_of xs) name) apart in
    ap (λ b. cond b (Some x) (find (λ y. bytes_eq (name_of y) name) xs)) (bytes_differ (name_of x) name (λ same. absurd (true≢false (sym (bytes_same name) ∙ ap (bytes_eq name) (sym same) ∙ parts.0))))
    ∙ find_none name_of xs name parts.1

-- under the name of each element stands that element
pub each_found : {X : Type 0} (name_of : X → List ℕ) (front xs : List X) → AreFresh (map name_of front) (map name_of xs)
    → AllByRecursion (λ x. find (λ y. bytes_eq (name_of y) (name_of x)) (front ++ xs) ≡ Some x) xs
each_found name_of front [] fresh = tt
each_found name_of front (x ∷ xs) fresh = (
  find-append (λ y. bytes_eq (name_of y) (name_of x)) front (x ∷ xs) (find_none name_of front (name_of x) fresh.0)
      ∙ ap (λ b. cond b (Some x) (find (λ y. bytes_eq (name_of y) (name_of x)) xs)) (bytes_same (name_of x)),
  subst (λ all. AllByRecursion (λ y. find (λ z. bytes_eq (name_of z) (name_of y)) all ≡ Some y) xs) (append_assoc front (x ∷ []) xs)
      (each_found name_of (front ++ x ∷ []) xs (subst (λ taken. AreFresh taken (map name_of xs)) (sym (map-append name_of front (x ∷ []))) fresh.1)),
)

pub each_unmap : {X Y : Type 0} (P : Y → Type 0) (f : X → Y) (xs : List X) → AllByRecursion P (map f xs) → AllByRecursion (λ x. P (f x)) xs
each_unmap P f [] all = tt
each_unmap P f (x ∷ xs) all = (all.0, each_unmap P f xs all.1)

-- two lists are the same where two functions agree on each element
pub map_agrees : {X Y : Type 0} (f g : X → Y) (xs : List X) → AllByRecursion (λ x. f x ≡ g x) xs → map f xs ≡ map g xs
map_agrees f g [] same = refl
map_agrees f g (x ∷ xs) same = ap (λ y. y ∷ map f xs) same.0 ∙ ap (λ ys. g x ∷ ys) (map_agrees f g xs same.1)
