-- What a list of names says of the place of a name, and of values that stand beside the names.
use Rattle.std.proofs.Common.{◌≡◌, ℕ, ◌+◌, Bool, false, cond, ◌||◌, not, List, [], ◌∷◌, ◌++◌, map, position, refl, sym, ap, ◌∙◌}
use Rattle.std.specs.Prelude.{bytes_eq}
use Rattle.std.specs.List.{list_any, prefix_len, IsDistinct, AllByRecursion}
use Rattle.std.proofs.lemmas.List.{length-map, map-append}
use Rattle.mps_model.specs.FaultRules.{is_among}

pub list_any-map : {X Y : Type 0} (p : Y → Bool) (f : X → Y) (xs : List X) → list_any p (map f xs) ≡ list_any (λ x. p (f x)) xs
list_any-map p f [] = refl
list_any-map p f (x ∷ xs) = ap (λ b. p (f x) || b) (list_any-map p f xs)

pub prefix_len-map : {X Y : Type 0} (p : Y → Bool) (f : X → Y) (xs : List X) → prefix_len p (map f xs) ≡ prefix_len (λ x. p (f x)) xs
prefix_len-map p f [] = refl
prefix_len-map p f (x ∷ xs) = ap (λ n. cond (p (f x)) (1 + n) 0) (prefix_len-map p f xs)

pub position-map : {X Y : Type 0} (p : Y → Bool) (f : X → Y) (xs : List X) → position p (map f xs) ≡ position (λ x. p (f x)) xs
position-map p f xs =
    let e = prefix_len-map (λ y. not (p y)) f xs in
    let n = length-map xs f in
    rw (e, n) refl

all-map : {X Y : Type 0} (p : Y → Bool) (f : X → Y) (xs : List X) → AllByRecursion (λ x. p (f x) ≡ false) xs → AllByRecursion (λ y. p y ≡ false) (map f xs)
all-map p f [] h = h
all-map p f (x ∷ xs) h = (h.0, all-map p f xs h.1)

pub distinct-map : {X Y : Type 0} (e : Y → Y → Bool) (f : X → Y) (xs : List X) → IsDistinct (λ x y. e (f x) (f y)) xs → IsDistinct e (map f xs)
unfolding IsDistinct
distinct-map e f [] h = h
distinct-map e f (x ∷ xs) h = (all-map (e (f x)) f xs h.0, distinct-map e f xs h.1)

-- a key that is not among the keys is put at their end
pub key_added : {X : Type 0} (f : X → List ℕ) (keys new : List X) (key : X) (names : List (List ℕ)) (name : List ℕ)
    → new ≡ cond (list_any (λ k. bytes_eq (f key) (f k)) keys) keys (keys ++ key ∷ []) → map f keys ≡ names → f key ≡ name → is_among names name ≡ false
    → map f new ≡ names ++ name ∷ []
key_added f keys new key names name is_new are_names is_name fresh =
    let none : list_any (λ k. bytes_eq (f key) (f k)) keys ≡ false =
    sym (list_any-map (bytes_eq (f key)) f keys) ∙ ap (is_among (map f keys)) is_name ∙ ap (λ ns. is_among ns name) are_names ∙ fresh
    in
    let last : new ≡ keys ++ key ∷ [] = is_new ∙ ap (λ b. cond b keys (keys ++ key ∷ [])) none in
    ap (map f) last ∙ map-append f keys (key ∷ []) ∙ ap (λ ns. ns ++ f key ∷ []) are_names ∙ ap (λ n. names ++ n ∷ []) is_name
