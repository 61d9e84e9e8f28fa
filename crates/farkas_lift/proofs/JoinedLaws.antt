-- Lists that are joined by the numbers of their parts, and items by flags.
use Rattle.std.proofs.Common.{◌≡◌, ℕ, zero, suc, ◌+◌, ◌*◌, ◌<◌, ◌≤◌, Bool, true, false, List, [], ◌∷◌, ◌++◌, length, get_or, map, take, refl, sym, ap, ap₂, subst, ◌∙◌, arith, All, length-append, append_assoc, add-one}
use Rattle.std.proofs.lemmas.List.{map-append, map_more, take_all}
use Rattle.std.proofs.lemmas.List.Elements.{All-nil, All-append}
use Rattle.std.proofs.Math.Seq.{take-suc}
use Rattle.presolve_map.specs.Selections.{select, positions}
use Rattle.farkas_lift.specs.Joined.{joined}

-- what holds of each part holds of all
pub joined-All : {A : Type 0} (P : A → Type 0) (part : ℕ → List A) (count : ℕ) → ((i : ℕ) → i < count → All P (part i)) → All P (joined part count)
joined-All P part zero h = All-nil P
joined-All P part (suc count) h = All-append P (joined part count) (part count) (joined-All P part count (λ i lt. h i (omega arith))) (h count (omega arith))

-- items that are changed
pub joined-map : {A B : Type 0} (f : A → B) (part : ℕ → List A) (count : ℕ) → map f (joined part count) ≡ joined (λ i. map f (part i)) count
joined-map f part zero = refl
joined-map f part (suc count) = map-append f (joined part count) (part count) ∙ ap (λ l. l ++ map f (part count)) (joined-map f part count)

-- equal parts
pub joined-same : {A : Type 0} (p q : ℕ → List A) (count : ℕ) → ((i : ℕ) → i < count → p i ≡ q i) → joined p count ≡ joined q count
joined-same p q zero h = refl
joined-same p q (suc count) h = ap₂ (λ l m. l ++ m) (joined-same p q count (λ i lt. h i (omega arith))) (h count (omega arith))

-- parts of at most two items
pub joined-few : {A : Type 0} (part : ℕ → List A) (count b : ℕ) → ((i : ℕ) → length (part i) ≤ b) → length (joined part count) ≤ count * b
joined-few part zero b h = omega arith
joined-few part (suc count) b h = omega (arith, length-append (joined part count) (part count), joined-few part count b h, h count)

-- parts of one item each
pub joined-length : {A : Type 0} (f : ℕ → A) (count : ℕ) → length (joined (λ i. f i ∷ []) count) ≡ count
joined-length f zero = refl
joined-length f (suc count) = omega (arith, length-append (joined (λ i. f i ∷ []) count) (f count ∷ []), joined-length f count)

pub joined-at : {A : Type 0} (f : ℕ → A) (count k : ℕ) (d : A) → k < count → get_or (joined (λ i. f i ∷ []) count) k d ≡ f k
joined-at f zero k d h = absurd (omega arith)
joined-at {A} f (suc count) k d h =
    same_or_less k count
    (λ same. subst (λ (j : ℕ). get_or (joined (λ i. f i ∷ []) count ++ f count ∷ []) j d ≡ f k) (joined-length f count ∙ sym same) (last (joined (λ i. f i ∷ []) count) (f count) d ∙ ap f (sym same)))
    (λ less. first (joined (λ i. f i ∷ []) count) (f count ∷ []) k d (omega (arith, less, joined-length f count)) ∙ joined-at f count k d less)
    h
  where
    same_or_less : {P : Type 0} (i j : ℕ) → (i ≡ j → P) → (i < j → P) → i < suc j → P
    same_or_less i j f g h = grind arith

    first : {A : Type 0} (xs ys : List A) (k : ℕ) (d : A) → k < length xs → get_or (xs ++ ys) k d ≡ get_or xs k d
    first [] ys k d h = absurd (omega arith)
    first (x ∷ xs) ys zero d h = refl
    first (x ∷ xs) ys (suc k) d h = first xs ys k d (omega arith)

    last : {A : Type 0} (xs : List A) (y : A) (d : A) → get_or (xs ++ y ∷ []) (length xs) d ≡ y
    last [] y d = refl
    last (x ∷ xs) y d = last xs y d

-- one item of a list after another
pub joined-list : {A B : Type 0} (f : A → B) (xs : List A) (d : A) → joined (λ k. f (get_or xs k d) ∷ []) (length xs) ≡ map f xs
joined-list {A} f xs d = upto (length xs) (omega arith) ∙ ap (map f) (take_all (length xs) xs (omega arith))
  where
    upto : (n : ℕ) → n ≤ length xs → joined (λ k. f (get_or xs k d) ∷ []) n ≡ map f (take n xs)
    upto zero h = refl
    upto (suc n) h = ap (λ l. l ++ f (get_or xs n d) ∷ []) (upto n (omega arith)) ∙ sym (map-append f (take n xs) (get_or xs n d ∷ [])) ∙ ap (map f) (sym (take-suc xs n d (omega arith)))

-- ---- items by flags

-- where the flag stands that is set after `k` others
abbrev pub place : List Bool → ℕ → ℕ
place [] k = 0
place (true ∷ flags) zero = 0
place (true ∷ flags) (suc k) = suc (place flags k)
place (false ∷ flags) k = suc (place flags k)

pub positions-at : (first : ℕ) (flags : List Bool) (k : ℕ) → k < length (positions first flags) → get_or (positions first flags) k 0 ≡ first + place flags k
positions-at first [] k h = absurd (omega arith)
positions-at first (true ∷ flags) zero h = omega arith
positions-at first (true ∷ flags) (suc k) h = positions-at (suc first) flags k (omega arith) ∙ omega arith
positions-at first (false ∷ flags) k h = positions-at (suc first) flags k h ∙ omega arith

pub place_below : (first : ℕ) (flags : List Bool) (k : ℕ) → k < length (positions first flags) → place flags k < length flags
place_below first [] k h = absurd (omega arith)
place_below first (true ∷ flags) zero h = omega arith
place_below first (true ∷ flags) (suc k) h = omega (arith, place_below (suc first) flags k (omega arith))
place_below first (false ∷ flags) k h = omega (arith, place_below (suc first) flags k h)

pub place_rises : (first : ℕ) (flags : List Bool) (j k : ℕ) → j < k → k < length (positions first flags) → place flags j < place flags k
place_rises first [] j k l h = absurd (omega arith)
place_rises first (true ∷ flags) j zero l h = absurd (omega arith)
place_rises first (true ∷ flags) zero (suc k) l h = omega arith
place_rises first (true ∷ flags) (suc j) (suc k) l h = omega (arith, place_rises (suc first) flags j k (omega arith) (omega arith))
place_rises first (false ∷ flags) j k l h = omega (arith, place_rises (suc first) flags j k l h)

pub place_set : (first : ℕ) (flags : List Bool) (k : ℕ) (b : Bool) → k < length (positions first flags) → get_or flags (place flags k) b ≡ true
place_set first [] k b h = absurd (omega arith)
place_set first (true ∷ flags) zero b h = refl
place_set first (true ∷ flags) (suc k) b h = place_set (suc first) flags k b (omega arith)
place_set first (false ∷ flags) k b h = place_set (suc first) flags k b h

pub select-at : {A : Type 0} (first : ℕ) (flags : List Bool) (xs : List A) (k : ℕ) (d : A) → length flags ≡ length xs → k < length (positions first flags) → get_or (select flags xs) k d ≡ get_or xs (place flags k) d
select-at first [] xs k d e h = absurd (omega arith)
select-at first (f ∷ flags) [] k d e h = absurd (omega arith)
select-at first (true ∷ flags) (x ∷ xs) zero d e h = refl
select-at first (true ∷ flags) (x ∷ xs) (suc k) d e h = select-at (suc first) flags xs k d (omega arith) (omega arith)
select-at first (false ∷ flags) (x ∷ xs) k d e h = select-at (suc first) flags xs k d (omega arith) h

pub select-length : {A : Type 0} (first : ℕ) (flags : List Bool) (xs : List A) → length flags ≡ length xs → length (select flags xs) ≡ length (positions first flags)
select-length first [] xs e = refl
select-length first (f ∷ flags) [] e = absurd (omega arith)
select-length first (true ∷ flags) (x ∷ xs) e = ap suc (select-length (suc first) flags xs (omega arith))
select-length first (false ∷ flags) (x ∷ xs) e = select-length (suc first) flags xs (omega arith)

-- ---- a loop that puts parts at the end

pub next_part : {A : Type 0} (part : ℕ → List A) (i : ℕ) (old now new : List A) → now ≡ old ++ joined part i → new ≡ now ++ part i → new ≡ old ++ joined part (i + 1)
next_part part i old now new e f = f ∙ ap (λ l. l ++ part i) e ∙ append_assoc old (joined part i) (part i) ∙ ap (λ k. old ++ joined part k) (sym (add-one i))

pub last_part : {A : Type 0} (part : ℕ → List A) (i count : ℕ) (old now : List A) → i ≡ count → now ≡ old ++ joined part i → now ≡ old ++ joined part count
last_part part i count old now same e = e ∙ ap (λ k. old ++ joined part k) same

-- the same from an empty list
pub next_alone : {A : Type 0} (part : ℕ → List A) (i : ℕ) (now new : List A) → now ≡ joined part i → new ≡ now ++ part i → new ≡ joined part (i + 1)
next_alone part i now new e f = f ∙ ap (λ l. l ++ part i) e ∙ ap (joined part) (sym (add-one i))

pub last_alone : {A : Type 0} (part : ℕ → List A) (i count : ℕ) (now : List A) → i ≡ count → now ≡ joined part i → now ≡ joined part count
last_alone part i count now same e = e ∙ ap (joined part) same

-- three lists one after another
pub three_parts : {A : Type 0} (a b c : List A) (first second third : List A) → first ≡ a → second ≡ first ++ b → third ≡ second ++ c → third ≡ a ++ (b ++ c)
three_parts a b c first second third e f g = g ∙ ap (λ l. l ++ c) (f ∙ ap (λ l. l ++ b) e) ∙ append_assoc a b c

-- two items one after another
pub two_more : {A : Type 0} (a b : A) (old first second : List A) → first ≡ old ++ a ∷ [] → second ≡ first ++ b ∷ [] → second ≡ old ++ a ∷ b ∷ []
two_more a b old first second e f = f ∙ ap (λ l. l ++ b ∷ []) e ∙ append_assoc old (a ∷ []) (b ∷ [])

-- a loop that puts the image of each item at the end
pub next_image : {A B : Type 0} (f : A → B) (front : List B) (xs : List A) (i : ℕ) (x : A) (y : B) (now new : List B) → i < length xs → x ≡ get_or xs i x → now ≡ front ++ map f (take i xs) → y ≡ f x → new ≡ now ++ y ∷ [] → new ≡ front ++ map f (take (i + 1) xs)
next_image f front xs i x y now new h is e same put =
    put ∙ ap₂ (λ l z. l ++ z ∷ []) e (same ∙ ap f is) ∙ append_assoc front (map f (take i xs)) (f (get_or xs i x) ∷ []) ∙ ap (λ l. front ++ l) (sym (map_more f xs i x h))
