-- Equal names, the first place that passes a test, and the rows and values that stand at the place of a name.
use Rattle.std.proofs.Common.{◌≡◌, ℕ, zero, suc, ◌+◌, ◌<◌, length, Bool, true, false, cond, ltb, not, List, [], ◌∷◌, position, Some, None, slice_get, refl, sym, ap, ap₂, subst, ◌∙◌, arith}
use Rattle.std.specs.Prelude.{bytes_eq, find, IfSome}
use Rattle.std.specs.List.{position_or_len}
use Rattle.std.proofs.lemmas.Bool.{ltb-true}
use Rattle.std.proofs.lemmas.Option.{cond_some, slice_get_past}
use Rattle.std.proofs.lemmas.List.Folds.{find_at}
use Rattle.std.proofs.lemmas.Slice.Eq.{bytes_eq-Decides}
use Rattle.mps_fields.specs.FrontLaws.{place_none}
use Rattle.mps_model.specs.declared.tables.row_kind.RowKind.{RowKind}
use Rattle.mps_model.specs.Tables.{RowLine}
use Rattle.mps_model.specs.RowFaults.{row_names}
use Rattle.mps_model.specs.RowKinds.{letter_of, row_of}

-- ---- equal names

pub same_bytes : (x y : List ℕ) → bytes_eq x y ≡ true → x ≡ y
same_bytes x y e = (bytes_eq-Decides x y).0 e

pub bytes_same : (x : List ℕ) → bytes_eq x x ≡ true
bytes_same x = (bytes_eq-Decides x x).1 refl

pub bytes_flip : (x y : List ℕ) → bytes_eq x y ≡ bytes_eq y x
bytes_flip x y = by (bytes_eq x y) (bytes_eq y x) refl refl
  where
    by : (a b : Bool) → bytes_eq x y ≡ a → bytes_eq y x ≡ b → bytes_eq x y ≡ bytes_eq y x
    by true b e f = ap (λ n. bytes_eq n y) (same_bytes x y e) ∙ ap (bytes_eq y) (sym (same_bytes x y e))
    by false true e f = ap (λ n. bytes_eq n y) (sym (same_bytes y x f)) ∙ ap (bytes_eq y) (same_bytes y x f)
    by false false e f = e ∙ sym f

-- ---- the first place that passes

-- the element at this place passes, and none before it does
abbrev pub IsFirst : {X : Type 0} → (X → Bool) → List X → ℕ → Type 0
IsFirst p [] i = ⊥
IsFirst p (x ∷ xs) zero = p x ≡ true
IsFirst p (x ∷ xs) (suc i) = (p x ≡ false) × IsFirst p xs i

first_step : {X : Type 0} (p : X → Bool) (x : X) (xs : List X) (i : ℕ) (b : Bool) → p x ≡ b → cond (not b) (1 + position_or_len p xs) 0 ≡ i
    → (1 + position_or_len p xs ≡ i → IsFirst p xs (position_or_len p xs)) → IsFirst p (x ∷ xs) i
first_step p x xs i true f e rest = subst (IsFirst p (x ∷ xs)) e f
first_step p x xs i false f e rest =
    let at : suc (position_or_len p xs) ≡ i = omega (arith, e) in
    subst (IsFirst p (x ∷ xs)) at (f, rest e)

first_at : {X : Type 0} (p : X → Bool) (xs : List X) (i : ℕ) → position_or_len p xs ≡ i → i < length xs → IsFirst p xs i
first_at p [] i e within = absurd (omega (arith, within))
first_at p (x ∷ xs) i e within =
    first_step p x xs i (p x) refl e (λ at. first_at p xs (position_or_len p xs) refl (omega (arith, at, within)))

pub is_first : {X : Type 0} (p : X → Bool) (xs : List X) (i : ℕ) → position p xs ≡ Some i → IsFirst p xs i
is_first p xs i h =
    let found = cond_some (ltb (position_or_len p xs) (length xs)) (position_or_len p xs) i h in
    first_at p xs i found.1 (subst (λ n. n < length xs) found.1 (ltb-true (position_or_len p xs) (length xs) found.0))

pub find_first : {X : Type 0} (p : X → Bool) (xs : List X) (i : ℕ) → IsFirst p xs i → find p xs ≡ slice_get xs i
find_first p [] i h = absurd h
find_first p (x ∷ xs) zero h = ap (λ b. cond b (Some x) (find p xs)) h
find_first p (x ∷ xs) (suc i) h = ap (λ b. cond b (Some x) (find p xs)) h.0 ∙ find_first p xs i h.1

pub first_there : {X : Type 0} (p : X → Bool) (xs : List X) (i : ℕ) → IsFirst p xs i → (x : X) × (slice_get xs i ≡ Some x)
first_there p [] i h = absurd h
first_there p (x ∷ xs) zero h = (x, refl)
first_there p (x ∷ xs) (suc i) h = first_there p xs i h.1

pub find_none : {X : Type 0} (p : X → Bool) (xs : List X) → position p xs ≡ None → find p xs ≡ None
find_none p xs h = find_at p xs ∙ slice_get_past xs (position_or_len p xs) (omega (arith, place_none p xs h))

-- the name at the place of a name
pub name_at : (name : List ℕ) (names : List (List ℕ)) (i : ℕ) → IsFirst (bytes_eq name) names i → slice_get names i ≡ Some name
name_at name [] i h = absurd h
name_at name (x ∷ xs) zero h = ap Some (sym (same_bytes name x h))
name_at name (x ∷ xs) (suc i) h = name_at name xs i h.1

-- ---- rows with distinct names

-- a line of ROWS with these letters and this name
abbrev pub said : List ℕ → List ℕ → RowLine
said letters name = record { kind = letters; name = name }

-- the row at the place of a name, by its kind
pub row_found : (rows : List RowLine) (name : List ℕ) (i : ℕ) (kind : RowKind) → IsFirst (bytes_eq name) (row_names rows) i
    → IfSome (slice_get rows i) (λ row. row.kind ≡ letter_of kind) → find (λ row. bytes_eq row.name name) rows ≡ Some (row_of kind name)
row_found [] name i kind h k = absurd h
row_found (x ∷ xs) name zero kind h k =
    ap (λ b. cond b (Some x) (find (λ row. bytes_eq row.name name) xs)) (bytes_flip x.name name ∙ h)
    ∙ ap₂ (λ letters n. Some (said letters n)) k (sym (same_bytes name x.name h))
row_found (x ∷ xs) name (suc i) kind h k =
    ap (λ b. cond b (Some x) (find (λ row. bytes_eq row.name name) xs)) (bytes_flip x.name name ∙ h.0) ∙ row_found xs name i kind h.1 k
