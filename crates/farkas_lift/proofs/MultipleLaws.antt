-- The loops that add multiples of forms to a row.
use Rattle.std.proofs.Common.{◌≡◌, ◌≢◌, ℕ, zero, suc, ◌+◌, ◌<◌, ◌≤◌, ℤ, pos, List, [], ◌∷◌, length, get_or, set, drop, refl, sym, ap, ap₂, subst, ◌∙◌, arith, add-one, drop-cons, below_more}
use Rattle.std.specs.Prelude.{Result, Ok, Err, OnErr}
use Rattle.std.proofs.lemmas.List.{get_or-set_same, get_or-set_other, get_or_default, ext_get_or}
use Rattle.exact_math.specs.Rational.{ℚ, whole, ◌+ℚ◌, ◌*ℚ◌}
use Rattle.exact_math.specs.RationalLaws.{zero_from_num}
use Rattle.exact_math.specs.RationalRing.{rationals}
use Rattle.exact_math.specs.RingSolver.{ring, reads}
use Rattle.exact_vectors.specs.Vectors.{scale}
use Rattle.exact_vectors.specs.MatrixLaws as Matrix
use Rattle.lp_dict.specs.Systems.{wholes}
use Rattle.row_lifting.specs.Lifting.{none}
use Rattle.farkas_lift.specs.NodeLifting.{with_multiple, with_multiples, EntryStays, MultipleStays, MultiplesStay}
use Rattle.farkas_lift.proofs.FrameSpace.{length-wholes}
use Rattle.farkas_lift.proofs.Lists as Lists

-- a fact that stands whatever the answer
pub on_err : {T E P : Type 0} (r : Result T E) → P → OnErr r P
on_err (Ok x) p = tt
on_err (Err e) p = p

-- an item read
pub read_at : (xs : List ℚ) (i : ℕ) (x : ℚ) → i < length xs → x ≡ get_or xs i x → x ≡ get_or xs i none
read_at xs i x h e = e ∙ get_or_default xs i x none h

-- a product with zero adds nothing
pub nothing_added : (entry times : ℚ) (factor : ℤ) → factor ≡ pos 0 → entry ≡ entry +ℚ times *ℚ whole factor
nothing_added entry times factor z = ring rationals (entry ∷ times ∷ []) {x = entry} {y = entry +ℚ times *ℚ whole (pos 0)} (search reads depth 30) (search reads depth 30) refl ∙ ap (λ f. entry +ℚ times *ℚ whole f) (sym z)

wholes-at : (form : List ℤ) (k : ℕ) → get_or (wholes form) k none ≡ whole (get_or form k (pos 0))
wholes-at [] k = refl
wholes-at (a ∷ form) zero = refl
wholes-at (a ∷ form) (suc k) = wholes-at form k

pub length-with : (row : List ℚ) (times : ℚ) (form : List ℤ) → length form ≡ length row → length (with_multiple row times form) ≡ length row
length-with row times form e = Matrix.length-add rationals (length row) row (scale rationals times (wholes form)) refl (Matrix.length-scale rationals times (wholes form) ∙ length-wholes form ∙ e)

with-at : (row : List ℚ) (times : ℚ) (form : List ℤ) (k : ℕ) → length form ≡ length row → get_or (with_multiple row times form) k none ≡ get_or row k none +ℚ times *ℚ whole (get_or form k (pos 0))
with-at row times form k e =
    Matrix.add-at rationals row (scale rationals times (wholes form)) k (sym (Matrix.length-scale rationals times (wholes form) ∙ length-wholes form ∙ e))
    ∙ ap (λ z. get_or row k none +ℚ z) (Matrix.scale-at rationals times (wholes form) k ∙ ap (λ z. times *ℚ z) (wholes-at form k))

-- nothing is added so many times
pub zero_times : (row : List ℚ) (times : ℚ) (form : List ℤ) → length form ≡ length row → times.num ≡ pos 0 → row ≡ with_multiple row times form
zero_times row times form e z =
    sym (ap (λ t. with_multiple row t form) (zero_from_num times z) ∙ Lists.add-none_right rationals (length row) row (wholes form) refl (length-wholes form ∙ e))

-- ---- the loop over the entries: `row` is the row before it, `now` the row in it

pub done-more : (row now : List ℚ) (times : ℚ) (form : List ℤ) (j : ℕ) (v : ℚ) → j < length now → v ≡ get_or row j none +ℚ times *ℚ whole (get_or form j (pos 0))
    → ((k : ℕ) → k < j → get_or now k none ≡ get_or row k none +ℚ times *ℚ whole (get_or form k (pos 0)))
    → (k : ℕ) → k < j + 1 → get_or (set now j v) k none ≡ get_or row k none +ℚ times *ℚ whole (get_or form k (pos 0))
done-more row now times form j v h e done =
    below_more (λ (k : ℕ). get_or (set now j v) k none ≡ get_or row k none +ℚ times *ℚ whole (get_or form k (pos 0))) j
    (λ k lt. let other : k ≢ j = omega arith in get_or-set_other now j k v none other ∙ done k lt)
    (get_or-set_same now j v none h ∙ e)

pub left-more : (row now : List ℚ) (j : ℕ) (v : ℚ) → ((k : ℕ) → j ≤ k → get_or now k none ≡ get_or row k none) → (k : ℕ) → j + 1 ≤ k → get_or (set now j v) k none ≡ get_or row k none
left-more row now j v left k le = let other : k ≢ j = omega arith in get_or-set_other now j k v none other ∙ left k (omega arith)

pub stays-more : (row : List ℚ) (times : ℚ) (form : List ℤ) (j : ℕ) (x : ℚ) (f : ℤ) → x ≡ get_or row j none → f ≡ get_or form j (pos 0) → EntryStays x times f
    → ((k : ℕ) → k < j → EntryStays (get_or row k none) times (get_or form k (pos 0)))
    → (k : ℕ) → k < j + 1 → EntryStays (get_or row k none) times (get_or form k (pos 0))
stays-more row times form j x f e g here stays =
    below_more (λ (k : ℕ). EntryStays (get_or row k none) times (get_or form k (pos 0))) j stays (subst (λ a. EntryStays a times (get_or form j (pos 0))) e (subst (λ b. EntryStays x times b) g here))

pub done-all : (row now : List ℚ) (times : ℚ) (form : List ℤ) (j : ℕ) → length form ≡ length row → length now ≡ length row → length row ≤ j
    → ((k : ℕ) → k < j → get_or now k none ≡ get_or row k none +ℚ times *ℚ whole (get_or form k (pos 0))) → now ≡ with_multiple row times form
done-all row now times form j e long le done =
    ext_get_or none now (with_multiple row times form) (long ∙ sym (length-with row times form e)) (λ k lt. done k (omega arith) ∙ sym (with-at row times form k e))

pub entry-out : (row : List ℚ) (times : ℚ) (form : List ℤ) (j : ℕ) (x : ℚ) (f : ℤ) → j < length row → times.num ≢ pos 0 → x ≡ get_or row j none → f ≡ get_or form j (pos 0) → (EntryStays x times f → ⊥) → MultipleStays row times form → ⊥
entry-out row times form j x f h n e g refused stays = refused (rw (e, g) (stays n j h))

-- ---- the loop over the forms

pub drop_forms : (forms : List (List ℤ)) (i : ℕ) (form : List ℤ) → i < length forms → form ≡ get_or forms i [] → drop i forms ≡ form ∷ drop (i + 1) forms
drop_forms forms i form h is = drop-cons forms i [] h ∙ ap₂ (λ (f : List ℤ) (k : ℕ). f ∷ drop k forms) (sym is) (sym (add-one i))

pub drop_times : (times : List ℚ) (i : ℕ) (t : ℚ) → i < length times → t ≡ get_or times i t → drop i times ≡ t ∷ drop (i + 1) times
drop_times times i t h is = drop-cons times i t h ∙ ap₂ (λ (f : ℚ) (k : ℕ). f ∷ drop k times) (sym is) (sym (add-one i))

pub drop_none : {A : Type 0} (xs : List A) (i : ℕ) → length xs ≤ i → drop i xs ≡ []
drop_none [] zero h = refl
drop_none [] (suc i) h = refl
drop_none (x ∷ xs) zero h = absurd (omega arith)
drop_none (x ∷ xs) (suc i) h = drop_none xs i (omega arith)

module _ (row next : List ℚ) (times : List ℚ) (forms : List (List ℤ)) (i : ℕ) (t : ℚ) (form : List ℤ) (h : i < length times) (k : i < length forms) (is_t : t ≡ get_or times i t) (is_form : form ≡ get_or forms i []) (is : next ≡ with_multiple row t form) where
  pub value-more : with_multiples next (drop (i + 1) times) (drop (i + 1) forms) ≡ with_multiples row (drop i times) (drop i forms)
  value-more = ap (λ l. with_multiples l (drop (i + 1) times) (drop (i + 1) forms)) is ∙ sym (ap₂ (with_multiples row) (drop_times times i t h is_t) (drop_forms forms i form k is_form))

  pub stay-more : MultipleStays row t form → MultiplesStay next (drop (i + 1) times) (drop (i + 1) forms) → MultiplesStay row (drop i times) (drop i forms)
  stay-more here rest =
      subst (λ l. MultiplesStay row l (drop i forms)) (sym (drop_times times i t h is_t))
      (subst (MultiplesStay row (t ∷ drop (i + 1) times)) (sym (drop_forms forms i form k is_form)) (here, subst (λ l. MultiplesStay l (drop (i + 1) times) (drop (i + 1) forms)) is rest))

  pub stay-less : MultiplesStay row (drop i times) (drop i forms) → MultipleStays row t form × MultiplesStay next (drop (i + 1) times) (drop (i + 1) forms)
  stay-less all =
      let parts = subst (MultiplesStay row (t ∷ drop (i + 1) times)) (drop_forms forms i form k is_form) (subst (λ l. MultiplesStay row l (drop i forms)) (drop_times times i t h is_t) all) in
      (parts.0, subst (λ l. MultiplesStay l (drop (i + 1) times) (drop (i + 1) forms)) (sym is) parts.1)

-- the row keeps its length
pub length-multiples : (n : ℕ) (row times : List ℚ) (forms : List (List ℤ)) → length row ≡ n → ((j : ℕ) → j < length forms → length (get_or forms j []) ≡ n) → length (with_multiples row times forms) ≡ n
length-multiples n row [] forms e h = e
length-multiples n row (t ∷ times) [] e h = e
length-multiples n row (t ∷ times) (form ∷ forms) e h = length-multiples n (with_multiple row t form) times forms (length-with row t form (h 0 (omega arith) ∙ sym e) ∙ e) (λ j lt. h (suc j) (omega arith))
