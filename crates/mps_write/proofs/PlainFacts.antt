-- What a plain model gives for its text: fields that can stand in a line, numbers that are read, and names that differ.
use Rattle.std.proofs.Common.{◌≡◌, ◌≢◌, ℕ, ◌^◌, ◌<◌, ◌≤◌, ℤ, pos, true, false, cond, leb, List, [], ◌∷◌, ◌++◌, length, map, filter_map, Option, Some, None, IfSome, Ok, refl, sym, ap, subst, ◌∙◌, arith}
use Rattle.std.specs.Prelude.{bytes_eq, codes, option_map, find, nat_abs, ◌-ℤ◌, ◌≤ℤ◌, ◌==◌}
use Rattle.std.specs.Ordering.{int_eq}
use Rattle.std.specs.Fmt.{signed_decimal}
use Rattle.std.specs.List.{list_all, cons_option, AllByRecursion}
use Rattle.std.proofs.lemmas.Bool.{and_from, le-leb, or_left, or_right, or_from, or_parts}
use Rattle.std.proofs.lemmas.List.Folds.{list_any-append}
use Rattle.std.proofs.lemmas.Int.{ints}
use Rattle.exact_math.specs.Rational.{ℚ, whole, ◌≤ℚ◌}
use Rattle.exact_math.specs.RationalFloor.{whole_from_den}
use Rattle.exact_math.specs.RationalOrder.{le_from_whole}
use Rattle.mps_fields.specs.Reading.{number_of}
use Rattle.mps_model.specs.Tables.{Pair}
use Rattle.mps_model.specs.Sides.{number_at, number_or_zero}
use Rattle.mps_model.specs.FaultRules.{is_among}
use Rattle.int_model.specs.declared.model.Item.{Item}
use Rattle.int_model.specs.declared.model.Column.{Column}
use Rattle.mps_write.specs.PlainModels.{IsPlainNumber, IsNameByte, IsPlainName, IsPlainItem, ArePlainItems, ArePlainSides, IsPlainColumn}
use Rattle.mps_write.specs.CanonicalText.{whole_side, right_side, range_of, pair_of, factor_in}
use Rattle.mps_write.proofs.LineTexts.{is_field_byte, is_field}
use Rattle.mps_write.proofs.NumberTexts.{number_read, number_field, number_short, range_short}
use Rattle.mps_write.proofs.NameLaws.{bytes_same, each, each_weaker, AreFresh}
use Rattle.mps_write.proofs.PairScans.{IsGoodPair}
use Rattle.mps_write.proofs.ColumnScans.{IsGoodLabel}

-- ---- numbers

-- a plain number is what its digits are read as
pub plain_read : (q : ℚ) → IsPlainNumber q → number_at (signed_decimal q.num) ≡ q
plain_read q plain = ap number_or_zero (number_read q.num (omega (arith, plain.size))) ∙ sym (whole_from_den q plain.is_whole)

pub whole_read : (z : ℤ) → nat_abs z < 2 ^ 127 → number_at (signed_decimal z) ≡ whole z
whole_read z small = ap number_or_zero (number_read z small)

pub number_kept : (z : ℤ) → nat_abs z < 2 ^ 127 → number_of (signed_decimal z) ≡ Ok (number_at (signed_decimal z))
number_kept z small = number_read z small ∙ ap Ok (sym (whole_read z small))

-- ---- names

name_byte : (byte : ℕ) → IsNameByte byte → is_field_byte byte ≡ true
name_byte byte h = and_from (leb 33 byte) (leb byte 126) (le-leb 33 byte h.0) (le-leb byte 126 h.1)

name_bytes : (name : List ℕ) → AllByRecursion IsNameByte name → list_all is_field_byte name ≡ true
name_bytes [] h = refl
name_bytes (byte ∷ name) h = and_from (is_field_byte byte) (list_all is_field_byte name) (name_byte byte h.0) (name_bytes name h.1)

field_from : (name : List ℕ) → 0 < length name → list_all is_field_byte name ≡ true → is_field name ≡ true
field_from [] some all = absurd (omega arith)
field_from (byte ∷ name) some all = all

pub name_field : (name : List ℕ) → IsPlainName name → is_field name ≡ true
name_field name plain = field_from name plain.some (name_bytes name (each IsNameByte name plain.printed))

pub good_label : (column : Column) → IsPlainColumn column → IsGoodLabel column.name
good_label column plain = record { name = name_field column.name plain.name; short = plain.name.few }

-- ---- pairs

-- a name that a row of the text has
pub record IsRowName (names : List (List ℕ)) (name : List ℕ) : Type 0 where
  pub known : is_among names name ≡ true
  pub field : is_field name ≡ true
  pub unmarked : bytes_eq (codes "'MARKER'") name ≡ false
  pub short : length name ≤ 100

pub good_pair : (names : List (List ℕ)) (name : List ℕ) (z : ℤ) → IsRowName names name → nat_abs z < 2 ^ 127 → length (signed_decimal z) ≤ 30 → IsGoodPair names (pair_of name z)
good_pair names name z can small short = record {
  known = can.known;
  read = number_kept z small;
  name = can.field;
  number = number_field z small;
  unmarked = can.unmarked;
  short_name = can.short;
  short_number = short;
}

-- with a plain number
pub plain_pair : (names : List (List ℕ)) (name : List ℕ) (z : ℤ) → IsRowName names name → nat_abs z ≤ 2 ^ 96 → IsGoodPair names (pair_of name z)
plain_pair names name z can small = good_pair names name z can (omega (arith, small)) (number_short z small)

-- ---- what holds of each that a list gives

pub some_map : {X Y : Type 0} (P : Y → Type 0) (f : X → Y) (o : Option X) → IfSome o (λ x. P (f x)) → IfSome (option_map f o) P
some_map P f None h = tt
some_map P f (Some x) h = h

pub each_filter_map : {X Y : Type 0} (P : Y → Type 0) (f : X → Option Y) (xs : List X) → AllByRecursion (λ x. IfSome (f x) P) xs → AllByRecursion P (filter_map f xs)
each_filter_map P f [] h = tt
each_filter_map {X = X} {Y = Y} P f (x ∷ xs) h = onto (each_filter_map P f xs h.1) (f x) h.0
  where
    onto : AllByRecursion P (filter_map f xs) → (o : Option Y) → IfSome o P → AllByRecursion P (cons_option o (filter_map f xs))
    onto rest None g = rest
    onto rest (Some y) g = (g, rest)

pub both_each : {X : Type 0} (P Q R : X → Type 0) (xs : List X) → ((x : X) → P x → Q x → R x) → AllByRecursion P xs → AllByRecursion Q xs → AllByRecursion R xs
both_each P Q R [] make h k = tt
both_each P Q R (x ∷ xs) make h k = (make x h.0 k.0, both_each P Q R xs make h.1 k.1)

-- each name is among the names
pub each_known : {X : Type 0} (name_of : X → List ℕ) (xs : List X) → AllByRecursion (λ x. is_among (map name_of xs) (name_of x) ≡ true) xs
each_known name_of [] = tt
each_known {X = X} name_of (x ∷ xs) = (
  or_left (bytes_eq (name_of x) (name_of x)) (is_among (map name_of xs) (name_of x)) (bytes_same (name_of x)),
  each_weaker (λ y. is_among (map name_of xs) (name_of y) ≡ true) (λ y. is_among (name_of x ∷ map name_of xs) (name_of y) ≡ true) xs
      (λ y h. or_right (bytes_eq (name_of y) (name_of x)) (is_among (map name_of xs) (name_of y)) h) (each_known name_of xs),
)

-- names of some elements are fresh where those of all are
pub fresh_some : {X : Type 0} (name_of : X → List ℕ) (pair_at : X → Option Pair) → ((x : X) → IfSome (pair_at x) (λ (pair : Pair). pair.name ≡ name_of x)) → (taken fewer : List (List ℕ)) (xs : List X)
    → ((name : List ℕ) → is_among taken name ≡ false → is_among fewer name ≡ false) → AreFresh taken (map name_of xs) → AreFresh fewer (map (λ (pair : Pair). pair.name) (filter_map pair_at xs))
fresh_some name_of pair_at named taken fewer [] sub fresh = tt
fresh_some name_of pair_at named taken fewer (x ∷ xs) sub fresh =
    onto (fresh_some name_of pair_at named (taken ++ name_of x ∷ []) fewer xs (λ name h. sub name (left_out name h)) fresh.1)
    (fresh_some name_of pair_at named (taken ++ name_of x ∷ []) (fewer ++ name_of x ∷ []) xs kept fresh.1) (pair_at x) (named x)
  where
    left_out : (name : List ℕ) → is_among (taken ++ name_of x ∷ []) name ≡ false → is_among taken name ≡ false
    left_out name h = (or_parts (is_among taken name) (is_among (name_of x ∷ []) name) (sym (list_any-append (bytes_eq name) taken (name_of x ∷ [])) ∙ h)).0

    kept : (name : List ℕ) → is_among (taken ++ name_of x ∷ []) name ≡ false → is_among (fewer ++ name_of x ∷ []) name ≡ false
    kept name h =
        let parts = or_parts (is_among taken name) (is_among (name_of x ∷ []) name) (sym (list_any-append (bytes_eq name) taken (name_of x ∷ [])) ∙ h) in
        list_any-append (bytes_eq name) fewer (name_of x ∷ []) ∙ or_from (is_among fewer name) (is_among (name_of x ∷ []) name) (sub name parts.0) parts.1

    onto : AreFresh fewer (map (λ (pair : Pair). pair.name) (filter_map pair_at xs)) → AreFresh (fewer ++ name_of x ∷ []) (map (λ (pair : Pair). pair.name) (filter_map pair_at xs))
        → (o : Option Pair) → IfSome o (λ (pair : Pair). pair.name ≡ name_of x) → AreFresh fewer (map (λ (pair : Pair). pair.name) (cons_option o (filter_map pair_at xs)))
    onto without_it with_it None h = without_it
    onto without_it with_it (Some pair) h =
        subst (λ name. (is_among fewer name ≡ false) × AreFresh (fewer ++ name ∷ []) (map (λ (pair : Pair). pair.name) (filter_map pair_at xs))) (sym h)
        (sub (name_of x) fresh.0, with_it)

-- ---- factors

factor_plain : (j : ℕ) (items : List Item) → AllByRecursion IsPlainItem items → IfSome (factor_in j items) (λ (factor : ℚ). IsPlainNumber factor × (factor.num ≢ pos 0))
factor_plain j [] all = tt
factor_plain j (item ∷ items) all =
    elim (item.column == j) as (λ b. IfSome (option_map (λ (item : Item). item.factor) (cond b (Some item) (find (λ (item : Item). item.column == j) items))) (λ (factor : ℚ). IsPlainNumber factor × (factor.num ≢ pos 0)))
    [ true ↦ (all.0.number, all.0.some) | false ↦ factor_plain j items all.1 ]

pub factor_kept : (j n : ℕ) (items : List Item) → ArePlainItems n items → IfSome (factor_in j items) (λ (factor : ℚ). IsPlainNumber factor × (factor.num ≢ pos 0))
factor_kept j n items plain = factor_plain j items (each IsPlainItem items plain.terms)

-- ---- sides

-- the right side of a plain row is plain
pub right_side_small : (lo hi : Option ℚ) → ArePlainSides lo hi → nat_abs (right_side (whole_side lo) (whole_side hi)) ≤ 2 ^ 96
right_side_small None None plain = absurd plain
right_side_small None (Some hi) plain = plain.size
right_side_small (Some lo) None plain = plain.size
right_side_small (Some lo) (Some hi) plain = plain.0.size

-- the range of two sides that do not cross
abbrev pub IsRange : ℤ → Type 0
IsRange z = (n : ℕ) × ((z ≡ pos n) × (n ≤ 2 ^ 97))

difference : (low high : ℤ) → low ≤ℤ high → nat_abs low ≤ 2 ^ 96 → nat_abs high ≤ 2 ^ 96 → IsRange (high -ℤ low)
difference low high le small narrow = (nat_abs (high -ℤ low), (omega (arith, ints, le), omega (arith, ints, small, narrow)))

pub range_kept : (lo hi : Option ℚ) → ArePlainSides lo hi → IfSome (range_of (whole_side lo) (whole_side hi)) IsRange
range_kept None hi plain = tt
range_kept (Some lo) None plain = tt
range_kept (Some lo) (Some hi) plain =
    let le : lo.num ≤ℤ hi.num = le_from_whole lo.num hi.num (subst (λ p. p ≤ℚ whole hi.num) (whole_from_den lo plain.0.is_whole) (subst (λ q. lo ≤ℚ q) (whole_from_den hi plain.1.is_whole) plain.2)) in
    elim (int_eq lo.num hi.num) as (λ b. IfSome (cond b None (Some (hi.num -ℤ lo.num))) IsRange) [ true ↦ tt | false ↦ difference lo.num hi.num le plain.0.size plain.1.size ]

pub range_pair_good : (names : List (List ℕ)) (name : List ℕ) (z : ℤ) → IsRowName names name → IsRange z → IsGoodPair names (pair_of name z)
range_pair_good names name z can (n, (is, small)) =
    subst (λ y. IsGoodPair names (pair_of name y)) (sym is) (good_pair names name (pos n) can (omega (arith, small)) (range_short n small))
