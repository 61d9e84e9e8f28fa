-- What the loops of the code find and put.
use Rattle.std.proofs.Common.{◌≡◌, ◌≢◌, ◌↔◌, ℕ, ℤ, zero, suc, ◌+◌, ◌<◌, Bool, true, false, true≢false, ◌||◌, List, [], ◌∷◌, ◌++◌, length, map, filter_map, get_or, take, Option, Some, None, Result, Ok, Err, append_assoc, append-nil, refl, sym, ap, subst, ◌∙◌, arith}
use Rattle.std.specs.Prelude.{bytes_eq, AllPairs, OnOk, IfOk, IsTrue, is_some, codes, option_map, option_to_list}
use Rattle.std.specs.List.{list_any, cons_option}
use Rattle.std.proofs.lemmas.Bool.{or_from, or_parts, or_right}
use Rattle.std.proofs.lemmas.List.{take_more, length-take-le, get_or-take, get_or_default, map-append}
use Rattle.std.proofs.lemmas.List.Concat.{flat_map-append}
use Rattle.std.proofs.lemmas.List.Elements.{filter_map-append}
use Rattle.std.proofs.lemmas.List.Quantifiers.{all_pairs_push}
use Rattle.int_model.specs.declared.model.Column.{Column}
use Rattle.int_model.specs.declared.model.Row.{Row}
use Rattle.mps_model.specs.Tables.{Pair}
use Rattle.mps_write.specs.CanonicalText.{Fields, data_line, in_lines, section, section_of_some, pair_of, NamedItems, labelled, column_pairs, column_table, row_range, range_pair, range_pairs, unlabelled}
use Rattle.mps_write.proofs.NameLaws.{bytes_same, bytes_differ}

module _ {X : Type 0} (name_of : X → List ℕ) where
  abbrev pub Differ : List X → Type 0
  Differ xs = AllPairs (λ (a b : X). name_of a ≢ name_of b) xs

  none_has : (name : List ℕ) (xs : List X) → ((k : ℕ) (d : X) → k < length xs → name_of (get_or xs k d) ≢ name) → list_any (λ x. bytes_eq (name_of x) name) xs ≡ false
  none_has name [] apart = refl
  none_has name (x ∷ xs) apart =
      or_from (bytes_eq (name_of x) name) (list_any (λ x. bytes_eq (name_of x) name) xs) (bytes_differ (name_of x) name (apart 0 x (omega arith)))
      (none_has name xs (λ k d h. apart (suc k) d (omega arith)))

  all_apart : (name : List ℕ) (xs : List X) → list_any (λ x. bytes_eq (name_of x) name) xs ≡ false → (k : ℕ) (d : X) → k < length xs → name_of (get_or xs k d) ≢ name
  all_apart name [] none k d h = absurd (omega arith)
  all_apart name (x ∷ xs) none zero d h = λ same. true≢false (sym (ap (λ n. bytes_eq n name) same ∙ bytes_same name) ∙ (or_parts (bytes_eq (name_of x) name) (list_any (λ x. bytes_eq (name_of x) name) xs) none).0)
  all_apart name (x ∷ xs) none (suc k) d h = all_apart name xs (or_parts (bytes_eq (name_of x) name) (list_any (λ x. bytes_eq (name_of x) name) xs) none).1 k d (omega arith)

  -- one more element, whose name none before it has
  pub differ_more : (xs : List X) (i : ℕ) (x : X) → i < length xs → x ≡ get_or xs i x → Differ (take i xs) → list_any (λ y. bytes_eq (name_of y) (name_of x)) (take i xs) ≡ false
      → Differ (take (i + 1) xs)
  differ_more xs i x within is differ none =
      subst Differ (sym (take_more xs i x within ∙ ap (λ y. take i xs ++ y ∷ []) (sym is)))
      (all_pairs_push (λ (a b : X). name_of a ≢ name_of b) (take i xs) x differ (λ k d h. all_apart (name_of x) (take i xs) none k d h))

  -- a name that an element before has
  pub differ_not : (xs : List X) (i : ℕ) (x : X) → i < length xs → x ≡ get_or xs i x → list_any (λ y. bytes_eq (name_of y) (name_of x)) (take i xs) ≡ true → Differ xs → ⊥
  differ_not xs i x within is any differ =
      true≢false (sym any ∙ none_has (name_of x) (take i xs)
      (λ k d h same.
      let below : k < i = omega (arith, h, length-take-le i xs (omega arith)) in
      differ k i x below within (ap name_of (get_at k d x below within ∙ sym (get_or-take i xs k d below)) ∙ same ∙ ap name_of is)))
    where
      get_at : (k : ℕ) (d e : X) → k < i → i < length xs → get_or xs k e ≡ get_or xs k d
      get_at k d e below within = get_or_default xs k e d (omega arith)

-- ---- lines that are put one after another

-- the elements so far, and one more
pub taken : {X : Type 0} (xs : List X) (i : ℕ) (x : X) → i < length xs → x ≡ get_or xs i x → take (i + 1) xs ≡ take i xs ++ x ∷ []
taken xs i x within is = take_more xs i x within ∙ ap (λ y. take i xs ++ y ∷ []) (sym is)

listed : {X : Type 0} (o : Option X) → cons_option o [] ≡ option_to_list o
listed None = refl
listed (Some x) = refl

pub filter_map-push : {X Y : Type 0} (f : X → Option Y) (xs : List X) (x : X) → filter_map f (xs ++ x ∷ []) ≡ filter_map f xs ++ option_to_list (f x)
filter_map-push f xs x = filter_map-append f xs (x ∷ []) ∙ ap (λ more. filter_map f xs ++ more) (listed (f x))

-- the text of data lines
abbrev pub table_text : List Fields → List ℕ
table_text table = in_lines (map data_line table)

table_text-append : (front more : List Fields) → table_text (front ++ more) ≡ table_text front ++ table_text more
table_text-append front more = ap in_lines (map-append data_line front more) ∙ flat_map-append (λ line. line ++ 10 ∷ []) (map data_line front) (map data_line more)

-- a loop that has put some lines puts more
pub text_more : (initial now next : List ℕ) (front more all : List Fields) → now ≡ initial ++ table_text front → next ≡ now ++ table_text more → all ≡ front ++ more → next ≡ initial ++ table_text all
text_more initial now next front more all so_far then whole =
    then ∙ ap (λ text. text ++ table_text more) so_far ∙ append_assoc initial (table_text front) (table_text more)
    ∙ ap (λ text. initial ++ text) (sym (table_text-append front more) ∙ ap table_text (sym whole))

-- behind the line that begins a section
pub text_headed : (old begun text : List ℕ) (heading : List ℕ) (table : List Fields) → begun ≡ old ++ (heading ++ 10 ∷ []) → text ≡ begun ++ table_text table → text ≡ old ++ in_lines (section heading table)
text_headed old begun text heading table head rest = rest ∙ ap (λ t. t ++ table_text table) head ∙ append_assoc old (heading ++ 10 ∷ []) (table_text table)

-- ---- the lines of columns

pub column_table-push : (named : List NamedItems) (j k : ℕ) (columns : List Column) (column : Column) → j + length columns ≡ k
    → column_table named j (columns ++ column ∷ []) ≡ column_table named j columns ++ map (labelled column.name) (column_pairs named k)
column_table-push named j k [] column at = append-nil (map (labelled column.name) (column_pairs named j)) ∙ ap (λ i. map (labelled column.name) (column_pairs named i)) (omega (arith, at))
column_table-push named j k (other ∷ columns) column at =
    ap (λ rest. map (labelled other.name) (column_pairs named j) ++ rest) (column_table-push named (j + 1) k columns column (omega (arith, at)))
    ∙ sym (append_assoc (map (labelled other.name) (column_pairs named j)) (column_table named (j + 1) columns) (map (labelled column.name) (column_pairs named k)))

-- ---- whether there are any lines

pub any_more : {X : Type 0} (found more : Bool) (front : List X) (o : Option X) → IsTrue found ↔ (front ≢ []) → more ≡ is_some o → IsTrue (found || more) ↔ (front ++ option_to_list o ≢ [])
any_more {X = X} found more front None told is =
    let none : more ≡ false = is in
    let same : (found || more) ≡ found = ap (λ b. found || b) none ∙ or_false found in (
      λ e. λ empty. told.0 (sym same ∙ e) (sym (append-nil front) ∙ empty),
      λ some. same ∙ told.1 (λ empty. some (append-nil front ∙ empty)),
    )
  where
    or_false : (b : Bool) → (b || false) ≡ b
    or_false true = refl
    or_false false = refl
any_more {X = X} found more front (Some x) told is = (
  λ e. λ empty. not_empty front empty,
  λ some. or_right found more is,
)
  where
    not_empty : (front : List X) → front ++ x ∷ [] ≡ [] → ⊥
    not_empty [] e = cc
    not_empty (y ∷ front) e = cc

-- ---- ranges

no_range : (row : Row) → is_some (row_range row) ≡ false → range_pair row ≡ None
no_range row none = by (row_range row) none
  where
    by : (o : Option ℤ) → is_some o ≡ false → option_map (pair_of row.name) o ≡ None
    by None none = refl
    by (Some z) none = absurd (true≢false none)

pub no_ranges : (rows : List Row) → list_any (λ (row : Row). is_some (row_range row)) rows ≡ false → range_pairs rows ≡ []
no_ranges [] none = refl
no_ranges (row ∷ rows) none =
    let parts = or_parts (is_some (row_range row)) (list_any (λ (row : Row). is_some (row_range row)) rows) none in
    ap (λ o. cons_option o (range_pairs rows)) (no_range row parts.0) ∙ no_ranges rows parts.1

some_section : (heading : List ℕ) (table : List Fields) → table ≢ [] → section_of_some heading table ≡ section heading table
some_section heading [] some = absurd (some refl)
some_section heading (fields ∷ table) some = refl

some_range : (rows : List Row) → list_any (λ (row : Row). is_some (row_range row)) rows ≡ true → map unlabelled (range_pairs rows) ≢ []
some_range rows any empty = true≢false (sym any ∙ none rows empty)
  where
    here : (name : List ℕ) (o : Option ℤ) (pairs : List Pair) → map unlabelled (cons_option (option_map (pair_of name) o) pairs) ≡ [] → (is_some o ≡ false) × (map unlabelled pairs ≡ [])
    here name None pairs e = (refl, e)
    here name (Some z) pairs e = cc

    none : (rows : List Row) → map unlabelled (range_pairs rows) ≡ [] → list_any (λ (row : Row). is_some (row_range row)) rows ≡ false
    none [] e = refl
    none (row ∷ rows) e =
        let parts = here row.name (row_range row) (range_pairs rows) e in
        or_from (is_some (row_range row)) (list_any (λ (row : Row). is_some (row_range row)) rows) parts.0 (none rows parts.1)

-- where a row has a range, the section is there
pub ranges_begun : (rows : List Row) → list_any (λ (row : Row). is_some (row_range row)) rows ≡ true → section_of_some (codes "RANGES") (map unlabelled (range_pairs rows)) ≡ section (codes "RANGES") (map unlabelled (range_pairs rows))
ranges_begun rows any = some_section (codes "RANGES") (map unlabelled (range_pairs rows)) (some_range rows any)

-- ---- a call whose answer is handed on

pub handed_on : {A E P Q : Type 0} (answer : Result A E) → (P → Q) → OnOk answer P → OnOk answer Q
handed_on (Ok x) f told = f told
handed_on (Err e) f told = tt

pub then_of_ok : {A E : Type 0} (answer : Result A E) (P Q : A → Type 0) → ((x : A) → P x → Q x) → IfOk answer P → IfOk answer Q
then_of_ok (Ok x) P Q f told = f x told
then_of_ok (Err e) P Q f told = tt
