-- What one more line of COLUMNS, and one more pair on it, do to the items of a row and to the last column beside it.
use Rattle.std.proofs.Common.{◌≡◌, ℕ, ◌<◌, length, Bool, true, false, cond, ◌||◌, List, [], ◌∷◌, ◌++◌, filter, Option, Some, None, refl, sym, ap, ◌∙◌, arith, append_assoc}
use Rattle.std.specs.Prelude.{bytes_eq, filter_map, option_map, option_and_then}
use Rattle.std.specs.List.{list_all, last_or, cons_option, position_or_len}
use Rattle.std.proofs.Math.Bool.{or-false}
use Rattle.std.proofs.lemmas.Bool.{or_right, and_parts, and_from}
use Rattle.std.proofs.lemmas.List.{append-nil, map-append}
use Rattle.std.proofs.lemmas.List.Concat.{flat_map-append}
use Rattle.std.proofs.lemmas.List.Elements.{filter-append, filter_map-append}
use Rattle.std.proofs.lemmas.List.Folds.{list_any-append}
use Rattle.mps_fields.specs.BooleanLaws.{either}
use Rattle.exact_math.specs.Rational.{ℚ}
use Rattle.int_model.specs.declared.model.Item.{Item}
use Rattle.mps_model.specs.Tables.{Pair, PairLine, ColumnLine, marker, entries}
use Rattle.mps_model.specs.Sides.{pairs_of, number_at, number_beside}
use Rattle.mps_model.specs.Bounds.{last_of, lines_of_column, column_names}
use Rattle.mps_model.specs.StatedModel.{item_with, items_of}
use Rattle.mps_model.specs.FaultRules.{is_among}
use Rattle.mps_model.specs.PairFaults.{pair_names}
use Rattle.mps_model.specs.ColumnTables.{columns_alone, last_beside, bare_line, with_pair}
use Rattle.mps_model.specs.NameListLaws.{distinct_last, all_among, filter_map_same, filter_same, position-known, position_fresh, position_within, last_of-push, among_differs}
use Rattle.mps_model.specs.KeptSides.{names_in}
use Rattle.mps_model.specs.FirstPlaceLaws.{bytes_same, bytes_flip}
use Rattle.mps_model.specs.DistinctNameLaws.{column_names_distinct}
use Rattle.mps_model.proofs.OnTables.PairLaws.{none_from, beside_new, beside_other, beside_found}
use Rattle.mps_model.specs.ColumnLineLaws.{lines_of_column-entries, lines_of_column-marker, column_names-marker, column_names_fresh, column_names_known, column_names_same, lines_of_column_none}

-- ---- over any columns and their pairs

abbrev item_by : List (List ℕ) → (List ℕ → List Pair) → List ℕ → List ℕ → Option Item
item_by names pairs row column = option_and_then (item_with (position_or_len (bytes_eq column) names)) (number_beside (pairs column) row)

abbrev items_by : List (List ℕ) → (List ℕ → List Pair) → List ℕ → List Item
items_by names pairs row = filter_map (item_by names pairs row) names

abbrev is_beside : (List ℕ → List Pair) → List ℕ → List ℕ → Bool
is_beside pairs row column = is_among (names_in (pairs column)) row

abbrev last_by : List (List ℕ) → (List ℕ → List Pair) → List ℕ → Option ℕ
last_by names pairs row = option_map (λ column. position_or_len (bytes_eq column) names) (last_of (filter (is_beside pairs row) names))

items-same : (names : List (List ℕ)) (pairs other : List ℕ → List Pair) (row : List ℕ) → ((column : List ℕ) → number_beside (pairs column) row ≡ number_beside (other column) row)
    → items_by names pairs row ≡ items_by names other row
items-same names pairs other row same =
    filter_map_same (is_among names) (item_by names pairs row) (item_by names other row) names (all_among names)
    (λ column among. ap (option_and_then (item_with (position_or_len (bytes_eq column) names))) (same column))

last-same : (names : List (List ℕ)) (pairs other : List ℕ → List Pair) (row : List ℕ) → ((column : List ℕ) → is_beside pairs row column ≡ is_beside other row column)
    → last_by names pairs row ≡ last_by names other row
last-same names pairs other row same =
    ap (λ found. option_map (λ column. position_or_len (bytes_eq column) names) (last_of found))
    (filter_same (is_among names) (is_beside pairs row) (is_beside other row) names (all_among names) (λ column among. same column))

items_fresh : (names : List (List ℕ)) (pairs : List ℕ → List Pair) (row label : List ℕ) → is_among names label ≡ false → pairs label ≡ []
    → items_by (names ++ label ∷ []) pairs row ≡ items_by names pairs row
items_fresh names pairs row label fresh bare =
    let all : List (List ℕ) = names ++ label ∷ [] in
    filter_map-append (item_by all pairs row) names (label ∷ [])
    ∙ ap (λ found. filter_map (item_by all pairs row) names ++ cons_option (option_and_then (item_with (position_or_len (bytes_eq label) all)) (number_beside found row)) []) bare
    ∙ append-nil (filter_map (item_by all pairs row) names)
    ∙ filter_map_same (is_among names) (item_by all pairs row) (item_by names pairs row) names (all_among names)
    (λ column among. ap (λ n. option_and_then (item_with n) (number_beside (pairs column) row)) (position-known (bytes_eq column) names (label ∷ []) among))

-- a number beside the row in the last column is one more item, where it is not 0
items_more : (names : List (List ℕ)) (pairs other : List ℕ → List Pair) (row label : List ℕ) (q : ℚ) → is_among names label ≡ false
    → number_beside (pairs label) row ≡ None → number_beside (other label) row ≡ Some q
    → ((column : List ℕ) → bytes_eq label column ≡ false → number_beside (other column) row ≡ number_beside (pairs column) row)
    → items_by (names ++ label ∷ []) other row ≡ items_by (names ++ label ∷ []) pairs row ++ cons_option (item_with (length names) q) []
items_more names pairs other row label q fresh none some same =
    let all : List (List ℕ) = names ++ label ∷ [] in
    let front : filter_map (item_by all other row) names ≡ filter_map (item_by all pairs row) names =
    filter_map_same (is_among names) (item_by all other row) (item_by all pairs row) names (all_among names)
    (λ column among. ap (option_and_then (item_with (position_or_len (bytes_eq column) all)))
    (same column (bytes_flip label column ∙ among_differs names column label among fresh))) in
    let at : position_or_len (bytes_eq label) all ≡ length names = position_fresh (bytes_eq label) names label fresh (bytes_same label) in
    let before : items_by all pairs row ≡ filter_map (item_by all pairs row) names =
    filter_map-append (item_by all pairs row) names (label ∷ [])
    ∙ ap (λ o. filter_map (item_by all pairs row) names ++ cons_option (option_and_then (item_with (position_or_len (bytes_eq label) all)) o) []) none
    ∙ append-nil (filter_map (item_by all pairs row) names) in
    filter_map-append (item_by all other row) names (label ∷ [])
    ∙ ap (λ o. filter_map (item_by all other row) names ++ cons_option (option_and_then (item_with (position_or_len (bytes_eq label) all)) o) []) some
    ∙ ap (λ n. filter_map (item_by all other row) names ++ cons_option (item_with n q) []) at
    ∙ ap (λ found. found ++ cons_option (item_with (length names) q) []) (front ∙ sym before)

list_all_filter : {X : Type 0} (test p : X → Bool) (xs : List X) → list_all test xs ≡ true → list_all test (filter p xs) ≡ true
list_all_filter test p [] all = refl
list_all_filter test p (x ∷ xs) all =
    let parts = and_parts (test x) (list_all test xs) all in
    elim (p x) as (λ b. list_all test (cond b (x ∷ filter p xs) (filter p xs)) ≡ true) [
      | true ↦ and_from (test x) (list_all test (filter p xs)) parts.0 (list_all_filter test p xs parts.1)
      | false ↦ list_all_filter test p xs parts.1
    ]

last_or_passes : {X : Type 0} (test : X → Bool) (o : Option X) (xs : List X) (z : X) → ((y : X) → o ≡ Some y → test y ≡ true) → list_all test xs ≡ true
    → last_or o xs ≡ Some z → test z ≡ true
last_or_passes test o [] z first all is = first z is
last_or_passes test o (x ∷ xs) z first all is =
    let parts = and_parts (test x) (list_all test xs) all in
    last_or_passes test (Some x) xs z (λ y e. let same : x ≡ y = cc in ap test (sym same) ∙ parts.0) parts.1 is

last_among : (p : List ℕ → Bool) (names : List (List ℕ)) (name : List ℕ) → last_of (filter p names) ≡ Some name → is_among names name ≡ true
last_among p names name is =
    last_or_passes (is_among names) None (filter p names) name (λ y e. cc) (list_all_filter (is_among names) p names (all_among names)) is

option_map_same : {X Y : Type 0} (f g : X → Y) (o : Option X) → ((x : X) → o ≡ Some x → f x ≡ g x) → option_map f o ≡ option_map g o
option_map_same f g None same = refl
option_map_same f g (Some x) same = ap Some (same x refl)

not_placed : {X : Type 0} (f : X → ℕ) (o : Option X) (n : ℕ) → ((x : X) → o ≡ Some x → f x < n) → option_map f o ≡ Some n → ⊥
not_placed f None n below is = cc
not_placed f (Some x) n below is = let low : f x < n = below x refl in let same : f x ≡ n = cc in omega arith

-- a last column that has no entry beside the row leaves the others as they are
beside_others : (names : List (List ℕ)) (pairs : List ℕ → List Pair) (row label : List ℕ) → is_beside pairs row label ≡ false
    → filter (is_beside pairs row) (names ++ label ∷ []) ≡ filter (is_beside pairs row) names
beside_others names pairs row label bare =
    filter-append (is_beside pairs row) names (label ∷ [])
    ∙ ap (λ b. filter (is_beside pairs row) names ++ cond b (label ∷ []) []) bare
    ∙ append-nil (filter (is_beside pairs row) names)

last_fresh : (names : List (List ℕ)) (pairs : List ℕ → List Pair) (row label : List ℕ) → pairs label ≡ []
    → last_by (names ++ label ∷ []) pairs row ≡ last_by names pairs row
last_fresh names pairs row label bare =
    ap (λ found. option_map (λ column. position_or_len (bytes_eq column) (names ++ label ∷ [])) (last_of found))
    (beside_others names pairs row label (ap (λ found. is_among (names_in found) row) bare))
    ∙ option_map_same (λ column. position_or_len (bytes_eq column) (names ++ label ∷ [])) (λ column. position_or_len (bytes_eq column) names)
    (last_of (filter (is_beside pairs row) names))
    (λ column is. position-known (bytes_eq column) names (label ∷ []) (last_among (is_beside pairs row) names column is))

-- the last column is the last beside a row exactly where it has an entry beside it
last_here : (names : List (List ℕ)) (pairs : List ℕ → List Pair) (row label : List ℕ) → is_among names label ≡ false → is_beside pairs row label ≡ true
    → last_by (names ++ label ∷ []) pairs row ≡ Some (length names)
last_here names pairs row label fresh here =
    ap (λ found. option_map (λ column. position_or_len (bytes_eq column) (names ++ label ∷ [])) (last_of found))
    (filter-append (is_beside pairs row) names (label ∷ []) ∙ ap (λ b. filter (is_beside pairs row) names ++ cond b (label ∷ []) []) here)
    ∙ ap (option_map (λ column. position_or_len (bytes_eq column) (names ++ label ∷ []))) (last_of-push (filter (is_beside pairs row) names) label)
    ∙ ap Some (position_fresh (bytes_eq label) names label fresh (bytes_same label))

last_elsewhere : (names : List (List ℕ)) (pairs : List ℕ → List Pair) (row label : List ℕ) → is_beside pairs row label ≡ false
    → last_by (names ++ label ∷ []) pairs row ≡ Some (length names) → ⊥
last_elsewhere names pairs row label bare is =
    not_placed (λ column. position_or_len (bytes_eq column) (names ++ label ∷ [])) (last_of (filter (is_beside pairs row) names)) (length names)
    (λ column last.
    let among : is_among names column ≡ true = last_among (is_beside pairs row) names column last in
    let at : position_or_len (bytes_eq column) (names ++ label ∷ []) ≡ position_or_len (bytes_eq column) names = position-known (bytes_eq column) names (label ∷ []) among in
    let within : position_or_len (bytes_eq column) names < length names = position_within (bytes_eq column) names among in
    omega arith)
    (sym (ap (λ found. option_map (λ column. position_or_len (bytes_eq column) (names ++ label ∷ [])) (last_of found)) (beside_others names pairs row label bare)) ∙ is)

-- ---- pairs

number_beside_none : (pairs : List Pair) (row : List ℕ) → is_among (names_in pairs) row ≡ false → number_beside pairs row ≡ None
number_beside_none pairs row none = none_from (number_beside pairs row) (beside_found pairs row ∙ none)

number_beside_push : (pairs : List Pair) (pair : Pair) → is_among (names_in pairs) pair.name ≡ false → number_beside (pairs ++ pair ∷ []) pair.name ≡ Some (number_at pair.number)
number_beside_push pairs pair none = beside_new pairs pair (number_beside_none pairs pair.name none)

number_beside_other : (pairs : List Pair) (pair : Pair) (b : Bool) (row : List ℕ) → bytes_eq pair.name row ≡ false
    → number_beside (pairs ++ cond b (pair ∷ []) []) row ≡ number_beside pairs row
number_beside_other pairs pair true row differ = beside_other pairs pair row differ
number_beside_other pairs pair false row differ = ap (λ found. number_beside found row) (append-nil pairs)

pub names_in-push : (pairs : List Pair) (pair : Pair) (row : List ℕ) → is_among (names_in (pairs ++ pair ∷ [])) row ≡ (is_among (names_in pairs) row || bytes_eq row pair.name)
names_in-push pairs pair row =
    ap (λ names. is_among names row) (map-append (λ (pair : Pair). pair.name) pairs (pair ∷ []))
    ∙ list_any-append (bytes_eq row) (names_in pairs) (pair.name ∷ [])
    ∙ ap (λ b. is_among (names_in pairs) row || b) (or-false (bytes_eq row pair.name))

among_other : (pairs : List Pair) (pair : Pair) (b : Bool) (row : List ℕ) → bytes_eq pair.name row ≡ false
    → is_among (names_in (pairs ++ cond b (pair ∷ []) [])) row ≡ is_among (names_in pairs) row
among_other pairs pair true row differ =
    names_in-push pairs pair row ∙ ap (λ b. is_among (names_in pairs) row || b) (bytes_flip row pair.name ∙ differ) ∙ or-false (is_among (names_in pairs) row)
among_other pairs pair false row differ = ap (λ found. is_among (names_in found) row) (append-nil pairs)

-- ---- of lines

-- the pairs of a column
abbrev pub pairs_at : List ColumnLine → List ℕ → List Pair
pairs_at lines column = pairs_of (lines_of_column lines column)

pairs_of_one : (line : PairLine) (b : Bool) → pairs_of (cond b (line ∷ []) []) ≡ cond b line.pairs []
pairs_of_one line true = append-nil line.pairs
pairs_of_one line false = refl

pub pairs_at-entries : (lines : List ColumnLine) (line : PairLine) (column : List ℕ)
    → pairs_at (lines ++ entries line ∷ []) column ≡ pairs_at lines column ++ cond (bytes_eq line.label column) line.pairs []
pairs_at-entries lines line column =
    ap pairs_of (lines_of_column-entries lines line column)
    ∙ flat_map-append (λ (line : PairLine). line.pairs) (lines_of_column lines column) (cond (bytes_eq line.label column) (line ∷ []) [])
    ∙ ap (λ found. pairs_at lines column ++ found) (pairs_of_one line (bytes_eq line.label column))

-- a choice between nothing and nothing
pub nothing_chosen : {X : Type 0} (b : Bool) → ◌≡◌ {A = List X} (cond b [] []) []
nothing_chosen true = refl
nothing_chosen false = refl

pub pairs_at-bare : (lines : List ColumnLine) (at : ℕ) (label column : List ℕ) → pairs_at (lines ++ entries (bare_line at label) ∷ []) column ≡ pairs_at lines column
pairs_at-bare lines at label column =
    pairs_at-entries lines (bare_line at label) column ∙ ap (λ found. pairs_at lines column ++ found) (nothing_chosen (bytes_eq label column)) ∙ append-nil (pairs_at lines column)

more_pairs : (b : Bool) (front pairs : List Pair) (pair : Pair) → front ++ cond b (pairs ++ pair ∷ []) [] ≡ (front ++ cond b pairs []) ++ cond b (pair ∷ []) []
more_pairs true front pairs pair = sym (append_assoc front pairs (pair ∷ []))
more_pairs false front pairs pair = sym (append_assoc front [] [])

pub pairs_at-with_pair : (lines : List ColumnLine) (line : PairLine) (pair : Pair) (column : List ℕ)
    → pairs_at (lines ++ entries (with_pair line pair) ∷ []) column ≡ pairs_at (lines ++ entries line ∷ []) column ++ cond (bytes_eq line.label column) (pair ∷ []) []
pairs_at-with_pair lines line pair column =
    pairs_at-entries lines (with_pair line pair) column
    ∙ more_pairs (bytes_eq line.label column) (pairs_at lines column) line.pairs pair
    ∙ ap (λ found. found ++ cond (bytes_eq line.label column) (pair ∷ []) []) (sym (pairs_at-entries lines line column))

-- ---- the items of a row

pub items_of-marker : (lines : List ColumnLine) (word row : List ℕ)
    → items_of (columns_alone (lines ++ marker word ∷ [])) row ≡ items_of (columns_alone lines) row
items_of-marker lines word row =
    let next : List ColumnLine = lines ++ marker word ∷ [] in
    ap (λ names. items_by names (pairs_at next) row) (column_names-marker lines word)
    ∙ items-same (column_names lines) (pairs_at next) (pairs_at lines) row (λ column. ap (λ found. number_beside (pairs_of found) row) (lines_of_column-marker lines word column))

pub last_beside-marker : (lines : List ColumnLine) (word row : List ℕ) → last_beside (lines ++ marker word ∷ []) row ≡ last_beside lines row
last_beside-marker lines word row =
    let next : List ColumnLine = lines ++ marker word ∷ [] in
    ap (λ names. last_by names (pairs_at next) row) (column_names-marker lines word)
    ∙ last-same (column_names lines) (pairs_at next) (pairs_at lines) row (λ column. ap (λ found. is_among (pair_names found) row) (lines_of_column-marker lines word column))

-- a line without pairs changes nothing, whether its column is known or new
module _ (lines : List ColumnLine) (at : ℕ) (label row : List ℕ) where
  bare_items : (names : List (List ℕ)) → items_by names (pairs_at (lines ++ entries (bare_line at label) ∷ [])) row ≡ items_by names (pairs_at lines) row
  bare_items names =
      items-same names (pairs_at (lines ++ entries (bare_line at label) ∷ [])) (pairs_at lines) row (λ column. ap (λ found. number_beside found row) (pairs_at-bare lines at label column))

  bare_last : (names : List (List ℕ)) → last_by names (pairs_at (lines ++ entries (bare_line at label) ∷ [])) row ≡ last_by names (pairs_at lines) row
  bare_last names =
      last-same names (pairs_at (lines ++ entries (bare_line at label) ∷ [])) (pairs_at lines) row (λ column. ap (λ found. is_among (names_in found) row) (pairs_at-bare lines at label column))

  pub items_of-bare : items_of (columns_alone (lines ++ entries (bare_line at label) ∷ [])) row ≡ items_of (columns_alone lines) row
  items_of-bare =
      let next : List ColumnLine = lines ++ entries (bare_line at label) ∷ [] in
      either (is_among (column_names lines) label)
      (λ known. ap (λ names. items_by names (pairs_at next) row) (column_names_known lines (bare_line at label) known) ∙ bare_items (column_names lines))
      (λ fresh. ap (λ names. items_by names (pairs_at next) row) (column_names_fresh lines (bare_line at label) fresh)
      ∙ bare_items (column_names lines ++ label ∷ [])
      ∙ items_fresh (column_names lines) (pairs_at lines) row label fresh (ap pairs_of (lines_of_column_none lines label fresh)))

  pub last_beside-bare : last_beside (lines ++ entries (bare_line at label) ∷ []) row ≡ last_beside lines row
  last_beside-bare =
      let next : List ColumnLine = lines ++ entries (bare_line at label) ∷ [] in
      either (is_among (column_names lines) label)
      (λ known. ap (λ names. last_by names (pairs_at next) row) (column_names_known lines (bare_line at label) known) ∙ bare_last (column_names lines))
      (λ fresh. ap (λ names. last_by names (pairs_at next) row) (column_names_fresh lines (bare_line at label) fresh)
      ∙ bare_last (column_names lines ++ label ∷ [])
      ∙ last_fresh (column_names lines) (pairs_at lines) row label (ap pairs_of (lines_of_column_none lines label fresh)))

-- the last column is not among the others
last_is_fresh : (lines : List ColumnLine) (others : List (List ℕ)) (label : List ℕ) → column_names lines ≡ others ++ label ∷ [] → is_among others label ≡ false
last_is_fresh lines others label names =
    distinct_last others label (column_names_distinct (others ++ label ∷ []) lines (sym names))

-- a row is taken in the last column exactly where that is the last beside it
pub taken_here : (lines : List ColumnLine) (others : List (List ℕ)) (label row : List ℕ) → column_names lines ≡ others ++ label ∷ []
    → is_among (pair_names (lines_of_column lines label)) row ≡ true → last_beside lines row ≡ Some (length others)
taken_here lines others label row names taken =
    ap (λ names. last_by names (pairs_at lines) row) names ∙ last_here others (pairs_at lines) row label (last_is_fresh lines others label names) taken

pub not_taken_here : (lines : List ColumnLine) (others : List (List ℕ)) (label row : List ℕ) → column_names lines ≡ others ++ label ∷ []
    → is_among (pair_names (lines_of_column lines label)) row ≡ false → last_beside lines row ≡ Some (length others) → ⊥
not_taken_here lines others label row names free is =
    last_elsewhere others (pairs_at lines) row label free (sym (ap (λ names. last_by names (pairs_at lines) row) names) ∙ is)

-- the lines with a last line, and with one more pair on it
abbrev pub lines_to : List ColumnLine → PairLine → List ColumnLine
lines_to above line = above ++ entries line ∷ []

-- one more pair on the last line
module _ (above : List ColumnLine) (line : PairLine) (pair : Pair) where
  pub column_names-with_pair : column_names (lines_to above (with_pair line pair)) ≡ column_names (lines_to above line)
  column_names-with_pair = column_names_same above (with_pair line pair) line refl

  -- it leaves the other rows as they are
  pub items_of-other : (row : List ℕ) → bytes_eq pair.name row ≡ false
      → items_of (columns_alone (lines_to above (with_pair line pair))) row ≡ items_of (columns_alone (lines_to above line)) row
  items_of-other row differ =
      ap (λ names. items_by names (pairs_at (lines_to above (with_pair line pair))) row) column_names-with_pair
      ∙ items-same (column_names (lines_to above line)) (pairs_at (lines_to above (with_pair line pair))) (pairs_at (lines_to above line)) row
      (λ column. ap (λ found. number_beside found row) (pairs_at-with_pair above line pair column)
      ∙ number_beside_other (pairs_at (lines_to above line) column) pair (bytes_eq line.label column) row differ)

  pub last_beside-other : (row : List ℕ) → bytes_eq pair.name row ≡ false
      → last_beside (lines_to above (with_pair line pair)) row ≡ last_beside (lines_to above line) row
  last_beside-other row differ =
      ap (λ names. last_by names (pairs_at (lines_to above (with_pair line pair))) row) column_names-with_pair
      ∙ last-same (column_names (lines_to above line)) (pairs_at (lines_to above (with_pair line pair))) (pairs_at (lines_to above line)) row
      (λ column. ap (λ found. is_among (names_in found) row) (pairs_at-with_pair above line pair column)
      ∙ among_other (pairs_at (lines_to above line) column) pair (bytes_eq line.label column) row differ)

  pairs_here : pairs_at (lines_to above (with_pair line pair)) line.label ≡ pairs_at (lines_to above line) line.label ++ pair ∷ []
  pairs_here =
      pairs_at-with_pair above line pair line.label
      ∙ ap (λ b. pairs_at (lines_to above line) line.label ++ cond b (pair ∷ []) []) (bytes_same line.label)

  module _ (others : List (List ℕ)) (names : column_names (lines_to above line) ≡ others ++ line.label ∷ []) where
    -- its row has one more item, where the number is not 0
    pub items_of-more : is_among (pair_names (lines_of_column (lines_to above line) line.label)) pair.name ≡ false
        → items_of (columns_alone (lines_to above (with_pair line pair))) pair.name
        ≡ items_of (columns_alone (lines_to above line)) pair.name ++ cons_option (item_with (length others) (number_at pair.number)) []
    items_of-more free =
        ap (λ names. items_by names (pairs_at (lines_to above (with_pair line pair))) pair.name) (column_names-with_pair ∙ names)
        ∙ items_more others (pairs_at (lines_to above line)) (pairs_at (lines_to above (with_pair line pair))) pair.name line.label (number_at pair.number)
        (last_is_fresh (lines_to above line) others line.label names)
        (number_beside_none (pairs_at (lines_to above line) line.label) pair.name free)
        (ap (λ found. number_beside found pair.name) pairs_here ∙ number_beside_push (pairs_at (lines_to above line) line.label) pair free)
        (λ column differ. ap (λ found. number_beside found pair.name)
        (pairs_at-with_pair above line pair column
        ∙ ap (λ b. pairs_at (lines_to above line) column ++ cond b (pair ∷ []) []) differ
        ∙ append-nil (pairs_at (lines_to above line) column)))
        ∙ ap (λ found. found ++ cons_option (item_with (length others) (number_at pair.number)) [])
        (sym (ap (λ names. items_by names (pairs_at (lines_to above line)) pair.name) names))

    -- its column is the last beside its row
    pub last_beside-more : last_beside (lines_to above (with_pair line pair)) pair.name ≡ Some (length others)
    last_beside-more =
        ap (λ names. last_by names (pairs_at (lines_to above (with_pair line pair))) pair.name) (column_names-with_pair ∙ names)
        ∙ last_here others (pairs_at (lines_to above (with_pair line pair))) pair.name line.label
        (last_is_fresh (lines_to above line) others line.label names)
        (ap (λ found. is_among (names_in found) pair.name) pairs_here
        ∙ names_in-push (pairs_at (lines_to above line) line.label) pair pair.name
        ∙ or_right (is_among (names_in (pairs_at (lines_to above line) line.label)) pair.name) (bytes_eq pair.name pair.name) (bytes_same pair.name))
