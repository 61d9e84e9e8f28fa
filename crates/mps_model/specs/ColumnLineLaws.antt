-- What one more line of COLUMNS does to the columns, their lines, the markers and the line before.
use Rattle.std.proofs.Common.{◌≡◌, ℕ, Bool, true, false, true≢false, cond, ◌||◌, List, [], ◌∷◌, ◌++◌, map, filter, Option, Some, None, refl, sym, ap, ◌∙◌}
use Rattle.std.specs.Prelude.{bytes_eq, filter_map, slice_get, option_map, option_and_then, codes}
use Rattle.std.specs.Option.{option_map_or}
use Rattle.std.specs.List.{list_any}
use Rattle.std.proofs.lemmas.Bool.{or_right, or_left, or_parts}
use Rattle.std.proofs.lemmas.List.{append-nil, map-append}
use Rattle.std.proofs.lemmas.List.Elements.{filter-append, filter_map-append}
use Rattle.mps_model.specs.Tables.{PairLine, ColumnLine, marker, entries}
use Rattle.mps_model.specs.Bounds.{last_of, without_repeats, entries_of, marker_of, entry_lines, lines_of_column, column_names, is_open, is_of_column, is_between_markers}
use Rattle.mps_model.specs.FaultRules.{is_among}
use Rattle.mps_model.specs.ColumnTables.{column_before, columns_alone}
use Rattle.mps_model.specs.Meaning.{first_line_of}
use Rattle.mps_model.specs.NameListLaws.{among-without_repeats, without_repeats_fresh, without_repeats_known, before_first-end, before_first_none, last_of-push}
use Rattle.mps_model.specs.FirstPlaceLaws.{bytes_same, bytes_flip}

-- the labels of all lines but markers
abbrev labels : List ColumnLine → List (List ℕ)
labels lines = map (λ line. line.label) (entry_lines lines)

-- ---- the lines of all columns

pub entry_lines-marker : (lines : List ColumnLine) (word : List ℕ) → entry_lines (lines ++ marker word ∷ []) ≡ entry_lines lines
entry_lines-marker lines word = filter_map-append entries_of lines (marker word ∷ []) ∙ append-nil (entry_lines lines)

pub entry_lines-entries : (lines : List ColumnLine) (line : PairLine) → entry_lines (lines ++ entries line ∷ []) ≡ entry_lines lines ++ line ∷ []
entry_lines-entries lines line = filter_map-append entries_of lines (entries line ∷ [])

labels-entries : (lines : List ColumnLine) (line : PairLine) → labels (lines ++ entries line ∷ []) ≡ labels lines ++ line.label ∷ []
labels-entries lines line = ap (map (λ line. line.label)) (entry_lines-entries lines line) ∙ map-append (λ (line : PairLine). line.label) (entry_lines lines) (line ∷ [])

among_labels : (lines : List ColumnLine) (column : List ℕ) → is_among (column_names lines) column ≡ is_among (labels lines) column
among_labels lines column = among-without_repeats (labels lines) column

-- a marker line names no column
pub column_names-marker : (lines : List ColumnLine) (word : List ℕ) → column_names (lines ++ marker word ∷ []) ≡ column_names lines
column_names-marker lines word = ap (λ (found : List PairLine). without_repeats (map (λ line. line.label) found)) (entry_lines-marker lines word)

-- a column that is new stands behind the others, and one that is known stays
pub column_names_fresh : (lines : List ColumnLine) (line : PairLine) → is_among (column_names lines) line.label ≡ false
    → column_names (lines ++ entries line ∷ []) ≡ column_names lines ++ line.label ∷ []
column_names_fresh lines line fresh =
    ap without_repeats (labels-entries lines line) ∙ without_repeats_fresh (labels lines) line.label (sym (among_labels lines line.label) ∙ fresh)

pub column_names_known : (lines : List ColumnLine) (line : PairLine) → is_among (column_names lines) line.label ≡ true
    → column_names (lines ++ entries line ∷ []) ≡ column_names lines
column_names_known lines line known =
    ap without_repeats (labels-entries lines line) ∙ without_repeats_known (labels lines) line.label (sym (among_labels lines line.label) ∙ known)

-- the names do not depend on the pairs of the last line
pub column_names_same : (lines : List ColumnLine) (line other : PairLine) → line.label ≡ other.label
    → column_names (lines ++ entries line ∷ []) ≡ column_names (lines ++ entries other ∷ [])
column_names_same lines line other same =
    ap without_repeats (labels-entries lines line ∙ ap (λ label. labels lines ++ label ∷ []) same ∙ sym (labels-entries lines other))

-- ---- the lines of one column

pub lines_of_column-marker : (lines : List ColumnLine) (word column : List ℕ) → lines_of_column (lines ++ marker word ∷ []) column ≡ lines_of_column lines column
lines_of_column-marker lines word column = ap (filter (λ line. bytes_eq line.label column)) (entry_lines-marker lines word)

pub lines_of_column-entries : (lines : List ColumnLine) (line : PairLine) (column : List ℕ)
    → lines_of_column (lines ++ entries line ∷ []) column ≡ lines_of_column lines column ++ cond (bytes_eq line.label column) (line ∷ []) []
lines_of_column-entries lines line column =
    ap (filter (λ line. bytes_eq line.label column)) (entry_lines-entries lines line) ∙ filter-append (λ (line : PairLine). bytes_eq line.label column) (entry_lines lines) (line ∷ [])

-- ---- where a column begins

any_label : (lines : List PairLine) (column : List ℕ) → list_any (λ (line : PairLine). bytes_eq line.label column) lines ≡ is_among (map (λ line. line.label) lines) column
any_label [] column = refl
any_label (line ∷ lines) column =
    ap (λ b. b || list_any (λ (line : PairLine). bytes_eq line.label column) lines) (bytes_flip line.label column)
    ∙ ap (λ b. bytes_eq column line.label || b) (any_label lines column)

any_of_column : (lines : List ColumnLine) (column : List ℕ) → list_any (is_of_column column) lines ≡ is_among (labels lines) column
any_of_column [] column = refl
any_of_column (marker word ∷ lines) column = any_of_column lines column
any_of_column (entries line ∷ lines) column =
    ap (λ b. b || list_any (is_of_column column) lines) (bytes_flip line.label column) ∙ ap (λ b. bytes_eq column line.label || b) (any_of_column lines column)

front_same : {X : Type 0} (p : X → Bool) (xs ys : List X) → list_any p xs ≡ true → slice_get (filter p xs ++ ys) 0 ≡ slice_get (filter p xs) 0
front_same p [] ys any = absurd (true≢false (sym any))
front_same p (x ∷ xs) ys any =
    elim (p x) as (λ b. (b || list_any p xs) ≡ true → slice_get (cond b (x ∷ filter p xs) (filter p xs) ++ ys) 0 ≡ slice_get (cond b (x ∷ filter p xs) (filter p xs)) 0) [
      | true ↦ λ e. refl
      | false ↦ λ e. front_same p xs ys e
    ] any

filter_none : {X : Type 0} (p : X → Bool) (xs : List X) → list_any p xs ≡ false → filter p xs ≡ []
filter_none p [] none = refl
filter_none p (x ∷ xs) none =
    let parts = or_parts (p x) (list_any p xs) none in
    ap (λ b. cond b (x ∷ filter p xs) (filter p xs)) parts.0 ∙ filter_none p xs parts.1

pub lines_of_column_none : (lines : List ColumnLine) (column : List ℕ) → is_among (column_names lines) column ≡ false → lines_of_column lines column ≡ []
lines_of_column_none lines column fresh =
    filter_none (λ (line : PairLine). bytes_eq line.label column) (entry_lines lines)
    (any_label (entry_lines lines) column ∙ sym (among_labels lines column) ∙ fresh)

pub first_line_of_known : (lines : List ColumnLine) (line : PairLine) (column : List ℕ) → is_among (column_names lines) column ≡ true
    → first_line_of (columns_alone (lines ++ entries line ∷ [])) column ≡ first_line_of (columns_alone lines) column
first_line_of_known lines line column known =
    ap (λ (found : List PairLine). option_map_or (λ (line : PairLine). line.at) (slice_get found 0) 0) (lines_of_column-entries lines line column)
    ∙ ap (λ (found : Option PairLine). option_map_or (λ (line : PairLine). line.at) found 0)
    (front_same (λ (line : PairLine). bytes_eq line.label column) (entry_lines lines) (cond (bytes_eq line.label column) (line ∷ []) [])
    (any_label (entry_lines lines) column ∙ sym (among_labels lines column) ∙ known))

pub first_line_of_fresh : (lines : List ColumnLine) (line : PairLine) → is_among (column_names lines) line.label ≡ false
    → first_line_of (columns_alone (lines ++ entries line ∷ [])) line.label ≡ line.at
first_line_of_fresh lines line fresh =
    ap (λ (found : List PairLine). option_map_or (λ (line : PairLine). line.at) (slice_get found 0) 0)
    (lines_of_column-entries lines line line.label
    ∙ ap (λ found. found ++ cond (bytes_eq line.label line.label) (line ∷ []) []) (lines_of_column_none lines line.label fresh)
    ∙ ap (λ b. cond b (line ∷ []) []) (bytes_same line.label))

pub first_line_of-marker : (lines : List ColumnLine) (word column : List ℕ)
    → first_line_of (columns_alone (lines ++ marker word ∷ [])) column ≡ first_line_of (columns_alone lines) column
first_line_of-marker lines word column =
    ap (λ (found : List PairLine). option_map_or (λ (line : PairLine). line.at) (slice_get found 0) 0) (lines_of_column-marker lines word column)

-- ---- markers

pub is_open-entries : (lines : List ColumnLine) (line : PairLine) → is_open (lines ++ entries line ∷ []) ≡ is_open lines
is_open-entries lines line =
    ap (λ words. option_map_or (bytes_eq (codes "'INTORG'")) (last_of words) false) (filter_map-append marker_of lines (entries line ∷ []) ∙ append-nil (filter_map marker_of lines))

pub is_open-marker : (lines : List ColumnLine) (word : List ℕ) → is_open (lines ++ marker word ∷ []) ≡ bytes_eq (codes "'INTORG'") word
is_open-marker lines word =
    ap (λ words. option_map_or (bytes_eq (codes "'INTORG'")) (last_of words) false) (filter_map-append marker_of lines (marker word ∷ []))
    ∙ ap (λ found. option_map_or (bytes_eq (codes "'INTORG'")) found false) (last_of-push (filter_map marker_of lines) word)

pub is_between_known : (lines : List ColumnLine) (next : ColumnLine) (column : List ℕ) → is_among (column_names lines) column ≡ true
    → is_between_markers (lines ++ next ∷ []) column ≡ is_between_markers lines column
is_between_known lines next column known =
    ap is_open (before_first-end (is_of_column column) lines next
    (or_left (list_any (is_of_column column) lines) (is_of_column column next) (any_of_column lines column ∙ sym (among_labels lines column) ∙ known)))

pub is_between_fresh : (lines : List ColumnLine) (line : PairLine) → is_among (column_names lines) line.label ≡ false
    → is_between_markers (lines ++ entries line ∷ []) line.label ≡ is_open lines
is_between_fresh lines line fresh =
    ap is_open (before_first-end (is_of_column line.label) lines (entries line)
    (or_right (list_any (is_of_column line.label) lines) (bytes_eq line.label line.label) (bytes_same line.label))
    ∙ before_first_none (is_of_column line.label) lines (any_of_column lines line.label ∙ sym (among_labels lines line.label) ∙ fresh))

-- ---- the line before

pub column_before-marker : (lines : List ColumnLine) (word : List ℕ) → column_before (lines ++ marker word ∷ []) ≡ None
column_before-marker lines word = ap (λ found. option_map (λ (line : PairLine). line.label) (option_and_then entries_of found)) (last_of-push lines (marker word))

pub column_before-entries : (lines : List ColumnLine) (line : PairLine) → column_before (lines ++ entries line ∷ []) ≡ Some line.label
column_before-entries lines line = ap (λ found. option_map (λ (line : PairLine). line.label) (option_and_then entries_of found)) (last_of-push lines (entries line))
