-- The lines of COLUMNS in a canonical text have no fault, and state the factors.
use Rattle.std.proofs.Common.{◌≡◌, ℕ, ◌+◌, ◌<◌, ◌≤◌, Bool, true, false, cond, not, ◌&&◌, leb, List, [], ◌∷◌, ◌++◌, length, map, filter_map, pos, Some, None, refl, sym, ap, subst, ◌∙◌, append_assoc, append-nil, length-append, arith}
use Rattle.std.specs.Prelude.{bytes_eq, codes, option_to_list, option_map, slice_get}
use Rattle.std.specs.Option.{option_or, option_map_or}
use Rattle.std.specs.List.{last_or, AllByRecursion}
use Rattle.std.proofs.lemmas.Bool.{lt-leb, or_left, or_right, or_parts}
use Rattle.std.proofs.lemmas.List.{map-append, length-map}
use Rattle.std.proofs.lemmas.List.Concat.{flat_map-append}
use Rattle.std.proofs.lemmas.List.Folds.{list_any-append}
use Rattle.mps_fields.specs.Lines.{Line, numbered}
use Rattle.mps_model.specs.declared.layout.Layout.TheVariants.{Free}
use Rattle.mps_model.specs.declared.fault.FaultKind.TheVariants as faults
use Rattle.mps_model.specs.declared.lines.section.Section.{Section}
use Rattle.mps_model.specs.declared.lines.section.Section.TheVariants.{Columns as COLUMNS}
use Rattle.mps_model.specs.SixFields.{column_places}
use Rattle.mps_model.specs.Tables.{RowLine, Pair, PairLine, ColumnLine, marker, entries, Tables, column_said, is_marker, marker_at, entries_at, column_at}
use Rattle.mps_model.specs.Sides.{pairs_of}
use Rattle.mps_model.specs.Bounds.{last_of, without_repeats, lines_of_column, column_names, is_of_column}
use Rattle.mps_model.specs.FaultRules.{first_holding, is_among}
use Rattle.mps_model.specs.RowFaults.{row_names}
use Rattle.mps_model.specs.PairFaults.{pairs_fault, pair_fault, pair_names}
use Rattle.mps_model.specs.LineFaults.{data_fault}
use Rattle.mps_model.specs.ColumnFaults.{marker_fault, column_fault}
use Rattle.int_model.specs.declared.model.Column.{Column}
use Rattle.mps_model.specs.NameListLaws.{last_of-push}
use Rattle.mps_model.specs.ColumnLineLaws.{column_names_fresh, column_names_known, lines_of_column-entries, lines_of_column_none}
use Rattle.mps_write.specs.CanonicalText.{NamedItems, objective_name, pair_of, factor_pair, or_zero, data_line, labelled, column_pairs, column_table}
use Rattle.mps_write.proofs.LineTexts.{is_field, free_texts-data_line}
use Rattle.mps_write.proofs.NameLaws.{bytes_same, AreFresh, each_at, fresh_at}
use Rattle.mps_write.proofs.Scans.{IsPassed, AreFields, line_of, passed_data, kept_along, numbered-append, tables_from}
use Rattle.mps_write.proofs.PairScans.{IsGoodPair, pair_clear}

-- a name of a column
pub record IsGoodLabel (label : List ℕ) : Type 0 where
  pub name : is_field label ≡ true
  pub short : length label ≤ 100

-- what a column's line says
abbrev pub entry_line : ℕ → List ℕ → Pair → PairLine
entry_line number label pair = record { at = number; label = label; pairs = pair ∷ [] }

pub three_fields : (rows : List (List ℕ)) (label : List ℕ) (pair : Pair) → IsGoodLabel label → IsGoodPair rows pair → AreFields (labelled label pair)
three_fields rows label pair fits good = record {
  runs = (fits.name, (good.name, (good.number, tt)));
  few = omega (
    arith,
    length-append label (32 ∷ (pair.name ++ 32 ∷ (pair.number ++ []))),
    length-append pair.name (32 ∷ (pair.number ++ [])),
    length-append pair.number [],
    fits.short,
    good.short_name,
    good.short_number,
  );
}

module _ (number : ℕ) (label : List ℕ) (pair : Pair) (can : AreFields (labelled label pair)) (unmarked : bytes_eq (codes "'MARKER'") pair.name ≡ false) where
  abbrev line : Line
  line = line_of number (data_line (labelled label pair))

  no_marker : is_marker Free line.bytes ≡ false
  no_marker = ap (λ (fields : List (List ℕ)). option_map_or (bytes_eq (codes "'MARKER'")) (slice_get fields 1) false) (free_texts-data_line (labelled label pair) can.runs) ∙ unmarked

  entries_read : entries_at Free line ≡ Some (entry_line number label pair)
  entries_read = ap (λ fields. column_said number (column_places fields)) (free_texts-data_line (labelled label pair) can.runs)

  pub column_read : column_at Free line ≡ Some (entries (entry_line number label pair))
  column_read = ap (λ b. cond b (option_map marker (marker_at Free line)) (option_map entries (entries_at Free line))) no_marker ∙ ap (option_map entries) entries_read

  pub column_rule : (tables : Tables) → data_fault Free tables line (Some COLUMNS) ≡ column_fault tables (Some (entry_line number label pair))
  column_rule tables = ap (λ b. cond b (marker_fault tables (marker_at Free line)) (column_fault tables (entries_at Free line))) no_marker ∙ ap (column_fault tables) entries_read

no_rule : (known goes many : Bool) → (known && not goes) ≡ false → (not known && many) ≡ false
    → first_holding ((known && not goes, faults.Duplicate) ∷ (not known && many, faults.TooManyColumns) ∷ []) ≡ None
no_rule known goes many h k = ap (λ b. first_holding ((b, faults.Duplicate) ∷ (not known && many, faults.TooManyColumns) ∷ [])) h ∙ ap (λ b. first_holding ((b, faults.TooManyColumns) ∷ [])) k

-- the column of a line is new or goes on
entry_clear : (rows : List RowLine) (columns : List ColumnLine) (number : ℕ) (label : List ℕ) (pair : Pair)
    → (is_among (column_names columns) label && not (option_map_or (is_of_column label) (last_of columns) false)) ≡ false
    → (not (is_among (column_names columns) label) && leb 256 (length (column_names columns))) ≡ false
    → pairs_fault (pair_fault rows) (pair_names (lines_of_column columns label)) (pair ∷ []) ≡ None
    → column_fault (tables_from rows columns [] [] []) (Some (entry_line number label pair)) ≡ None
entry_clear rows columns number label pair goes few clear =
    ap (λ o. option_or o (pairs_fault (pair_fault rows) (pair_names (lines_of_column columns label)) (pair ∷ [])))
    (no_rule (is_among (column_names columns) label) (option_map_or (is_of_column label) (last_of columns) false) (leb 256 (length (column_names columns))) goes few) ∙ clear

-- ---- the lines of one column

-- behind lines of COLUMNS with these names stand lines of one more column, with these pairs
pub record GoesOn (front : List ColumnLine) (names : List (List ℕ)) (label : List ℕ) (pairs : List Pair) (columns : List ColumnLine) : Type 0 where
  pub names_are : column_names columns ≡ names ++ label ∷ []
  pub last : option_map_or (is_of_column label) (last_of columns) false ≡ true
  pub said : pairs_of (lines_of_column columns label) ≡ pairs
  pub others : (other : List ℕ) → bytes_eq label other ≡ false → lines_of_column columns other ≡ lines_of_column front other

last_is : (columns : List ColumnLine) (line : PairLine) → option_map_or (is_of_column line.label) (last_of (columns ++ entries line ∷ [])) false ≡ true
last_is columns line = ap (λ o. option_map_or (is_of_column line.label) o false) (last_of-push columns (entries line)) ∙ bytes_same line.label

other_lines : (columns : List ColumnLine) (line : PairLine) (other : List ℕ) → bytes_eq line.label other ≡ false → lines_of_column (columns ++ entries line ∷ []) other ≡ lines_of_column columns other
other_lines columns line other differ = lines_of_column-entries columns line other ∙ ap (λ b. lines_of_column columns other ++ cond b (line ∷ []) []) differ ∙ append-nil (lines_of_column columns other)

own_lines : (columns : List ColumnLine) (line : PairLine) → lines_of_column (columns ++ entries line ∷ []) line.label ≡ lines_of_column columns line.label ++ line ∷ []
own_lines columns line = lines_of_column-entries columns line line.label ∙ ap (λ b. lines_of_column columns line.label ++ cond b (line ∷ []) []) (bytes_same line.label)

begun : (front : List ColumnLine) (names : List (List ℕ)) (number : ℕ) (label : List ℕ) (pair : Pair) → column_names front ≡ names → is_among names label ≡ false
    → GoesOn front names label (pair ∷ []) (front ++ entries (entry_line number label pair) ∷ [])
begun front names number label pair are fresh =
    let new = ap (λ ns. is_among ns label) are ∙ fresh in
    let line = entry_line number label pair in
    record {
      names_are = column_names_fresh front line new ∙ ap (λ ns. ns ++ label ∷ []) are;
      last = last_is front line;
      said = ap pairs_of (own_lines front line ∙ ap (λ ls. ls ++ line ∷ []) (lines_of_column_none front label new));
      others = other_lines front line;
    }

known_label : (names : List (List ℕ)) (label : List ℕ) → is_among (names ++ label ∷ []) label ≡ true
known_label names label =
    list_any-append (bytes_eq label) names (label ∷ []) ∙ or_right (is_among names label) (is_among (label ∷ []) label) (or_left (bytes_eq label label) false (bytes_same label))

went_on : (front columns : List ColumnLine) (names : List (List ℕ)) (number : ℕ) (label : List ℕ) (pairs : List Pair) (pair : Pair) → GoesOn front names label pairs columns
    → GoesOn front names label (pairs ++ pair ∷ []) (columns ++ entries (entry_line number label pair) ∷ [])
went_on front columns names number label pairs pair now =
    let line = entry_line number label pair in
    record {
      names_are = column_names_known columns line (ap (λ ns. is_among ns label) now.names_are ∙ known_label names label) ∙ now.names_are;
      last = last_is columns line;
      said = ap pairs_of (own_lines columns line) ∙ flat_map-append (λ (line : PairLine). line.pairs) (lines_of_column columns label) (line ∷ []) ∙ ap (λ ps. ps ++ pair ∷ []) now.said;
      others = λ other differ. other_lines columns line other differ ∙ now.others other differ;
    }

-- lines of one column are passed, behind others
pub record ColumnPassed (sections : List Section) (rows : List RowLine) (front : List ColumnLine) (names : List (List ℕ)) (label : List ℕ) (pairs : List Pair) (above : List Line) : Type 0 where
  pub columns : List ColumnLine
  pub passed : IsPassed above sections (tables_from rows columns [] [] [])
  pub goes_on : GoesOn front names label pairs columns

module _ (sections : List Section) (rows : List RowLine) (last : last_or None sections ≡ Some COLUMNS) (front : List ColumnLine) (names : List (List ℕ)) (are : column_names front ≡ names)
    (label : List ℕ) (fits : IsGoodLabel label) (new : is_among names label ≡ false) (few : length names < 256)
    (all : List Pair) (good : AllByRecursion (IsGoodPair (row_names rows)) all) (fresh : AreFresh [] (map (λ (pair : Pair). pair.name) all)) where
  -- a line of the column without fault
  line_passed : (columns : List ColumnLine) (done rest : List Pair) (pair : Pair) (above : List Line) (number : ℕ) → done ++ pair ∷ rest ≡ all
      → IsPassed above sections (tables_from rows columns [] [] []) → pairs_of (lines_of_column columns label) ≡ done
      → (is_among (column_names columns) label && not (option_map_or (is_of_column label) (last_of columns) false)) ≡ false
      → (not (is_among (column_names columns) label) && leb 256 (length (column_names columns))) ≡ false
      → IsPassed (above ++ line_of number (data_line (labelled label pair)) ∷ []) sections (tables_from rows (columns ++ entries (entry_line number label pair) ∷ []) [] [] [])
  line_passed columns done rest pair above number whole now said goes room =
      let here : IsGoodPair (row_names rows) pair = each_at (IsGoodPair (row_names rows)) all done rest pair whole good in
      let can = three_fields (row_names rows) label pair fits here in
      let tables = tables_from rows columns [] [] [] in
      let clear = pair_clear rows (map (λ (pair : Pair). pair.name) done) pair here (fresh_at (λ (pair : Pair). pair.name) [] all done rest pair whole fresh) in
      subst (λ o. IsPassed (above ++ line_of number (data_line (labelled label pair)) ∷ []) sections (tables_from rows (columns ++ option_to_list o) [] [] []))
      (column_read number label pair can here.unmarked)
      (passed_data above sections tables now number label (pair.name ∷ pair.number ∷ []) COLUMNS can last
      (column_rule number label pair can here.unmarked tables
      ∙ entry_clear rows columns number label pair goes room
      (ap (λ ps. pairs_fault (pair_fault rows) (map (λ (pair : Pair). pair.name) ps) (pair ∷ [])) said ∙ clear)))

  first_passed : (rest : List Pair) (pair : Pair) (above : List Line) (number : ℕ) → pair ∷ rest ≡ all → IsPassed above sections (tables_from rows front [] [] [])
      → ColumnPassed sections rows front names label (pair ∷ []) (above ++ line_of number (data_line (labelled label pair)) ∷ [])
  first_passed rest pair above number whole now =
      let unknown = ap (λ ns. is_among ns label) are ∙ new in
      record {
        columns = front ++ entries (entry_line number label pair) ∷ [];
        passed = line_passed front [] rest pair above number whole now (ap pairs_of (lines_of_column_none front label unknown))
            (ap (λ b. b && not (option_map_or (is_of_column label) (last_of front) false)) unknown)
            (ap (λ b. not b && leb 256 (length (column_names front))) unknown ∙ ap (λ ns. leb 256 (length ns)) are ∙ lt-leb 256 (length names) few);
        goes_on = begun front names number label pair are new;
      }

  more_passed : (done rest : List Pair) (pair : Pair) (above : List Line) (number : ℕ) → done ++ pair ∷ rest ≡ all → ColumnPassed sections rows front names label done above
      → ColumnPassed sections rows front names label (done ++ pair ∷ []) (above ++ line_of number (data_line (labelled label pair)) ∷ [])
  more_passed done rest pair above number whole now =
      let known = ap (λ ns. is_among ns label) now.goes_on.names_are ∙ known_label names label in
      record {
        columns = now.columns ++ entries (entry_line number label pair) ∷ [];
        passed = line_passed now.columns done rest pair above number whole now.passed now.goes_on.said
            (ap (λ b. b && not (option_map_or (is_of_column label) (last_of now.columns) false)) known ∙ ap not now.goes_on.last)
            (ap (λ b. not b && leb 256 (length (column_names now.columns))) known);
        goes_on = went_on front now.columns names number label done pair now.goes_on;
      }

  pub column_passed : (pair : Pair) (rest : List Pair) (above : List Line) (number : ℕ) → pair ∷ rest ≡ all → IsPassed above sections (tables_from rows front [] [] [])
      → ColumnPassed sections rows front names label (pair ∷ rest) (above ++ numbered number (map data_line (map (labelled label) (pair ∷ rest))))
  unfolding numbered
  column_passed pair rest above number whole now =
      subst (ColumnPassed sections rows front names label (pair ∷ rest))
      (append_assoc above (line_of number (data_line (labelled label pair)) ∷ []) (numbered (number + 1) (map data_line (map (labelled label) rest))))
      (kept_along all (labelled label) (ColumnPassed sections rows front names label) more_passed (pair ∷ []) rest (above ++ line_of number (data_line (labelled label pair)) ∷ []) (number + 1) whole
      (first_passed rest pair above number whole now))

-- ---- the lines of all columns

-- the lines of each column, the first of which has the number j, have the pairs of that column
abbrev pub EachSaid : List NamedItems → List ColumnLine → ℕ → List Column → Type 0
EachSaid named lines j [] = Unit {0}
EachSaid named lines j (column ∷ columns) = (pairs_of (lines_of_column lines column.name) ≡ column_pairs named j) × EachSaid named lines (j + 1) columns

said_same : (named : List NamedItems) (lines more : List ColumnLine) (label : List ℕ) (j : ℕ) (columns : List Column)
    → ((other : List ℕ) → bytes_eq label other ≡ false → lines_of_column more other ≡ lines_of_column lines other)
    → is_among (map (λ (column : Column). column.name) columns) label ≡ false → EachSaid named lines j columns → EachSaid named more j columns
said_same named lines more label j [] others apart said = tt
said_same named lines more label j (column ∷ columns) others apart said =
    let parts = or_parts (bytes_eq label column.name) (is_among (map (λ (column : Column). column.name) columns) label) apart in
    (ap pairs_of (others column.name parts.0) ∙ said.0, said_same named lines more label (j + 1) columns others parts.1 said.1)

said_push : (named : List NamedItems) (lines : List ColumnLine) (j k : ℕ) (columns : List Column) (column : Column) → j + length columns ≡ k
    → pairs_of (lines_of_column lines column.name) ≡ column_pairs named k → EachSaid named lines j columns → EachSaid named lines j (columns ++ column ∷ [])
said_push named lines j k [] column at here said = (here ∙ ap (column_pairs named) (omega (arith, at)), tt)
said_push named lines j k (other ∷ columns) column at here said = (said.0, said_push named lines (j + 1) k columns column (omega (arith, at)) here said.1)

-- the lines of columns are passed
pub record ColumnsPassed (sections : List Section) (rows : List RowLine) (named : List NamedItems) (done : List Column) (above : List Line) : Type 0 where
  pub columns : List ColumnLine
  pub passed : IsPassed above sections (tables_from rows columns [] [] [])
  pub names_are : column_names columns ≡ map (λ (column : Column). column.name) done
  pub said : EachSaid named columns 0 done

-- a column has a line
some_pair : (pairs : List Pair) → (pair : Pair) × ((rest : List Pair) × (pair ∷ rest ≡ or_zero pairs))
some_pair [] = (pair_of objective_name (pos 0), ([], refl))
some_pair (pair ∷ pairs) = (pair, (pairs, refl))

module _ (sections : List Section) (rows : List RowLine) (named : List NamedItems) (last : last_or None sections ≡ Some COLUMNS)
    (good : (j : ℕ) → AllByRecursion (IsGoodPair (row_names rows)) (column_pairs named j)) (apart : (j : ℕ) → AreFresh [] (map (λ (pair : Pair). pair.name) (column_pairs named j))) where
  one_more : (done : List Column) (column : Column) (j : ℕ) (above : List Line) (number : ℕ) → length done ≡ j → ColumnsPassed sections rows named done above → IsGoodLabel column.name
      → is_among (map (λ (column : Column). column.name) done) column.name ≡ false → length done < 256
      → ColumnsPassed sections rows named (done ++ column ∷ []) (above ++ numbered number (map data_line (map (labelled column.name) (column_pairs named j))))
  one_more done column j above number at now fits new few =
      let names = map (λ (column : Column). column.name) done in
      let some = some_pair (filter_map (factor_pair j) named) in
      let pairs : List Pair = some.0 ∷ some.1.0 in
      let said : ColumnPassed sections rows now.columns names column.name (column_pairs named j) (above ++ numbered number (map data_line (map (labelled column.name) (column_pairs named j)))) =
      subst (λ ps. ColumnPassed sections rows now.columns names column.name ps (above ++ numbered number (map data_line (map (labelled column.name) ps)))) some.1.1
      (column_passed sections rows last now.columns names now.names_are column.name fits new (omega (arith, few, length-map done (λ (column : Column). column.name)))
      (column_pairs named j) (good j) (apart j) some.0 some.1.0 above number some.1.1 now.passed)
      in
      record {
        columns = said.columns;
        passed = said.passed;
        names_are = said.goes_on.names_are ∙ sym (map-append (λ (column : Column). column.name) done (column ∷ []));
        said = said_push named said.columns 0 j done column (omega (arith, at)) said.goes_on.said
            (said_same named now.columns said.columns column.name 0 done said.goes_on.others new now.said);
      }

  columns_on : (done todo : List Column) (j : ℕ) (above : List Line) (number : ℕ) → length done ≡ j → ColumnsPassed sections rows named done above
      → AllByRecursion (λ (column : Column). IsGoodLabel column.name) todo → AreFresh (map (λ (column : Column). column.name) done) (map (λ (column : Column). column.name) todo)
      → length done + length todo ≤ 256
      → ColumnsPassed sections rows named (done ++ todo) (above ++ numbered number (map data_line (column_table named j todo)))
  unfolding numbered
  columns_on done [] j above number at now fit fresh few =
      subst (λ cs. ColumnsPassed sections rows named cs (above ++ [])) (sym (append-nil done)) (subst (ColumnsPassed sections rows named done) (sym (append-nil above)) now)
  columns_on done (column ∷ todo) j above number at now fit fresh few =
      let here = map data_line (map (labelled column.name) (column_pairs named j)) in
      let below = map data_line (column_table named (j + 1) todo) in
      let next = above ++ numbered number here in
      let lines : numbered number (map data_line (column_table named j (column ∷ todo))) ≡ numbered number here ++ numbered (number + length here) below =
      ap (numbered number) (map-append data_line (map (labelled column.name) (column_pairs named j)) (column_table named (j + 1) todo)) ∙ numbered-append number here below
      in
      subst (ColumnsPassed sections rows named (done ++ column ∷ todo)) (append_assoc above (numbered number here) (numbered (number + length here) below) ∙ ap (λ ls. above ++ ls) (sym lines))
      (subst (λ cs. ColumnsPassed sections rows named cs (next ++ numbered (number + length here) below)) (append_assoc done (column ∷ []) todo)
      (columns_on (done ++ column ∷ []) todo (j + 1) next (number + length here) (length-append done (column ∷ []) ∙ omega (arith, at))
      (one_more done column j above number at now fit.0 fresh.0 (omega (arith, few))) fit.1
      (subst (λ names. AreFresh names (map (λ (column : Column). column.name) todo)) (sym (map-append (λ (column : Column). column.name) done (column ∷ []))) fresh.1)
      (omega (arith, few, length-append done (column ∷ [])))))

  pub columns_passed : (all : List Column) (above : List Line) (number : ℕ) → IsPassed above sections (tables_from rows [] [] [] [])
      → AllByRecursion (λ (column : Column). IsGoodLabel column.name) all → AreFresh [] (map (λ (column : Column). column.name) all) → length all ≤ 256
      → ColumnsPassed sections rows named all (above ++ numbered number (map data_line (column_table named 0 all)))
  unfolding without_repeats
  columns_passed all above number now fit fresh few =
      columns_on [] all 0 above number refl (record { columns = []; passed = now; names_are = refl; said = tt }) fit fresh (omega (arith, few))
