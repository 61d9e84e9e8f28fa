-- What the code keeps of the columns, as one more line of COLUMNS is judged and taken.
use Rattle.std.proofs.Common.{◌≡◌, ℕ, Vec, Global, ◌+◌, ◌-◌, ◌<◌, length, get_or, take, Bool, true, false, cond, ◌&&◌, not, leb, List, [], ◌∷◌, ◌++◌, map, position, Option, Some, None, refl, sym, ap, subst, ◌∙◌, ◌⊎◌, ⊎_elim, arith}
use Rattle.std.specs.Prelude.{bytes_eq, codes, option_map, option_and_then, option_to_list}
use Rattle.std.specs.Option.{option_map_or}
use Rattle.std.specs.List.{IsDistinct}
use Rattle.std.proofs.lemmas.Bool.{lt-leb}
use Rattle.std.proofs.lemmas.List.{map-append, take_all, take_more, length-take-le}
use Rattle.std.proofs.lemmas.List.Quantifiers.{position-Some}
use Rattle.std.proofs.lemmas.Map.Keys.{apart_from_distinct}
use Rattle.mps_fields.specs.BooleanLaws.{either}
use Rattle.mps_model.specs.declared.fault.FaultKind.{FaultKind}
use Rattle.mps_model.specs.declared.fault.FaultKind.TheVariants as faults
use Rattle.mps_model.specs.declared.tables.columns.ColumnStart.{ColumnStart}
use Rattle.mps_model.specs.declared.tables.columns.ColumnTable.{ColumnTable}
use Rattle.mps_model.specs.declared.tables.factors.FactorTable.{FactorTable}
use Rattle.mps_model.specs.Tables.{RowLine, Pair, PairLine, ColumnLine, marker, entries, Tables}
use Rattle.mps_model.specs.Bounds.{last_of, without_repeats, entries_of, column_names, is_open, is_of_column}
use Rattle.mps_model.specs.FaultRules.{first_holding, is_among}
use Rattle.mps_model.specs.ColumnFaults.{is_due_word, goes_on, marker_fault}
use Rattle.mps_model.specs.ColumnTables.{columns_alone, column_before, is_stated_row, bare_line, with_pair, label_fault, IsLastColumn}
use Rattle.mps_model.specs.FactorTables.{factors_of, KeepsFactors}
use Rattle.mps_model.specs.KeptColumns.{start_of, KeepsColumns}
use Rattle.mps_model.specs.NameListLaws.{all_among, map_same, last_of-push}
use Rattle.mps_model.specs.FirstPlaceLaws.{bytes_same, bytes_flip, same_bytes}
use Rattle.mps_model.specs.ColumnLineLaws.{column_names-marker, column_names_fresh, column_names_known, first_line_of_known, first_line_of_fresh, first_line_of-marker, is_open-entries, is_open-marker, is_between_known, is_between_fresh, column_before-marker, column_before-entries}
use Rattle.mps_model.specs.DistinctNameLaws.{position-some}
use Rattle.mps_model.proofs.OnTables.ColumnItemLaws.{lines_to, items_of-marker, last_beside-marker, items_of-bare, last_beside-bare, column_names-with_pair}
use Rattle.mps_model.proofs.OnTables.FactorTableLaws.{same_factors}

-- ---- where the columns begin

same_start : {line other : ℕ} {between rest : Bool} → line ≡ other → between ≡ rest
    → ◌≡◌ {A = ColumnStart} (record { line = line; is_between = between }) (record { line = other; is_between = rest })
same_start {line} {other} {between} {rest} lines tests =
    let by_line : ℕ → ColumnStart = λ line. record { line = line; is_between = between } in
    let by_test : Bool → ColumnStart = λ between. record { line = other; is_between = between } in
    ap by_line lines ∙ ap by_test tests

start_of-marker : (lines : List ColumnLine) (word column : List ℕ) → is_among (column_names lines) column ≡ true
    → start_of (lines ++ marker word ∷ []) column ≡ start_of lines column
start_of-marker lines word column known = same_start (first_line_of-marker lines word column) (is_between_known lines (marker word) column known)

start_of_known : (lines : List ColumnLine) (line : PairLine) (column : List ℕ) → is_among (column_names lines) column ≡ true
    → start_of (lines_to lines line) column ≡ start_of lines column
start_of_known lines line column known = same_start (first_line_of_known lines line column known) (is_between_known lines (entries line) column known)

start_of_fresh : (lines : List ColumnLine) (line : PairLine) → is_among (column_names lines) line.label ≡ false
    → start_of (lines_to lines line) line.label ≡ record { line = line.at; is_between = is_open lines }
start_of_fresh lines line fresh = same_start (first_line_of_fresh lines line fresh) (is_between_fresh lines line fresh)

starts-marker : (lines : List ColumnLine) (word : List ℕ)
    → map (start_of (lines ++ marker word ∷ [])) (column_names (lines ++ marker word ∷ [])) ≡ map (start_of lines) (column_names lines)
starts-marker lines word =
    ap (map (start_of (lines ++ marker word ∷ []))) (column_names-marker lines word)
    ∙ map_same (is_among (column_names lines)) (start_of (lines ++ marker word ∷ [])) (start_of lines) (column_names lines) (all_among (column_names lines))
    (λ column known. start_of-marker lines word column known)

starts_known : (lines : List ColumnLine) (line : PairLine) → is_among (column_names lines) line.label ≡ true
    → map (start_of (lines_to lines line)) (column_names (lines_to lines line)) ≡ map (start_of lines) (column_names lines)
starts_known lines line known =
    ap (map (start_of (lines_to lines line))) (column_names_known lines line known)
    ∙ map_same (is_among (column_names lines)) (start_of (lines_to lines line)) (start_of lines) (column_names lines) (all_among (column_names lines))
    (λ column known. start_of_known lines line column known)

starts_fresh : (lines : List ColumnLine) (line : PairLine) → is_among (column_names lines) line.label ≡ false
    → map (start_of (lines_to lines line)) (column_names (lines_to lines line))
    ≡ map (start_of lines) (column_names lines) ++ (record { line = line.at; is_between = is_open lines }) ∷ []
starts_fresh lines line fresh =
    ap (map (start_of (lines_to lines line))) (column_names_fresh lines line fresh)
    ∙ map-append (start_of (lines_to lines line)) (column_names lines) (line.label ∷ [])
    ∙ ap (λ starts. starts ++ start_of (lines_to lines line) line.label ∷ [])
    (map_same (is_among (column_names lines)) (start_of (lines_to lines line)) (start_of lines) (column_names lines) (all_among (column_names lines))
    (λ column known. start_of_known lines line column known))
    ∙ ap (λ start. map (start_of lines) (column_names lines) ++ start ∷ []) (start_of_fresh lines line fresh)

-- where the columns begin does not depend on the pairs of the last line
starts-with_pair : (above : List ColumnLine) (line : PairLine) (pair : Pair)
    → map (start_of (lines_to above (with_pair line pair))) (column_names (lines_to above (with_pair line pair)))
    ≡ map (start_of (lines_to above line)) (column_names (lines_to above line))
starts-with_pair above line pair =
    either (is_among (column_names above) line.label)
    (λ known. starts_known above (with_pair line pair) known ∙ sym (starts_known above line known))
    (λ fresh. starts_fresh above (with_pair line pair) fresh ∙ sym (starts_fresh above line fresh))

-- ---- the factors of the rows

map_each : {X Y : Type 0} (f g : X → Y) (xs : List X) → ((x : X) → f x ≡ g x) → map f xs ≡ map g xs
map_each f g [] same = refl
map_each f g (x ∷ xs) same = ap (λ y. y ∷ map f xs) (same x) ∙ ap (λ ys. g x ∷ ys) (map_each f g xs same)

factors-marker : (rows : List RowLine) (lines : List ColumnLine) (word : List ℕ) (table : FactorTable)
    → KeepsFactors rows lines table → KeepsFactors rows (lines ++ marker word ∷ []) table
factors-marker rows lines word table keeps = record {
  factors = keeps.factors
      ∙ map_each (factors_of rows lines) (factors_of rows (lines ++ marker word ∷ [])) rows
      (λ row. same_factors (is_stated_row rows row) (sym (last_beside-marker lines word row.name)) (sym (items_of-marker lines word row.name)));
}

factors-bare : (rows : List RowLine) (lines : List ColumnLine) (at : ℕ) (label : List ℕ) (table : FactorTable)
    → KeepsFactors rows lines table → KeepsFactors rows (lines_to lines (bare_line at label)) table
factors-bare rows lines at label table keeps = record {
  factors = keeps.factors
      ∙ map_each (factors_of rows lines) (factors_of rows (lines_to lines (bare_line at label))) rows
      (λ row. same_factors (is_stated_row rows row) (sym (last_beside-bare lines at label row.name)) (sym (items_of-bare lines at label row.name)));
}

-- ---- the rules on a line's name

abbrev rules_on_name : Bool → Bool → Bool → Option FaultKind
rules_on_name known goes many = first_holding ((known && not goes, faults.Duplicate) ∷ (not known && many, faults.TooManyColumns) ∷ [])

goes_on_after : (last : Option ColumnLine) (label : List ℕ)
    → option_map_or (is_of_column label) last false ≡ option_map_or (λ column. bytes_eq column label) (option_map (λ (line : PairLine). line.label) (option_and_then entries_of last)) false
goes_on_after None label = refl
goes_on_after (Some (marker word)) label = refl
goes_on_after (Some (entries line)) label = refl

module _ (lines : List ColumnLine) (label : List ℕ) where
  goes_on_is : goes_on (columns_alone lines) label ≡ option_map_or (λ column. bytes_eq column label) (column_before lines) false
  goes_on_is = goes_on_after (last_of lines) label

  pub label_new : is_among (column_names lines) label ≡ false → length (column_names lines) < 256 → label_fault lines label ≡ None
  label_new fresh few =
      ap (λ known. rules_on_name known (goes_on (columns_alone lines) label) (leb 256 (length (column_names lines)))) fresh
      ∙ ap (λ many. rules_on_name false (goes_on (columns_alone lines) label) many) (lt-leb 256 (length (column_names lines)) few)

  label_again : is_among (column_names lines) label ≡ true → option_map_or (λ column. bytes_eq column label) (column_before lines) false ≡ false
      → label_fault lines label ≡ Some faults.Duplicate
  label_again known apart =
      ap (λ known. rules_on_name known (goes_on (columns_alone lines) label) (leb 256 (length (column_names lines)))) known
      ∙ ap (λ goes. rules_on_name true goes (leb 256 (length (column_names lines)))) (goes_on_is ∙ apart)

  label_goes_on : is_among (column_names lines) label ≡ true → column_before lines ≡ Some label → label_fault lines label ≡ None
  label_goes_on known before =
      ap (λ known. rules_on_name known (goes_on (columns_alone lines) label) (leb 256 (length (column_names lines)))) known
      ∙ ap (λ goes. rules_on_name true goes (leb 256 (length (column_names lines))))
      (goes_on_is ∙ ap (λ found. option_map_or (λ column. bytes_eq column label) found false) before ∙ bytes_same label)

-- ---- one more line

opened_by : (opened : Bool) (word : List ℕ) → is_due_word opened word ≡ true → not opened ≡ bytes_eq (codes "'INTORG'") word
opened_by true word due = sym (ap (bytes_eq (codes "'INTORG'")) (same_bytes word (codes "'INTEND'") due))
opened_by false word due = sym (ap (bytes_eq (codes "'INTORG'")) (same_bytes word (codes "'INTORG'") due))

-- a marker line that is due
pub kept-marker : (rows : List RowLine) (lines : List ColumnLine) (word : List ℕ) (table next : ColumnTable) → KeepsColumns rows lines table
    → next.names ≡ table.names → next.starts ≡ table.starts → next.factors ≡ table.factors → next.goes_on ≡ false → next.is_open ≡ not table.is_open
    → is_due_word table.is_open word ≡ true → KeepsColumns rows (lines ++ marker word ∷ []) next
kept-marker rows lines word table next keeps names starts factors goes opened due = record {
  names = names ∙ keeps.names ∙ sym (column_names-marker lines word);
  starts = ap (λ (starts : Vec ColumnStart Global). starts.items) starts ∙ keeps.starts ∙ sym (starts-marker lines word);
  opened = opened ∙ opened_by table.is_open word due ∙ sym (is_open-marker lines word);
  before = column_before-marker lines word ∙ sym (ap (λ b. cond b (last_of (column_names (lines ++ marker word ∷ []))) None) goes);
  factors = subst (KeepsFactors rows (lines ++ marker word ∷ [])) (sym factors) (factors-marker rows lines word table.factors keeps.factors);
}

pub marker_taken : (above : Tables) (word : Option (List ℕ)) (said : List ℕ) (table next : ColumnTable) → KeepsColumns above.rows above.columns table
    → word ≡ Some said → is_due_word table.is_open said ≡ true
    → next.names ≡ table.names → next.starts ≡ table.starts → next.factors ≡ table.factors → next.goes_on ≡ false → next.is_open ≡ not table.is_open
    → (marker_fault above word ≡ None) × KeepsColumns above.rows (above.columns ++ option_to_list (option_map marker word)) next
marker_taken above word said table next keeps is due names starts factors goes opened = (
  ap (marker_fault above) is
      ∙ ap (λ opened. first_holding ((not (is_due_word opened said), faults.Marker) ∷ [])) (sym keeps.opened)
      ∙ ap (λ due. first_holding ((not due, faults.Marker) ∷ [])) due,
  subst (λ (word : Option (List ℕ)). KeepsColumns above.rows (above.columns ++ option_to_list (option_map marker word)) next) (sym is)
      (kept-marker above.rows above.columns said table next keeps names starts factors goes opened due),
)

-- a line of the column of the line before
pub kept_known : (rows : List RowLine) (lines : List ColumnLine) (at : ℕ) (label : List ℕ) (table : ColumnTable) → KeepsColumns rows lines table
    → is_among (column_names lines) label ≡ true → last_of (column_names lines) ≡ Some label → table.goes_on ≡ true
    → KeepsColumns rows (lines_to lines (bare_line at label)) table
kept_known rows lines at label table keeps known last goes = record {
  names = keeps.names ∙ sym (column_names_known lines (bare_line at label) known);
  starts = keeps.starts ∙ sym (starts_known lines (bare_line at label) known);
  opened = keeps.opened ∙ sym (is_open-entries lines (bare_line at label));
  before = column_before-entries lines (bare_line at label)
      ∙ sym (ap (λ b. cond b (last_of (column_names (lines_to lines (bare_line at label)))) None) goes
      ∙ ap last_of (column_names_known lines (bare_line at label) known) ∙ last);
  factors = factors-bare rows lines at label table.factors keeps.factors;
}

-- the first line of a new column
pub kept_fresh : (rows : List RowLine) (lines : List ColumnLine) (at : ℕ) (label : List ℕ) (table next : ColumnTable) → KeepsColumns rows lines table
    → is_among table.names label ≡ false → next.names ≡ table.names ++ label ∷ []
    → next.starts.items ≡ table.starts.items ++ (record { line = at; is_between = table.is_open }) ∷ []
    → next.is_open ≡ table.is_open → next.goes_on ≡ true → next.factors ≡ table.factors
    → KeepsColumns rows (lines_to lines (bare_line at label)) next
kept_fresh rows lines at label table next keeps new names starts opened goes factors =
    let fresh : is_among (column_names lines) label ≡ false = ap (λ names. is_among names label) (sym keeps.names) ∙ new in record {
      names = names ∙ ap (λ names. names ++ label ∷ []) keeps.names ∙ sym (column_names_fresh lines (bare_line at label) fresh);
      starts = starts
          ∙ ap (λ starts. starts ++ (record { line = at; is_between = table.is_open }) ∷ []) keeps.starts
          ∙ ap (λ (between : Bool). map (start_of lines) (column_names lines) ++ (record { line = at; is_between = between }) ∷ []) keeps.opened
          ∙ sym (starts_fresh lines (bare_line at label) fresh);
      opened = opened ∙ keeps.opened ∙ sym (is_open-entries lines (bare_line at label));
      before = column_before-entries lines (bare_line at label)
          ∙ sym (ap (λ b. cond b (last_of (column_names (lines_to lines (bare_line at label)))) None) goes
          ∙ ap last_of (column_names_fresh lines (bare_line at label) fresh)
          ∙ last_of-push (column_names lines) label);
      factors = subst (KeepsFactors rows (lines_to lines (bare_line at label))) (sym factors) (factors-bare rows lines at label table.factors keeps.factors);
    }

-- one more pair on the last line
pub kept-with_pair : (rows : List RowLine) (above : List ColumnLine) (line : PairLine) (pair : Pair) (table next : ColumnTable)
    → KeepsColumns rows (lines_to above line) table
    → next.names ≡ table.names → next.starts ≡ table.starts → next.is_open ≡ table.is_open → next.goes_on ≡ table.goes_on
    → KeepsFactors rows (lines_to above (with_pair line pair)) next.factors
    → KeepsColumns rows (lines_to above (with_pair line pair)) next
kept-with_pair rows above line pair table next keeps names starts opened goes factors = record {
  names = names ∙ keeps.names ∙ sym (column_names-with_pair above line pair);
  starts = ap (λ (starts : Vec ColumnStart Global). starts.items) starts ∙ keeps.starts ∙ sym (starts-with_pair above line pair);
  opened = opened ∙ keeps.opened ∙ is_open-entries above line ∙ sym (is_open-entries above (with_pair line pair));
  before = column_before-entries above (with_pair line pair)
      ∙ sym (column_before-entries above line)
      ∙ keeps.before
      ∙ ap (λ b. cond b (last_of (column_names (lines_to above line))) None) (sym goes)
      ∙ ap (λ names. cond next.goes_on (last_of names) None) (sym (column_names-with_pair above line pair));
  factors = factors;
}

pub last-with_pair : (above : List ColumnLine) (line : PairLine) (pair : Pair) (label : List ℕ) (column : ℕ)
    → IsLastColumn (lines_to above line) label column → IsLastColumn (lines_to above (with_pair line pair)) label column
last-with_pair above line pair label column last = record {
  others = last.others;
  names = column_names-with_pair above line pair ∙ last.names;
  number = last.number;
}

-- before the first line
pub kept_none : (rows : List RowLine) (table : ColumnTable) → table.names ≡ [] → table.starts.items ≡ [] → table.is_open ≡ false → table.goes_on ≡ false
    → KeepsFactors rows [] table.factors → KeepsColumns rows [] table
unfolding without_repeats
kept_none rows table names starts opened goes factors = record {
  names = names;
  starts = starts;
  opened = opened;
  before = sym (ap (λ b. cond b (last_of (column_names [])) None) goes);
  factors = factors;
}

-- ---- the place of a column

-- the last of names is the one at the last place
module _ (names : List (List ℕ)) (label : List ℕ) (place : ℕ) (found : position (bytes_eq label) names ≡ Some place) where
  place_within : place < length names
  place_within = (position-Some (bytes_eq label) names place [] found).0

  name_there : label ≡ get_or names place []
  name_there = same_bytes label (get_or names place []) (position-Some (bytes_eq label) names place [] found).1

  pub name_known : is_among names label ≡ true
  name_known = position-some (bytes_eq label) names place [] found

  pub names_to_last : place + 1 ≡ length names → names ≡ take place names ++ label ∷ []
  names_to_last last =
      let within : place < length names = place_within in
      sym (take_all (place + 1) names (omega arith)) ∙ take_more names place [] place_within ∙ ap (λ name. take place names ++ name ∷ []) (sym name_there)

  pub name_is_last : place + 1 ≡ length names → last_of names ≡ Some label
  name_is_last last = ap last_of (names_to_last last) ∙ last_of-push (take place names) label

  pub name_is_not_last : IsDistinct bytes_eq names → (place + 1 ≡ length names → ⊥) → option_map_or (λ column. bytes_eq column label) (last_of names) false ≡ false
  name_is_not_last distinct apart =
      let within : place < length names = place_within in
      let end : ℕ = length names - 1 in
      let whole : names ≡ take end names ++ get_or names end [] ∷ [] = sym (take_all (end + 1) names (omega arith)) ∙ take_more names end [] (omega arith) in
      let last : last_of names ≡ Some (get_or names end []) = ap last_of whole ∙ last_of-push (take end names) (get_or names end []) in
      ap (λ found. option_map_or (λ column. bytes_eq column label) found false) last
      ∙ bytes_flip (get_or names end []) label
      ∙ ap (λ name. bytes_eq name (get_or names end [])) name_there
      ∙ apart_from_distinct bytes_eq names place end [] distinct (omega arith) (omega arith)

not_after : (goes : Bool) (last : Option (List ℕ)) (label : List ℕ) → option_map_or (λ column. bytes_eq column label) last false ≡ false
    → option_map_or (λ column. bytes_eq column label) (cond goes last None) false ≡ false
not_after true last label apart = apart
not_after false last label apart = refl

-- a line of the column of the line before, by that column's place
module _ (rows : List RowLine) (lines : List ColumnLine) (at : ℕ) (label : List ℕ) (table : ColumnTable) (place : ℕ) (keeps : KeepsColumns rows lines table)
    (found : position (bytes_eq label) table.names ≡ Some place) where
  found_in : position (bytes_eq label) (column_names lines) ≡ Some place
  found_in = ap (position (bytes_eq label)) (sym keeps.names) ∙ found

  known_in : is_among (column_names lines) label ≡ true
  known_in = name_known (column_names lines) label place found_in

  pub line_goes_on : table.goes_on ≡ true → place + 1 ≡ length table.names
      → (label_fault lines label ≡ None) × KeepsColumns rows (lines_to lines (bare_line at label)) table
  line_goes_on goes end =
      let last : last_of (column_names lines) ≡ Some label = name_is_last (column_names lines) label place found_in (end ∙ ap length keeps.names) in (
        label_goes_on lines label known_in (keeps.before ∙ ap (λ b. cond b (last_of (column_names lines)) None) goes ∙ last),
        kept_known rows lines at label table keeps known_in last goes,
      )

  pub line_is_of_last : place + 1 ≡ length table.names → IsLastColumn (lines_to lines (bare_line at label)) label place
  line_is_of_last end = record {
    others = take place (column_names lines);
    names = column_names_known lines (bare_line at label) known_in ∙ names_to_last (column_names lines) label place found_in (end ∙ ap length keeps.names);
    number = length-take-le place (column_names lines) (let within : place < length (column_names lines) = place_within (column_names lines) label place found_in in omega arith);
  }

  pub line_comes_back : IsDistinct bytes_eq table.names → (table.goes_on ≡ false) ⊎ (place + 1 ≡ length table.names → ⊥) → label_fault lines label ≡ Some faults.Duplicate
  line_comes_back distinct apart =
      label_again lines label known_in
      (⊎_elim
      (λ (stopped : table.goes_on ≡ false).
      ap (λ found. option_map_or (λ column. bytes_eq column label) found false) (keeps.before ∙ ap (λ b. cond b (last_of (column_names lines)) None) stopped))
      (λ (other : place + 1 ≡ length table.names → ⊥).
      ap (λ found. option_map_or (λ column. bytes_eq column label) found false) keeps.before
      ∙ not_after table.goes_on (last_of (column_names lines)) label
      (name_is_not_last (column_names lines) label place found_in (subst (IsDistinct bytes_eq) keeps.names distinct) (λ end. other (end ∙ ap length (sym keeps.names)))))
      apart)

-- the first line of a new column
pub fresh_is_last : (rows : List RowLine) (lines : List ColumnLine) (at : ℕ) (label : List ℕ) (table : ColumnTable) (column : ℕ) → KeepsColumns rows lines table
    → is_among table.names label ≡ false → column ≡ length table.names → IsLastColumn (lines_to lines (bare_line at label)) label column
fresh_is_last rows lines at label table column keeps new is = record {
  others = column_names lines;
  names = column_names_fresh lines (bare_line at label) (ap (λ names. is_among names label) (sym keeps.names) ∙ new);
  number = ap length (sym keeps.names) ∙ sym is;
}

pub fresh_fault_none : (rows : List RowLine) (lines : List ColumnLine) (label : List ℕ) (table : ColumnTable) → KeepsColumns rows lines table
    → is_among table.names label ≡ false → length table.names < 256 → label_fault lines label ≡ None
fresh_fault_none rows lines label table keeps new few =
    label_new lines label (ap (λ names. is_among names label) (sym keeps.names) ∙ new) (subst (λ (names : List (List ℕ)). length names < 256) keeps.names few)
