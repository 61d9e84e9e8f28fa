-- How a line of a column is judged in steps: its name, and then each of its pairs behind those before it.
use Rattle.std.proofs.Common.{◌≡◌, ℕ, cond, List, [], ◌∷◌, ◌++◌, Option, Some, None, Result, sym, ap, subst, ◌∙◌}
use Rattle.std.specs.Prelude.{bytes_eq, option_map, option_to_list}
use Rattle.std.specs.Option.{option_or}
use Rattle.std.proofs.Math.Bool.{or_comm}
use Rattle.mps_fields.specs.Reading.{number_of}
use Rattle.mps_model.specs.declared.fault.FaultKind.{FaultKind}
use Rattle.mps_model.specs.declared.line_stop.LineStop.{LineStop}
use Rattle.mps_model.specs.declared.tables.columns.ColumnTable.{ColumnTable}
use Rattle.mps_model.specs.Tables.{RowLine, Pair, PairLine, ColumnLine, entries, Tables}
use Rattle.mps_model.specs.Bounds.{lines_of_column}
use Rattle.mps_model.specs.FaultRules.{is_among}
use Rattle.mps_model.specs.RowFaults.{row_names}
use Rattle.mps_model.specs.PairFaults.{pair_names, pair_fault, pairs_fault}
use Rattle.mps_model.specs.ColumnFaults.{column_fault}
use Rattle.mps_model.specs.Judging.{Judges}
use Rattle.mps_model.specs.ColumnTables.{bare_line, with_pair, label_fault}
use Rattle.mps_model.specs.KeptColumns.{KeepsColumns}
use Rattle.mps_model.specs.KeptSides.{names_in}
use Rattle.mps_model.specs.FirstPlaceLaws.{bytes_same}
use Rattle.mps_model.proofs.OnTables.PairLaws.{or_none}
use Rattle.mps_model.proofs.OnTables.ColumnItemLaws.{names_in-push, pairs_at, pairs_at-bare, pairs_at-with_pair, lines_to}
use Rattle.mps_model.proofs.OnTables.FactorTableLaws.{rules_on}

-- rows and lines of COLUMNS alone
abbrev pub rows_and_columns : List RowLine → List ColumnLine → Tables
rows_and_columns rows lines = record { rows = rows; columns = lines; sides = []; ranges = []; bounds = [] }

-- the rows that the lines of a column take
abbrev pub taken_in : List ColumnLine → List ℕ → List (List ℕ)
taken_in lines label = pair_names (lines_of_column lines label)

module _ (rows : List RowLine) (lines : List ColumnLine) (at : ℕ) (label : List ℕ) (first : Pair) where
  same_first : pair_fault rows (taken_in (lines_to lines (bare_line at label)) label) first ≡ pair_fault rows (taken_in lines label) first
  same_first = ap (λ found. pair_fault rows (names_in found) first) (pairs_at-bare lines at label label)

  taken_more : (name : List ℕ) → is_among (taken_in (lines_to lines (with_pair (bare_line at label) first)) label) name ≡ is_among (first.name ∷ taken_in lines label) name
  taken_more name =
      ap (λ found. is_among (names_in found) name)
      (pairs_at-with_pair lines (bare_line at label) first label
      ∙ ap (λ b. pairs_at (lines_to lines (bare_line at label)) label ++ cond b (first ∷ []) []) (bytes_same label)
      ∙ ap (λ found. found ++ first ∷ []) (pairs_at-bare lines at label label))
      ∙ names_in-push (pairs_at lines label) first name
      ∙ or_comm (is_among (taken_in lines label) name) (bytes_eq name first.name)

  same_second : (second : Pair)
      → pair_fault rows (taken_in (lines_to lines (with_pair (bare_line at label) first)) label) second ≡ pair_fault rows (first.name ∷ taken_in lines label) second
  same_second second = ap (λ taken. rules_on (is_among (row_names rows) second.name) (number_of second.number) taken) (taken_more second.name)

  -- a line whose first pair has a fault
  pub fault_of_first : (pairs : List Pair) (kind : FaultKind) → label_fault lines label ≡ None
      → pair_fault rows (taken_in (lines_to lines (bare_line at label)) label) first ≡ Some kind
      → column_fault (rows_and_columns rows lines) (Some (record { at = at; label = label; pairs = first ∷ pairs })) ≡ Some kind
  unfolding pairs_fault
  fault_of_first pairs kind named wrong =
      ap (λ o. option_or o (pairs_fault (pair_fault rows) (taken_in lines label) (first ∷ pairs))) named
      ∙ ap (λ o. option_or o (pairs_fault (pair_fault rows) (first.name ∷ taken_in lines label) pairs)) (sym same_first ∙ wrong)

  -- a line of one pair without fault
  pub fault_of_one : label_fault lines label ≡ None → pair_fault rows (taken_in (lines_to lines (bare_line at label)) label) first ≡ None
      → column_fault (rows_and_columns rows lines) (Some (record { at = at; label = label; pairs = first ∷ [] })) ≡ None
  unfolding pairs_fault
  fault_of_one named right =
      ap (λ o. option_or o (pairs_fault (pair_fault rows) (taken_in lines label) (first ∷ []))) named
      ∙ ap (λ o. option_or o None) (sym same_first ∙ right)

  -- a line of two pairs, the first of them without fault
  pub fault_of_second : (second : Pair) → label_fault lines label ≡ None → pair_fault rows (taken_in (lines_to lines (bare_line at label)) label) first ≡ None
      → column_fault (rows_and_columns rows lines) (Some (record { at = at; label = label; pairs = first ∷ second ∷ [] }))
      ≡ pair_fault rows (taken_in (lines_to lines (with_pair (bare_line at label) first)) label) second
  unfolding pairs_fault
  fault_of_second second named right =
      ap (λ o. option_or o (pairs_fault (pair_fault rows) (taken_in lines label) (first ∷ second ∷ []))) named
      ∙ ap (λ o. option_or o (option_or (pair_fault rows (first.name ∷ taken_in lines label) second) None)) (sym same_first ∙ right)
      ∙ or_none (pair_fault rows (first.name ∷ taken_in lines label) second)
      ∙ sym (same_second second)

-- what is judged by the rows and lines alone, and as the line says it
pub judged_at : {A : Type 0} (above : Tables) (rows : List RowLine) (line said : Option PairLine) (next : ColumnTable) (result : Result A LineStop) → above.rows ≡ rows → line ≡ said
    → Judges (column_fault (rows_and_columns rows above.columns) said) (KeepsColumns rows (above.columns ++ option_to_list (option_map entries said)) next) result
    → Judges (column_fault above line) (KeepsColumns above.rows (above.columns ++ option_to_list (option_map entries line)) next) result
judged_at {A} above rows line said next result same is judged =
    let by_line : Option PairLine → Type 0 = λ line.
    Judges {A = A} (column_fault (rows_and_columns rows above.columns) line) (KeepsColumns rows (above.columns ++ option_to_list (option_map entries line)) next) result
    in
    let by_rows : List RowLine → Type 0 = λ rows.
    Judges {A = A} (column_fault (rows_and_columns rows above.columns) line) (KeepsColumns rows (above.columns ++ option_to_list (option_map entries line)) next) result
    in
    subst by_rows (sym same) (subst by_line (sym is) judged)
