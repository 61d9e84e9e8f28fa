-- What the code's tables keep, where one more data line is taken.
use Rattle.std.proofs.Common.{◌≡◌, ℕ, Bool, true, false, true≢false, cond, List, [], ◌++◌, filter_map, Option, Some, None, Result, refl, sym, ap, subst, ◌∙◌, arith}
use Rattle.std.specs.Prelude.{is_some, IfSome, option_map, option_to_list, option_and_then}
use Rattle.std.specs.Option.{option_copied}
use Rattle.std.specs.Borrow.{Bor}
use Rattle.std.specs.List.{list_any, last_or, before_first}
use Rattle.mps_fields.specs.BooleanLaws.{either}
use Rattle.mps_fields.specs.Lines.{Line, is_section_line}
use Rattle.mps_model.specs.declared.layout.Layout.{Layout}
use Rattle.mps_model.specs.declared.line_stop.LineStop.{LineStop}
use Rattle.mps_model.specs.declared.lines.section.Section.{Section}
use Rattle.mps_model.specs.declared.lines.section.Section.TheVariants.{Rows as ROWS, Columns as COLUMNS, Rhs as RHS, Ranges as RANGES, Bounds as BOUNDS}
use Rattle.mps_model.specs.declared.lines.bound_kind.BoundKind.{BoundKind}
use Rattle.mps_model.specs.declared.tables.columns.ColumnTable.{ColumnTable}
use Rattle.mps_model.specs.declared.tables.sides.SideTable.{SideTable}
use Rattle.mps_model.specs.declared.tables.bounds.BoundTable.{BoundTable}
use Rattle.mps_model.specs.declared.tables.text_tables.TextTables.{TextTables}
use Rattle.mps_model.specs.Sections.{begins, content, table_of}
use Rattle.mps_model.specs.SectionOrder.{is_same, sections_in}
use Rattle.mps_model.specs.Tables.{RowLine, PairLine, BoundLine, marker, entries, is_marker, row_at, marker_at, entries_at, column_at, set_at, bound_kind_at, bound_with, bound_at, tables_of}
use Rattle.mps_model.specs.Bounds.{column_names}
use Rattle.mps_model.specs.RowFaults.{row_names, row_fault}
use Rattle.mps_model.specs.PairFaults.{pair_fault, range_fault, set_fault}
use Rattle.mps_model.specs.ColumnFaults.{marker_fault, column_fault, bound_line_fault, bound_fault}
use Rattle.mps_model.specs.LineFaults.{data_fault}
use Rattle.mps_model.specs.SixFieldViews.{text_of}
use Rattle.mps_model.specs.AddedLines.{with_line}
use Rattle.mps_model.specs.Judging.{Judges}
use Rattle.mps_model.specs.KeptSectionOrder.{are_in_order}
use Rattle.mps_model.specs.KeptColumns.{KeepsColumns}
use Rattle.mps_model.specs.KeptSides.{KeepsPairs, KeepsRanges}
use Rattle.mps_model.specs.KeptBounds.{KeepsBounds}
use Rattle.mps_model.specs.KeptSections.{KeptFrom, HasNoSides, HasNoRanges, HasNoBounds, KeepsSections}
use Rattle.mps_model.specs.FirstItemLaws.{after_none}
use Rattle.mps_model.proofs.OnLines.JudgingCallLaws.{judges_like}
use Rattle.mps_model.specs.SectionLaws.{begun}
use Rattle.mps_model.proofs.OnLines.SectionOrderLaws.{last_among, not_yet}

-- a word of the code
pub copied : (o : Option (Bor (List ℕ))) → option_copied o ≡ option_map text_of o
copied None = refl
copied (Some x) = refl

-- ---- tables that are new before their section

-- nothing changes before the section
still_new : {P Q R : Type 0} (b : Bool) → b ≡ false → KeptFrom b P Q → KeptFrom b P R
still_new b out now = record { before = now.before; behind = λ came. absurd (true≢false (sym came ∙ out)) }

-- from the section on a table keeps its lines
keeps_now : {P Q : Type 0} (b : Bool) → b ≡ true → Q → KeptFrom b P Q
keeps_now b came kept = record { before = λ out. absurd (true≢false (sym came ∙ out)); behind = λ h. kept }

-- in either case
pub kept_so_far : {P Q : Type 0} (b : Bool) → (b ≡ false → P → Q) → KeptFrom b P Q → Q
kept_so_far b start now = either b (λ came. now.behind came) (λ out. start out (now.before out))

-- the table of columns is not there, though COLUMNS came
pub missing : {T : Type 0} (b : Bool) (table : Option T) → is_some table ≡ b → table ≡ None → b ≡ true → ⊥
missing b table has none came = true≢false (sym came ∙ sym has ∙ ap is_some none)

-- nothing is said of columns that are not there
no_columns : {T : Type 0} (P : T → Type 0) (table : Option T) → is_some table ≡ false → IfSome table P
no_columns P None h = tt
no_columns P (Some t) h = absurd (true≢false h)

-- the table of a section that has not come is empty
pub no_table : (s : Section) (above : List Line) → list_any (is_same s) (sections_in above) ≡ false → table_of s above ≡ []
no_table s above h = ap (before_first (λ line. is_section_line line.bytes)) (after_none (begins s) (content above) (begun s above ∙ h))

-- before its section a table keeps what the lines say, which is nothing
module _ (layout : Layout) (above : List Line) (kept : TextTables) where
  pub no_sides : list_any (is_same RHS) (sections_in above) ≡ false → HasNoSides kept → KeepsPairs (row_names (tables_of layout above).rows) (tables_of layout above).sides kept.sides
  no_sides out new =
      subst (λ ls. KeepsPairs (row_names (tables_of layout above).rows) ls kept.sides) (sym (ap (filter_map (set_at layout)) (no_table RHS above out)))
      (new (row_names (tables_of layout above).rows))

  pub no_ranges : list_any (is_same RANGES) (sections_in above) ≡ false → HasNoRanges kept
      → KeepsRanges (tables_of layout above).rows (tables_of layout above).sides (tables_of layout above).ranges kept.ranges
  no_ranges out new =
      subst (λ ls. KeepsRanges (tables_of layout above).rows (tables_of layout above).sides ls kept.ranges) (sym (ap (filter_map (set_at layout)) (no_table RANGES above out)))
      (new (tables_of layout above).rows (tables_of layout above).sides)

  pub no_bounds : list_any (is_same BOUNDS) (sections_in above) ≡ false → HasNoBounds kept
      → KeepsBounds (column_names (tables_of layout above).columns) (tables_of layout above).bounds kept.bounds
  no_bounds out new =
      subst (λ ls. KeepsBounds (column_names (tables_of layout above).columns) ls kept.bounds) (sym (ap (filter_map (bound_at layout)) (no_table BOUNDS above out)))
      (new (column_names (tables_of layout above).columns))

-- ---- a line in each section

module _ (layout : Layout) (line : Line) (above : List Line) (old : TextTables) (ordered : are_in_order [] (sections_in above) ≡ true)
    (now : KeepsSections (sections_in above) (tables_of layout above) old) where
  pub row_taken : (rows : List RowLine) (said : Option RowLine) {A : Type 0} (r : Result A LineStop) → last_or None (sections_in above) ≡ Some ROWS → said ≡ row_at layout line
      → Judges (row_fault (tables_of layout above) said) (rows ≡ old.rows ++ option_to_list said) r
      → Judges (data_fault layout (tables_of layout above) line (Some ROWS)) (KeepsSections (sections_in above) (with_line layout line (tables_of layout above) (Some ROWS))
      (record { rows = rows; columns = old.columns; sides = old.sides; ranges = old.ranges; bounds = old.bounds })) r
  row_taken rows said r last e = judges_like _ _ r (ap (row_fault (tables_of layout above)) e) (λ none added. record {
    rows = added ∙ ap (λ rs. rs ++ option_to_list said) now.rows ∙ ap (λ o. (tables_of layout above).rows ++ option_to_list o) e;
    has_columns = now.has_columns;
    columns = no_columns _ old.columns (now.has_columns ∙ not_yet COLUMNS ROWS (sections_in above) ordered last (omega arith));
    sides = still_new _ (not_yet RHS ROWS (sections_in above) ordered last (omega arith)) now.sides;
    ranges = still_new _ (not_yet RANGES ROWS (sections_in above) ordered last (omega arith)) now.ranges;
    bounds = still_new _ (not_yet BOUNDS ROWS (sections_in above) ordered last (omega arith)) now.bounds;
  })

  -- what is known of the table of columns
  pub columns_there : (columns : ColumnTable) → old.columns ≡ Some columns → KeepsColumns (tables_of layout above).rows (tables_of layout above).columns columns
  columns_there columns is = subst (λ o. IfSome o (KeepsColumns (tables_of layout above).rows (tables_of layout above).columns)) is now.columns

  column_rule : (b : Bool) → is_marker layout line.bytes ≡ b
      → data_fault layout (tables_of layout above) line (Some COLUMNS) ≡ cond b (marker_fault (tables_of layout above) (marker_at layout line)) (column_fault (tables_of layout above) (entries_at layout line))
  column_rule b e = ap (λ m. cond m (marker_fault (tables_of layout above) (marker_at layout line)) (column_fault (tables_of layout above) (entries_at layout line))) e

  column_said : (b : Bool) → is_marker layout line.bytes ≡ b → column_at layout line ≡ cond b (option_map marker (marker_at layout line)) (option_map entries (entries_at layout line))
  column_said b e = ap (λ m. cond m (option_map marker (marker_at layout line)) (option_map entries (entries_at layout line))) e

  columns_kept : (columns new : ColumnTable) → old.columns ≡ Some columns → last_or None (sections_in above) ≡ Some COLUMNS
      → KeepsColumns (tables_of layout above).rows ((tables_of layout above).columns ++ option_to_list (column_at layout line)) new
      → KeepsSections (sections_in above) (with_line layout line (tables_of layout above) (Some COLUMNS))
      (record { rows = old.rows; columns = Some new; sides = old.sides; ranges = old.ranges; bounds = old.bounds })
  columns_kept columns new is last holds = record {
    rows = now.rows;
    has_columns = sym (ap is_some is) ∙ now.has_columns;
    columns = holds;
    sides = now.sides;
    ranges = now.ranges;
    bounds = still_new _ (not_yet BOUNDS COLUMNS (sections_in above) ordered last (omega arith)) now.bounds;
  }

  pub marker_taken : (columns new : ColumnTable) (word : Option (List ℕ)) {A : Type 0} (r : Result A LineStop) → old.columns ≡ Some columns → last_or None (sections_in above) ≡ Some COLUMNS
      → is_marker layout line.bytes ≡ true → word ≡ marker_at layout line
      → Judges (marker_fault (tables_of layout above) word) (KeepsColumns (tables_of layout above).rows ((tables_of layout above).columns ++ option_to_list (option_map marker word)) new) r
      → Judges (data_fault layout (tables_of layout above) line (Some COLUMNS)) (KeepsSections (sections_in above) (with_line layout line (tables_of layout above) (Some COLUMNS))
      (record { rows = old.rows; columns = Some new; sides = old.sides; ranges = old.ranges; bounds = old.bounds })) r
  marker_taken columns new word r is last mark e =
      judges_like _ _ r (ap (marker_fault (tables_of layout above)) e ∙ sym (column_rule true mark))
      (λ none holds. columns_kept columns new is last
      (subst (λ o. KeepsColumns (tables_of layout above).rows ((tables_of layout above).columns ++ option_to_list o) new) (ap (option_map marker) e ∙ sym (column_said true mark)) holds))

  pub entries_taken : (columns new : ColumnTable) (said : Option PairLine) {A : Type 0} (r : Result A LineStop) → old.columns ≡ Some columns → last_or None (sections_in above) ≡ Some COLUMNS
      → is_marker layout line.bytes ≡ false → said ≡ entries_at layout line
      → Judges (column_fault (tables_of layout above) said) (KeepsColumns (tables_of layout above).rows ((tables_of layout above).columns ++ option_to_list (option_map entries said)) new) r
      → Judges (data_fault layout (tables_of layout above) line (Some COLUMNS)) (KeepsSections (sections_in above) (with_line layout line (tables_of layout above) (Some COLUMNS))
      (record { rows = old.rows; columns = Some new; sides = old.sides; ranges = old.ranges; bounds = old.bounds })) r
  entries_taken columns new said r is last mark e =
      judges_like _ _ r (ap (column_fault (tables_of layout above)) e ∙ sym (column_rule false mark))
      (λ none holds. columns_kept columns new is last
      (subst (λ o. KeepsColumns (tables_of layout above).rows ((tables_of layout above).columns ++ option_to_list o) new) (ap (option_map entries) e ∙ sym (column_said false mark)) holds))

  -- the sides so far, also where RHS has not come
  pub sides_so_far : KeepsPairs (row_names (tables_of layout above).rows) (tables_of layout above).sides old.sides
  sides_so_far = kept_so_far _ (no_sides layout above old) now.sides

  pub side_taken : (new : SideTable) (said : Option PairLine) {A : Type 0} (r : Result A LineStop) → last_or None (sections_in above) ≡ Some RHS → said ≡ set_at layout line
      → Judges (set_fault (pair_fault old.rows) (tables_of layout above).sides said) (KeepsPairs (row_names old.rows) ((tables_of layout above).sides ++ option_to_list said) new) r
      → Judges (data_fault layout (tables_of layout above) line (Some RHS)) (KeepsSections (sections_in above) (with_line layout line (tables_of layout above) (Some RHS))
      (record { rows = old.rows; columns = old.columns; sides = new; ranges = old.ranges; bounds = old.bounds })) r
  side_taken new said r last e =
      judges_like _ _ r
      (ap (λ o. set_fault (pair_fault old.rows) (tables_of layout above).sides o) e ∙ ap (λ rs. set_fault (pair_fault rs) (tables_of layout above).sides (set_at layout line)) now.rows)
      (λ none holds. record {
        rows = now.rows;
        has_columns = now.has_columns;
        columns = now.columns;
        sides = keeps_now _ (last_among RHS (sections_in above) last)
            (subst (λ o. KeepsPairs (row_names (tables_of layout above).rows) ((tables_of layout above).sides ++ option_to_list o) new) e
            (subst (λ rs. KeepsPairs (row_names rs) ((tables_of layout above).sides ++ option_to_list said) new) now.rows holds));
        ranges = still_new _ (not_yet RANGES RHS (sections_in above) ordered last (omega arith)) now.ranges;
        bounds = now.bounds;
      })

  pub range_taken : (new : SideTable) (said : Option PairLine) {A : Type 0} (r : Result A LineStop) → last_or None (sections_in above) ≡ Some RANGES → said ≡ set_at layout line
      → (KeepsRanges (tables_of layout above).rows (tables_of layout above).sides (tables_of layout above).ranges old.ranges
      → Judges (set_fault (range_fault (tables_of layout above)) (tables_of layout above).ranges said)
      (KeepsRanges (tables_of layout above).rows (tables_of layout above).sides ((tables_of layout above).ranges ++ option_to_list said) new) r)
      → Judges (data_fault layout (tables_of layout above) line (Some RANGES)) (KeepsSections (sections_in above) (with_line layout line (tables_of layout above) (Some RANGES))
      (record { rows = old.rows; columns = old.columns; sides = old.sides; ranges = new; bounds = old.bounds })) r
  range_taken new said r last e judged =
      let came = last_among RANGES (sections_in above) last in
      judges_like _ _ r (ap (set_fault (range_fault (tables_of layout above)) (tables_of layout above).ranges) e)
      (λ none holds. record {
        rows = now.rows;
        has_columns = now.has_columns;
        columns = now.columns;
        sides = now.sides;
        ranges = keeps_now _ came
            (subst (λ o. KeepsRanges (tables_of layout above).rows (tables_of layout above).sides ((tables_of layout above).ranges ++ option_to_list o) new) e holds);
        bounds = now.bounds;
      })
      (judged (now.ranges.behind came))

  bound_rule : (kind : BoundKind) → Some kind ≡ bound_kind_at layout line
      → bound_line_fault (tables_of layout above) (bound_with layout line kind) ≡ data_fault layout (tables_of layout above) line (Some BOUNDS)
  bound_rule kind e = ap (bound_fault layout (tables_of layout above) line) e

  bound_said : (kind : BoundKind) → Some kind ≡ bound_kind_at layout line → bound_with layout line kind ≡ bound_at layout line
  bound_said kind e = ap (option_and_then (bound_with layout line)) e

  pub bound_taken : (columns : ColumnTable) (new : BoundTable) (kind : BoundKind) (said : Option BoundLine) {A : Type 0} (r : Result A LineStop)
      → old.columns ≡ Some columns → last_or None (sections_in above) ≡ Some BOUNDS → Some kind ≡ bound_kind_at layout line → said ≡ bound_with layout line kind
      → (columns.names ≡ column_names (tables_of layout above).columns → KeepsBounds columns.names (tables_of layout above).bounds old.bounds
      → Judges (bound_line_fault (tables_of layout above) said) (KeepsBounds columns.names ((tables_of layout above).bounds ++ option_to_list said) new) r)
      → Judges (data_fault layout (tables_of layout above) line (Some BOUNDS)) (KeepsSections (sections_in above) (with_line layout line (tables_of layout above) (Some BOUNDS))
      (record { rows = old.rows; columns = old.columns; sides = old.sides; ranges = old.ranges; bounds = new })) r
  bound_taken columns new kind said r is last kind_is e judged =
      let came = last_among BOUNDS (sections_in above) last in
      let names = (columns_there columns is).names in
      judges_like _ _ r (ap (bound_line_fault (tables_of layout above)) e ∙ bound_rule kind kind_is)
      (λ none holds. record {
        rows = now.rows;
        has_columns = now.has_columns;
        columns = now.columns;
        sides = now.sides;
        ranges = now.ranges;
        bounds = keeps_now _ came
            (subst (λ o. KeepsBounds (column_names (tables_of layout above).columns) ((tables_of layout above).bounds ++ option_to_list o) new) (e ∙ bound_said kind kind_is)
            (subst (λ n. KeepsBounds n ((tables_of layout above).bounds ++ option_to_list said) new) names holds));
      })
      (judged names (subst (λ n. KeepsBounds n (tables_of layout above).bounds old.bounds) (sym names) (now.bounds.behind came)))
