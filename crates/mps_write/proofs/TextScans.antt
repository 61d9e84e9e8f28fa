-- The lines of a canonical text are passed, section by section.
use Rattle.std.proofs.Common.{◌≡◌, ℕ, ◌+◌, true, List, [], ◌∷◌, ◌++◌, length, map, Some, None, refl, sym, subst, ◌∙◌, append_assoc, append-nil}
use Rattle.std.specs.Prelude.{codes}
use Rattle.std.specs.List.{last_or, AllByRecursion}
use Rattle.exact_math.specs.Rational.{whole}
use Rattle.int_model.specs.declared.model.Column.{Column}
use Rattle.int_model.specs.declared.model.Row.{Row}
use Rattle.int_model.specs.declared.model.Model.{Model}
use Rattle.mps_fields.specs.Lines.{Line, numbered}
use Rattle.mps_model.specs.declared.lines.section.Section.{Section}
use Rattle.mps_model.specs.declared.lines.section.Section.TheVariants.{Name as NAME, Rows as ROWS, Columns as COLUMNS, Rhs as RHS, Ranges as RANGES, Bounds as BOUNDS, Endata as ENDATA}
use Rattle.mps_model.specs.SectionOrder.{is_in_order}
use Rattle.mps_model.specs.Tables.{RowLine, Pair, PairLine, Tables}
use Rattle.mps_model.specs.Sides.{side_in, pairs_of}
use Rattle.mps_model.specs.Bounds.{column_names}
use Rattle.mps_write.specs.PlainModels.{IsPlainColumn, IsPlain}
use Rattle.mps_write.specs.CanonicalText.{data_line, section, section_of_some, objective_name, row_fields, row_table, row_right_side, all_items, column_pairs, column_table, side_pairs, range_pairs, unlabelled, bound_table}
use Rattle.mps_write.proofs.NameLaws.{each_weaker, AreFresh}
use Rattle.mps_write.proofs.Scans.{IsPassed, passed_none, tables_from, line_of}
use Rattle.mps_write.proofs.RowScans.{row_line, objective_line, row_names_are, rows_passed, objective_passed}
use Rattle.mps_write.proofs.PairScans.{IsGoodPair, SidesPassed, sides_passed}
use Rattle.mps_write.proofs.ColumnScans.{IsGoodLabel, ColumnsPassed, columns_passed}
use Rattle.mps_write.proofs.RangeScans.{IsGoodRange, RangesPassed, ranges_passed}
use Rattle.mps_write.proofs.BoundScans.{all_bounds, bound_line, bound_table_is, bounds_passed}
use Rattle.mps_write.proofs.SectionScans.{name_heading, rows_heading, columns_heading, sides_heading, ranges_heading, bounds_heading, ArePassed, begin, then_lines, whole_section}
use Rattle.mps_write.proofs.PlainFacts.{good_label}
use Rattle.mps_write.proofs.GoodTables.{plain_columns, fresh_rows, fresh_columns, row_fields_can, column_pairs_good, column_pairs_fresh, side_pairs_good, side_pairs_fresh, range_pairs_good, range_pairs_fresh, bounds_good}
use Rattle.mps_write.proofs.ReadBack.{SayModel, row_sides}

abbrev no_tables : Tables
no_tables = tables_from [] [] [] [] []

abbrev title : List (List ℕ)
title = codes "NAME SLICER" ∷ []

title_passed : ArePassed title (NAME ∷ []) no_tables
unfolding numbered
title_passed = begin [] [] no_tables (codes "NAME SLICER") NAME passed_none name_heading refl refl

module _ (model : Model) (plain : IsPlain model) where
  sides_found : (lines : List PairLine) → pairs_of lines ≡ side_pairs model → AllByRecursion (λ (row : Row). side_in lines row.name ≡ whole (row_right_side row)) model.rows
  sides_found lines said = row_sides model plain lines said

  abbrev the_rows : List RowLine
  the_rows = objective_line ∷ map row_line model.rows

  -- ---- ROWS

  abbrev to_rows : List (List ℕ)
  to_rows = title ++ section (codes "ROWS") (row_table model.rows)

  rows_on : ArePassed to_rows (NAME ∷ ROWS ∷ []) (tables_from the_rows [] [] [] [])
  unfolding numbered
  rows_on =
      let begun : List (List ℕ) = title ++ codes "ROWS" ∷ [] in
      let number : ℕ = 1 + length begun in
      let sections : List Section = NAME ∷ ROWS ∷ [] in
      whole_section (λ lines. ArePassed lines sections (tables_from the_rows [] [] [] [])) title (codes "ROWS") (row_table model.rows)
      (then_lines (λ lines. IsPassed lines sections (tables_from the_rows [] [] [] [])) begun (map data_line (row_table model.rows))
      (subst (λ lines. IsPassed lines sections (tables_from the_rows [] [] [] []))
      (append_assoc (numbered 1 begun) (line_of number (data_line (codes "N" ∷ objective_name ∷ [])) ∷ []) (numbered (number + 1) (map data_line (map row_fields model.rows))))
      (rows_passed model.rows sections refl (row_fields_can model plain) (fresh_rows model plain) plain.few_rows
      (numbered 1 begun ++ line_of number (data_line (codes "N" ∷ objective_name ∷ [])) ∷ []) (number + 1)
      (objective_passed (numbered 1 begun) sections number (begin title (NAME ∷ []) no_tables (codes "ROWS") ROWS title_passed rows_heading refl refl) refl))))

  -- ---- COLUMNS

  abbrev to_columns : List (List ℕ)
  to_columns = to_rows ++ section (codes "COLUMNS") (column_table (all_items model) 0 model.columns)

  columns_on : ColumnsPassed (NAME ∷ ROWS ∷ COLUMNS ∷ []) the_rows (all_items model) model.columns (numbered 1 to_columns)
  columns_on =
      let begun : List (List ℕ) = to_rows ++ codes "COLUMNS" ∷ [] in
      let sections : List Section = NAME ∷ ROWS ∷ COLUMNS ∷ [] in
      let Passed : List Line → Type 0 = ColumnsPassed sections the_rows (all_items model) model.columns in
      whole_section (λ lines. Passed (numbered 1 lines)) to_rows (codes "COLUMNS") (column_table (all_items model) 0 model.columns)
      (then_lines Passed begun (map data_line (column_table (all_items model) 0 model.columns))
      (columns_passed sections the_rows (all_items model) refl
      (λ j. subst (λ names. AllByRecursion (IsGoodPair names) (column_pairs (all_items model) j)) (sym (row_names_are model.rows)) (column_pairs_good model plain j))
      (column_pairs_fresh model plain)
      model.columns (numbered 1 begun) (1 + length begun)
      (begin to_rows (NAME ∷ ROWS ∷ []) (tables_from the_rows [] [] [] []) (codes "COLUMNS") COLUMNS rows_on columns_heading refl refl)
      (each_weaker IsPlainColumn (λ (column : Column). IsGoodLabel column.name) model.columns good_label (plain_columns model plain))
      (fresh_columns model plain) plain.few_columns))

  -- ---- RHS

  abbrev to_sides : List (List ℕ)
  to_sides = to_columns ++ section (codes "RHS") (map unlabelled (side_pairs model))

  sides_on : SidesPassed (NAME ∷ ROWS ∷ COLUMNS ∷ RHS ∷ []) the_rows columns_on.columns (side_pairs model) (numbered 1 to_sides)
  sides_on =
      let begun : List (List ℕ) = to_columns ++ codes "RHS" ∷ [] in
      let sections : List Section = NAME ∷ ROWS ∷ COLUMNS ∷ RHS ∷ [] in
      let Passed : List Line → Type 0 = SidesPassed sections the_rows columns_on.columns (side_pairs model) in
      whole_section (λ lines. Passed (numbered 1 lines)) to_columns (codes "RHS") (map unlabelled (side_pairs model))
      (then_lines Passed begun (map data_line (map unlabelled (side_pairs model)))
      (sides_passed (side_pairs model) sections the_rows columns_on.columns refl
      (subst (λ names. AllByRecursion (IsGoodPair names) (side_pairs model)) (sym (row_names_are model.rows)) (side_pairs_good model plain))
      (side_pairs_fresh model plain)
      (numbered 1 begun) (1 + length begun)
      (begin to_columns (NAME ∷ ROWS ∷ COLUMNS ∷ []) (tables_from the_rows columns_on.columns [] [] []) (codes "RHS") RHS columns_on.passed sides_heading refl refl)))

  -- ---- RANGES, where a row has one

  -- the lines up to BOUNDS are passed
  record BeforeBounds (lines : List (List ℕ)) : Type 0 where
    sections : List Section
    ranges : List PairLine
    passed : ArePassed lines sections (tables_from the_rows columns_on.columns sides_on.lines ranges [])
    said : pairs_of ranges ≡ range_pairs model.rows
    next : is_in_order sections BOUNDS ≡ true
    last : last_or None (sections ++ BOUNDS ∷ []) ≡ Some BOUNDS
    then_end : is_in_order (sections ++ BOUNDS ∷ []) ENDATA ≡ true

  ranges_on : AllByRecursion (λ (row : Row). side_in sides_on.lines row.name ≡ whole (row_right_side row)) model.rows → (pairs : List Pair) → range_pairs model.rows ≡ pairs
      → BeforeBounds (to_sides ++ section_of_some (codes "RANGES") (map unlabelled pairs))
  ranges_on sides [] are = record {
    sections = NAME ∷ ROWS ∷ COLUMNS ∷ RHS ∷ [];
    ranges = [];
    passed = subst (λ lines. ArePassed lines (NAME ∷ ROWS ∷ COLUMNS ∷ RHS ∷ []) (tables_from the_rows columns_on.columns sides_on.lines [] [])) (sym (append-nil to_sides)) sides_on.passed;
    said = sym are;
    next = refl;
    last = refl;
    then_end = refl;
  }
  ranges_on sides (pair ∷ pairs) are =
      let begun : List (List ℕ) = to_sides ++ codes "RANGES" ∷ [] in
      let sections : List Section = NAME ∷ ROWS ∷ COLUMNS ∷ RHS ∷ RANGES ∷ [] in
      let Passed : List Line → Type 0 = RangesPassed sections the_rows columns_on.columns sides_on.lines (pair ∷ pairs) in
      let on : Passed (numbered 1 (to_sides ++ section (codes "RANGES") (map unlabelled (pair ∷ pairs)))) =
      whole_section (λ lines. Passed (numbered 1 lines)) to_sides (codes "RANGES") (map unlabelled (pair ∷ pairs))
      (then_lines Passed begun (map data_line (map unlabelled (pair ∷ pairs)))
      (ranges_passed (pair ∷ pairs) sections the_rows columns_on.columns sides_on.lines refl
      (subst (AllByRecursion (IsGoodRange the_rows columns_on.columns sides_on.lines)) are (range_pairs_good model plain columns_on.columns sides_on.lines sides))
      (subst (λ ps. AreFresh [] (map (λ (pair : Pair). pair.name) ps)) are (range_pairs_fresh model plain))
      (numbered 1 begun) (1 + length begun)
      (begin to_sides (NAME ∷ ROWS ∷ COLUMNS ∷ RHS ∷ []) (tables_from the_rows columns_on.columns sides_on.lines [] []) (codes "RANGES") RANGES sides_on.passed ranges_heading refl refl)))
      in
      record {
        sections = sections;
        ranges = on.lines;
        passed = on.passed;
        said = on.said.are ∙ sym are;
        next = refl;
        last = refl;
        then_end = refl;
      }

  abbrev to_ranges : List (List ℕ)
  to_ranges = to_sides ++ section_of_some (codes "RANGES") (map unlabelled (range_pairs model.rows))

  -- ---- BOUNDS

  abbrev pub to_bounds : List (List ℕ)
  to_bounds = to_ranges ++ section (codes "BOUNDS") (bound_table model.columns)

  -- the lines up to ENDATA are passed, and say what the model has
  pub record BeforeEnd : Type 0 where
    pub sections : List Section
    pub tables : Tables
    pub passed : ArePassed to_bounds sections tables
    pub say : SayModel model tables
    pub next : is_in_order sections ENDATA ≡ true

  bounds_on : BeforeBounds to_ranges → BeforeEnd
  bounds_on before =
      let begun : List (List ℕ) = to_ranges ++ codes "BOUNDS" ∷ [] in
      let sections : List Section = before.sections ++ BOUNDS ∷ [] in
      let tables : Tables = tables_from the_rows columns_on.columns sides_on.lines before.ranges (map bound_line (all_bounds model.columns)) in
      record {
        sections = sections;
        tables = tables;
        passed = whole_section (λ lines. ArePassed lines sections tables) to_ranges (codes "BOUNDS") (bound_table model.columns)
            (then_lines (λ lines. IsPassed lines sections tables) begun (map data_line (bound_table model.columns))
            (subst (λ table. IsPassed (numbered 1 begun ++ numbered (1 + length begun) (map data_line table)) sections tables) (bound_table_is model.columns)
            (bounds_passed (all_bounds model.columns) sections the_rows columns_on.columns sides_on.lines before.ranges before.last
            (bounds_good model plain (column_names columns_on.columns) columns_on.names_are)
            (numbered 1 begun) (1 + length begun)
            (begin to_ranges before.sections (tables_from the_rows columns_on.columns sides_on.lines before.ranges []) (codes "BOUNDS") BOUNDS before.passed bounds_heading before.next refl))));
        say = record {
          rows = refl;
          names = columns_on.names_are;
          factors = columns_on.said;
          sides = sides_on.said.are;
          ranges = before.said;
          bounds = refl;
        };
        next = before.then_end;
      }

  pub text_passed : BeforeEnd
  text_passed = bounds_on (ranges_on (sides_found sides_on.lines sides_on.said.are) (range_pairs model.rows) refl)
