-- What the code's tables keep where all lines are taken.
use Rattle.std.proofs.Common.{◌≡◌, true, true≢false, List, length, Option, Some, None, sym, ap, subst, ◌∙◌}
use Rattle.std.specs.Prelude.{is_some, IfSome, IsSomeAnd}
use Rattle.std.specs.List.{list_any}
use Rattle.std.proofs.lemmas.List.{length-map}
use Rattle.mps_fields.specs.Lines.{Line}
use Rattle.mps_model.specs.declared.layout.Layout.{Layout}
use Rattle.mps_model.specs.declared.lines.section.Section.TheVariants.{Columns as COLUMNS}
use Rattle.mps_model.specs.declared.tables.columns.ColumnTable.{ColumnTable}
use Rattle.mps_model.specs.declared.tables.text_tables.TextTables.{TextTables}
use Rattle.mps_model.specs.SectionOrder.{is_same, sections_in}
use Rattle.mps_model.specs.Tables.{tables_of}
use Rattle.mps_model.specs.Bounds.{column_names}
use Rattle.mps_model.specs.RowFaults.{row_names}
use Rattle.mps_model.specs.FactorTables.{factors_of}
use Rattle.mps_model.specs.KeptColumns.{KeepsColumns}
use Rattle.mps_model.specs.KeptSides.{KeepsPairs, KeepsRanges}
use Rattle.mps_model.specs.KeptBounds.{KeepsBounds}
use Rattle.mps_model.specs.KeptTables.{KeepsTables}
use Rattle.mps_model.specs.KeptSections.{KeepsSections, IsSized, IsBuildable}
use Rattle.mps_model.proofs.OnTables.TakenLineLaws.{kept_so_far, no_sides, no_ranges, no_bounds}

module _ (layout : Layout) (above : List Line) (kept : TextTables) (now : KeepsSections (sections_in above) (tables_of layout above) kept) where
  sides_kept : KeepsPairs (row_names (tables_of layout above).rows) (tables_of layout above).sides kept.sides
  sides_kept = kept_so_far _ (no_sides layout above kept) now.sides

  ranges_kept : KeepsRanges (tables_of layout above).rows (tables_of layout above).sides (tables_of layout above).ranges kept.ranges
  ranges_kept = kept_so_far _ (no_ranges layout above kept) now.ranges

  bounds_kept : KeepsBounds (column_names (tables_of layout above).columns) (tables_of layout above).bounds kept.bounds
  bounds_kept = kept_so_far _ (no_bounds layout above kept) now.bounds

  -- the five tables have what the lines say
  pub tables_kept : (columns : ColumnTable) → kept.columns ≡ Some columns → KeepsTables (tables_of layout above) kept.rows columns kept.sides kept.ranges kept.bounds
  tables_kept columns is = record {
    rows_kept = now.rows;
    columns_kept = subst (λ o. IfSome o (KeepsColumns (tables_of layout above).rows (tables_of layout above).columns)) is now.columns;
    sides_kept = sides_kept;
    ranges_kept = ranges_kept;
    bounds_kept = bounds_kept;
  }

  factors_sized : (columns : ColumnTable) → KeepsColumns (tables_of layout above).rows (tables_of layout above).columns columns → length columns.factors.rows.items ≡ length kept.rows
  factors_sized columns holds =
      ap length holds.factors.factors ∙ length-map (tables_of layout above).rows (factors_of (tables_of layout above).rows (tables_of layout above).columns) ∙ ap length (sym now.rows)

  sized_at : (o : Option ColumnTable) → IfSome o (KeepsColumns (tables_of layout above).rows (tables_of layout above).columns) → IfSome o (λ columns. length columns.factors.rows.items ≡ length kept.rows)
  sized_at None h = tt
  sized_at (Some columns) h = factors_sized columns h

  -- the table of columns has a place for each row
  pub kept_sized : IsSized kept
  kept_sized = sized_at kept.columns now.columns

  there_at : (o : Option ColumnTable) → is_some o ≡ true → IfSome o (KeepsColumns (tables_of layout above).rows (tables_of layout above).columns)
      → IsSomeAnd o (λ columns. length columns.factors.rows.items ≡ length kept.rows)
  there_at None came h = absurd (true≢false (sym came))
  there_at (Some columns) came h = factors_sized columns h

  -- behind COLUMNS the tables can be made a model
  pub kept_buildable : list_any (is_same COLUMNS) (sections_in above) ≡ true → IsBuildable kept
  kept_buildable came = there_at kept.columns (now.has_columns ∙ came) now.columns
