-- What the code's tables keep, where a section begins.
use Rattle.std.proofs.Common.{◌≡◌, Bool, true, false, ◌||◌, List, [], ◌∷◌, ◌++◌, filter_map, Some, sym, ap, subst, ◌∙◌, append_assoc}
use Rattle.std.specs.List.{list_any}
use Rattle.std.proofs.lemmas.Bool.{or_parts, and_parts}
use Rattle.std.proofs.lemmas.List.{append-nil}
use Rattle.mps_fields.specs.BooleanLaws.{either}
use Rattle.mps_fields.specs.Lines.{Line}
use Rattle.mps_model.specs.declared.layout.Layout.{Layout}
use Rattle.mps_model.specs.declared.lines.section.Section.{Section}
use Rattle.mps_model.specs.declared.lines.section.Section.TheVariants.{Columns as COLUMNS, Rhs as RHS, Ranges as RANGES, Bounds as BOUNDS}
use Rattle.mps_model.specs.declared.tables.columns.ColumnTable.{ColumnTable}
use Rattle.mps_model.specs.declared.tables.text_tables.TextTables.{TextTables}
use Rattle.mps_model.specs.Sections.{begins}
use Rattle.mps_model.specs.SectionOrder.{is_same, is_in_order, sections_in}
use Rattle.mps_model.specs.Tables.{column_at, tables_of}
use Rattle.mps_model.specs.Bounds.{column_names}
use Rattle.mps_model.specs.RowFaults.{row_names}
use Rattle.mps_model.specs.KeptSectionOrder.{are_in_order}
use Rattle.mps_model.specs.KeptColumns.{KeepsColumns}
use Rattle.mps_model.specs.KeptSides.{KeepsPairs, KeepsRanges}
use Rattle.mps_model.specs.KeptBounds.{KeepsBounds}
use Rattle.mps_model.specs.KeptSections.{KeptFrom, HasNoSides, HasNoRanges, HasNoBounds, KeepsSections}
use Rattle.mps_model.specs.LineFaultLaws.{not_there}
use Rattle.mps_model.proofs.OnLines.SectionOrderLaws.{came-push, or_true, or_false}
use Rattle.mps_model.proofs.OnTables.TakenLineLaws.{no_table, no_sides, no_ranges, no_bounds}

ordered_last : (above sections : List Section) (s : Section) → are_in_order above (sections ++ s ∷ []) ≡ true → is_in_order (above ++ sections) s ≡ true
ordered_last above [] s h = subst (λ l. is_in_order l s ≡ true) (sym (append-nil above)) (and_parts (is_in_order above s) true h).0
ordered_last above (t ∷ sections) s h =
    subst (λ l. is_in_order l s ≡ true) (append_assoc above (t ∷ []) sections)
    (ordered_last (above ++ t ∷ []) sections s (and_parts (is_in_order above t) (are_in_order (above ++ t ∷ []) (sections ++ s ∷ [])) h).1)

-- a section that comes in order has not come
new_section : (sections : List Section) (s : Section) → are_in_order [] (sections ++ s ∷ []) ≡ true → list_any (is_same s) sections ≡ false
new_section sections s h = not_there sections s (ordered_last [] sections s h)

-- ---- tables over one more section

-- a table at a section that begins: it stays as it is, and of its own section it keeps no line yet
kept_more : {P Q : Type 0} (came begins : Bool) → (came ≡ false → P → Q) → KeptFrom came P Q → KeptFrom (came || begins) P Q
kept_more came begins start now = record {
  before = λ out. now.before (or_parts came begins out).0;
  behind = λ in_. either came (λ t. now.behind t) (λ out. start out (now.before out));
}

kept_push : {P Q : Type 0} (t s : Section) (sections : List Section) → (list_any (is_same t) sections ≡ false → P → Q) → KeptFrom (list_any (is_same t) sections) P Q
    → KeptFrom (list_any (is_same t) (sections ++ s ∷ [])) P Q
kept_push {P} {Q} t s sections start now =
    subst (λ b. KeptFrom b P Q) (sym (came-push t s sections)) (kept_more (list_any (is_same t) sections) (is_same t s) start now)

module _ (layout : Layout) (above : List Line) (s : Section) (old : TextTables) where
  sides_more : KeepsSections (sections_in above) (tables_of layout above) old
      → KeptFrom (list_any (is_same RHS) (sections_in above ++ s ∷ [])) (HasNoSides old) (KeepsPairs (row_names (tables_of layout above).rows) (tables_of layout above).sides old.sides)
  sides_more now = kept_push RHS s (sections_in above) (no_sides layout above old) now.sides

  ranges_more : KeepsSections (sections_in above) (tables_of layout above) old
      → KeptFrom (list_any (is_same RANGES) (sections_in above ++ s ∷ [])) (HasNoRanges old)
      (KeepsRanges (tables_of layout above).rows (tables_of layout above).sides (tables_of layout above).ranges old.ranges)
  ranges_more now = kept_push RANGES s (sections_in above) (no_ranges layout above old) now.ranges

  bounds_more : KeepsSections (sections_in above) (tables_of layout above) old
      → KeptFrom (list_any (is_same BOUNDS) (sections_in above ++ s ∷ [])) (HasNoBounds old)
      (KeepsBounds (column_names (tables_of layout above).columns) (tables_of layout above).bounds old.bounds)
  bounds_more now = kept_push BOUNDS s (sections_in above) (no_bounds layout above old) now.bounds

  -- COLUMNS begins
  pub columns_begun : (new : ColumnTable) → s ≡ COLUMNS → are_in_order [] (sections_in above ++ s ∷ []) ≡ true → KeepsSections (sections_in above) (tables_of layout above) old
      → KeepsColumns old.rows [] new
      → KeepsSections (sections_in above ++ s ∷ []) (tables_of layout above) (record { rows = old.rows; columns = Some new; sides = old.sides; ranges = old.ranges; bounds = old.bounds })
  columns_begun new e ordered now holds =
      let out = subst (λ t. list_any (is_same t) (sections_in above) ≡ false) e (new_section (sections_in above) s ordered) in
      let empty = ap (filter_map (column_at layout)) (no_table COLUMNS above out) in record {
        rows = now.rows;
        has_columns = or_true (list_any (is_same COLUMNS) (sections_in above)) (is_same COLUMNS s) (ap (is_same COLUMNS) e) ∙ sym (came-push COLUMNS s (sections_in above));
        columns = subst (λ rs. KeepsColumns rs (tables_of layout above).columns new) now.rows (subst (λ ls. KeepsColumns old.rows ls new) (sym empty) holds);
        sides = sides_more now;
        ranges = ranges_more now;
        bounds = bounds_more now;
      }

  -- another section begins
  pub other_begun : is_same COLUMNS s ≡ false → KeepsSections (sections_in above) (tables_of layout above) old → KeepsSections (sections_in above ++ s ∷ []) (tables_of layout above) old
  other_begun other now = record {
    rows = now.rows;
    has_columns = now.has_columns ∙ or_false (list_any (is_same COLUMNS) (sections_in above)) (is_same COLUMNS s) other ∙ sym (came-push COLUMNS s (sections_in above));
    columns = now.columns;
    sides = sides_more now;
    ranges = ranges_more now;
    bounds = bounds_more now;
  }
