-- What is kept is within the limits.
use Rattle.std.proofs.Common.{◌≡◌, Bool, ◌≤◌, ◌^◌, List, length, ℤ, refl, sym, subst, ◌∙◌, arith}
use Rattle.std.specs.Prelude.{All}
use Rattle.std.proofs.lemmas.List.{length-map}
use Rattle.whole_rows.specs.declared.bounds.Bounds.{Bounds}
use Rattle.whole_rows.specs.WholeRows.{WholeRows, reach, span, IsWithinLimits}
use Rattle.whole_rows.specs.Ends.{lows}
use Rattle.spaces.specs.Tables.{Table}
use Rattle.presolve_map.specs.Columns.{is_open, open_flags, kept, kept_columns, IsColumnMap}
use Rattle.presolve_map.specs.Removed.{removed_bounds, lows-removed}
use Rattle.presolve_map.specs.Placed.{IsPlaced}
use Rattle.presolve_map.proofs.SelectLaws.{length-select, positions_le, All-select, span-select}

-- a flag for each column
pub length-flags : (box : List Bounds) → length (open_flags box) ≡ length box
length-flags box = length-map box is_open

pub length-kept : {A : Type 0} (box : List Bounds) (xs : List A) → length xs ≡ length box → length (kept box xs) ≡ length (kept_columns box)
length-kept {A} box xs e = length-select (open_flags box) xs 0 (length-flags box ∙ sym e)

pub columns_le : (box : List Bounds) → length (kept_columns box) ≤ length box
columns_le box = omega (arith, positions_le (open_flags box) 0, length-flags box)

module _ (rows : WholeRows) (limits : IsWithinLimits rows) where
  pub kept-few : length (kept rows.box rows.box) ≤ 256
  kept-few = omega (arith, limits.few_columns, columns_le rows.box, length-kept rows.box rows.box refl)

  pub kept-light : All (λ (bounds : Bounds). reach bounds ≤ 2 ^ 96) (kept rows.box rows.box)
  kept-light = All-select (λ (bounds : Bounds). reach bounds ≤ 2 ^ 96) (open_flags rows.box) rows.box limits.light.reaches

  pub kept-light_cost : span (kept rows.box rows.cost) (kept rows.box rows.box) ≤ 2 ^ 96
  kept-light_cost = omega (arith, limits.light_cost, span-select (open_flags rows.box) rows.cost rows.box)

-- the map of the lines that are placed
pub column-map : (box : List Bounds) (flags : List Bool) (base : List ℤ) (table : Table ℤ) → flags ≡ open_flags box → base ≡ lows (removed_bounds box) → IsPlaced flags table → IsColumnMap box (record { base = base; lines = table })
column-map box flags base table is_flags is_base placed =
    let p : IsPlaced (open_flags box) table = subst (λ (f : List Bool). IsPlaced f table) is_flags placed in
    record {
      base = is_base ∙ lows-removed box;
      width = p.width;
      height = p.rows ∙ length-flags box;
      lines = p.lines;
    }
