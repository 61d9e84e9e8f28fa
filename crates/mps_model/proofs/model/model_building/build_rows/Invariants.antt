use Rattle.std.proofs.Common.{◌≡◌, ℕ, ◌≤◌, get_or, map, filter, take, drop}
use Rattle.std.specs.Iterator.Adapters.{enumerate_source, enumerate_count}
use Rattle.mps_model.specs.declared.tables.factors.RowFactors.{RowFactors}
use Rattle.mps_model.specs.Tables.{Tables}
use Rattle.mps_model.specs.Sides.{has_sides}
use Rattle.mps_model.specs.StatedModel.{stated_row}
use Rattle.mps_model.specs.RowFaults.{row_names}
use Rattle.mps_model.specs.RowKinds.{rows_of}
use Rattle.mps_model.specs.KeptSides.{KeepsPairs, KeepsRanges}
use Rattle.mps_model.specs.KeptTables.{HaveItems}
use Rattle.mps_model.proofs.model.model_building.build_rows.Given as goal

-- the names that are left, the factors that are left, and the rows so far
abbrev pub invariant-loop-place : goal.invariant-loop-place
invariant-loop-place l = record {
  left : map (λ name. name.items) (enumerate_source l.place-iterator) ≡ drop (enumerate_count l.place-iterator) l.fn.names;
  kept : (k : ℕ) (d : RowFactors) → enumerate_count l.place-iterator ≤ k → get_or l.factors k d ≡ get_or l.fn.factors k d;
  built : (tables : Tables) → rows_of l.kinds l.fn.names ≡ tables.rows
      → KeepsPairs (row_names tables.rows) tables.sides l.sides → KeepsRanges tables.rows tables.sides tables.ranges l.ranges
      → HaveItems tables l.fn.factors
      → l.rows ≡ map (stated_row tables) (filter has_sides (take (enumerate_count l.place-iterator) (rows_of l.kinds l.fn.names)));
}
