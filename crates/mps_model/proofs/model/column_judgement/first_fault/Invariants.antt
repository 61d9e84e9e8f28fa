use Rattle.std.proofs.Common.{◌≡◌, ℤ, [], Option, map, option_map, take}
use Rattle.std.specs.Prelude.{filter_map}
use Rattle.exact_math.specs.Rational.{whole}
use Rattle.mps_model.specs.Tables.{Tables}
use Rattle.mps_model.specs.Bounds.{column_names}
use Rattle.mps_model.specs.Meaning.{column_fault_at}
use Rattle.mps_model.specs.KeptBounds.{KeepsBounds}
use Rattle.mps_model.specs.KeptColumns.{start_of}
use Rattle.mps_model.proofs.model.column_judgement.first_fault.Given as goal

-- no column so far has a fault
abbrev pub invariant-loop-column : goal.invariant-loop-column
invariant-loop-column l =
    (tables : Tables) (upper : Option ℤ) → l.starts ≡ map (start_of tables.columns) (column_names tables.columns)
    → KeepsBounds (column_names tables.columns) tables.bounds l.bounds → l.given ≡ option_map whole upper
    → filter_map (column_fault_at upper tables) (take l.column (column_names tables.columns)) ≡ []
