use Rattle.std.proofs.Common.{◌≡◌, ℤ, Option, map, option_map, take, drop}
use Rattle.std.specs.Iterator.Adapters.{enumerate_source, enumerate_count}
use Rattle.exact_math.specs.Rational.{whole}
use Rattle.mps_model.specs.Tables.{Tables}
use Rattle.mps_model.specs.Bounds.{column_names}
use Rattle.mps_model.specs.StatedModel.{stated_column}
use Rattle.mps_model.specs.KeptBounds.{KeepsBounds}
use Rattle.mps_model.proofs.model.model_building.build_columns.Given as goal

-- the names that are left, and the columns so far
abbrev pub invariant-loop-place : goal.invariant-loop-place
invariant-loop-place l = record {
  left : map (λ name. name.items) (enumerate_source l.place-iterator) ≡ drop (enumerate_count l.place-iterator) l.fn.names;
  built : (tables : Tables) (upper : Option ℤ) → l.fn.names ≡ column_names tables.columns
      → KeepsBounds l.fn.names tables.bounds l.bounds → l.given ≡ option_map whole upper
      → l.columns ≡ map (stated_column upper tables) (take (enumerate_count l.place-iterator) l.fn.names);
}
