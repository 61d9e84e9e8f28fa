-- The points of the model for which the coordinates of a node's frame stand.
use Rattle.std.specs.Prelude.{◌≡◌, List}
use Rattle.exact_math.specs.Rational.{ℚ}
use Rattle.whole_rows.specs.WholeRows.{WholeRows}
use Rattle.reformulate.specs.Substitutions.{Substitution}
use Rattle.rational_frames.specs.RationalFrames.{rational_point_of}
use Rattle.presolve_map.specs.Columns.{kept}

-- the values x of the model's columns are x0 + K y in those that are kept
abbrev pub StandsFor : WholeRows → Substitution → List ℚ → List ℚ → Type 0
StandsFor model frame y x = rational_point_of frame y ≡ kept model.box x
