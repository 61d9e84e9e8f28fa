-- What the checks of a width find.
use Rattle.std.specs.Prelude.{◌≡◌, ℕ, ◌*◌, ◌^◌, ◌-◌, ◌<◌, ◌≤◌, ℤ, pos, ◌≤ℤ◌, List, map, Option}
use Rattle.exact_math.specs.Rational.{ℚ, whole, ◌*ℚ◌, ◌≤ℚ◌}
use Rattle.node_point.specs.NodePoints.{Fractions}
use Rattle.node_point.specs.RationalPoints.{coordinates}
use Rattle.spaces.specs.Tables.{row_at}
use Rattle.reformulate.specs.Substitutions.{Substitution, dimension_of}
use Rattle.presolve_map.specs.ReducedRows.{ReducedRows}
use Rattle.shown_widths.specs.Columns.{IsShownWide}
use Rattle.shown_widths.specs.Steps.{width_parts, AllLeave}
use Rattle.shown_widths.specs.declared.room.Width.{Width}

-- each column is shown to be as wide, and each side leaves room enough for a factor of at most 4^(r-1)
pub record IsThinBy (frame : Substitution) (work : ReducedRows) (cut : Option ℤ) (size : ℚ) (points : List Fractions) : Type 0 where
  pub wide : (j : ℕ) → j < frame.to_work.lines.rows → IsShownWide j (row_at frame.to_work.lines j) size points
  pub width : Width
  pub times : ℕ
  pub some : 0 < times
  pub few : times ≤ 4 ^ (dimension_of frame - 1)
  pub factor : width.factor ≡ pos (width_parts * times)
  pub not_negative : pos 0 ≤ℤ width.units
  pub enough : (whole (pos width_parts) *ℚ size) ≤ℚ whole width.units
  pub leave : AllLeave width frame.to_work (map coordinates points) work cut
