-- When the box and single rows show that the root has no point, and the lines that say so.
use Rattle.std.specs.Prelude.{◌≡◌, ◌⊎◌, ℤ, ◌<ℤ◌, [], Any, Option, Some, None}
use Rattle.whole_rows.specs.WholeRows.{WholeRow, WholeRows}
use Rattle.farkas_rows.specs.declared.line.Line.{Line}
use Rattle.farkas_rows.specs.Refutes.{Refutes}
use Rattle.plain_slices.specs.Shut.{Shut}

-- the upper side is below the lower one
abbrev pub HaveCrossed : Option ℤ → Option ℤ → Type 0
HaveCrossed None high = ⊥
HaveCrossed (Some low) None = ⊥
HaveCrossed (Some low) (Some high) = high <ℤ low

-- so it is with the sides of the row
abbrev pub HasCrossingSides : WholeRow → Type 0
HasCrossingSides row = HaveCrossed row.low row.high

-- The bounds of a column cross, or no values within the box meet some side of a row, or the sides of a row cross.
abbrev pub IsClosedRoot : WholeRows → Type 0
IsClosedRoot rows = Shut rows [] None ⊎ Any HasCrossingSides rows.rows

-- a line without a cut that refutes the root
pub record IsRootLine (rows : WholeRows) (line : Line) : Type 0 where
  pub no_cut : line.cut ≡ None
  pub refutes : Refutes rows [] None line

-- such a line where bounds cross or a side cannot be met, and none where not
abbrev pub IsShutAnswer : WholeRows → Option Line → Type 0
IsShutAnswer rows None = Shut rows [] None → ⊥
IsShutAnswer rows (Some line) = Shut rows [] None × IsRootLine rows line

-- such a line where the root is closed, and none where not
abbrev pub IsRootAnswer : WholeRows → Option Line → Type 0
IsRootAnswer rows None = IsClosedRoot rows → ⊥
IsRootAnswer rows (Some line) = IsClosedRoot rows × IsRootLine rows line
