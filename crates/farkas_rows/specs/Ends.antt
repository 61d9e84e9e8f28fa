-- The inequality of the end of a split.
use Rattle.std.specs.Prelude.{Option, Some, None}
use Rattle.farkas_rows.specs.declared.line.End.{End}
use Rattle.farkas_rows.specs.declared.line.End.TheVariants.{Absent, Below, Above}
use Rattle.farkas_rows.specs.Inequalities.{Inequality, below, above}

-- the inequality that holds on this end
abbrev pub inequality_of : End → Option Inequality
inequality_of Absent = None
inequality_of (Below form lo) = Some (below form.now lo)
inequality_of (Above form from) = Some (above form.now from)
