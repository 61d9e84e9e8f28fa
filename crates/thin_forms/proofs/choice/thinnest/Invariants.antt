use Rattle.norm_gauge.specs.Widths.{polytope_of}
use Rattle.spaces.specs.Tables.{rows_in}
use Rattle.thin_forms.specs.Choices.{IsChosen}
use Rattle.thin_forms.proofs.choice.thinnest.Given as goal

abbrev pub invariant-loop-j : goal.invariant-loop-j
invariant-loop-j l = IsChosen (polytope_of l.system.rows l.system.limits) (rows_in l.lines) l.j l.best.form l.best.gauge
