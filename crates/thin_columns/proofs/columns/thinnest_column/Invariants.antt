use Rattle.norm_gauge.specs.Widths.{polytope_of}
use Rattle.spaces.specs.Tables.{rows_in}
use Rattle.thin_columns.specs.Columns.{ThinnestIs}
use Rattle.thin_columns.proofs.columns.thinnest_column.Given as goal

abbrev pub invariant-loop-j : goal.invariant-loop-j
invariant-loop-j l = ThinnestIs (polytope_of l.system.rows l.system.limits) (rows_in l.lines) l.j l.best
