use Rattle.std.proofs.Common.{◌≡◌, [], map, take}
use Rattle.mps_model.specs.FactorTables.{factors_of}
use Rattle.mps_model.proofs.tables.factors.FactorTable.new.Given as goal

abbrev pub invariant-loop-row : goal.invariant-loop-row
invariant-loop-row l = l.factors.items ≡ map (factors_of l.rows []) (take l.row l.rows)
