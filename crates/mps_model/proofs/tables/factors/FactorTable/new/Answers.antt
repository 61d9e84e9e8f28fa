use Rattle.std.proofs.Common.{[], map, arith, ap, ◌∙◌}
use Rattle.std.proofs.lemmas.List.{take_all}
use Rattle.mps_model.specs.FactorTables.{factors_of}
use Rattle.mps_model.proofs.OnTables.FactorTableLaws.{begin_more}
use Rattle.mps_model.proofs.tables.factors.FactorTable.new.Goals as goal

pub loop-row-preserved : goal.loop-row-preserved
loop-row-preserved c =
    begin_more c.args.rows.now c.loop-row.row c.is_stated.result c.new.result c.loop-row.factors.items c.push.new.self.items (omega arith)
    c.is_stated.ensures c.new.ensures c.loop-row.invariant c.in_ok-push.ensures.items

pub returns : goal.returns
returns c = record { factors = c.loop-row.invariant ∙ ap (map (factors_of c.args.rows.now [])) (take_all c.loop-row.row c.args.rows.now (omega arith)) }
