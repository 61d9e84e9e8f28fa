use Rattle.std.proofs.Common.{refl}
use Rattle.mps_model.proofs.OnTables.ColumnTableLaws.{kept_none}
use Rattle.mps_model.proofs.tables.columns.ColumnTable.new.Goals as goal

pub returns : goal.returns
returns c = kept_none c.args.rows.now _ c.new.ensures c.new-2.ensures.items refl refl c.in_ok-new.ensures
