use Rattle.std.proofs.Common.{refl}
use Rattle.mps_model.proofs.OnTables.BoundTableLaws.{nothing_kept}
use Rattle.mps_model.proofs.tables.bounds.BoundTable.new.Goals as goal

pub returns : goal.returns
returns c = λ names. nothing_kept names _ refl c.new.ensures.items
