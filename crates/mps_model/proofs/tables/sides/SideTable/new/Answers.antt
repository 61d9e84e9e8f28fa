use Rattle.std.proofs.Common.{refl}
use Rattle.mps_model.proofs.OnTables.SideTableLaws.{keeps_none}
use Rattle.mps_model.proofs.OnTables.RangeTableLaws.{keeps_no_ranges}
use Rattle.mps_model.proofs.tables.sides.SideTable.new.Goals as goal

pub returns-clause-pairs : goal.returns-clause-pairs
returns-clause-pairs c = λ names. keeps_none names _ refl c.new.ensures.items

pub returns-clause-ranges : goal.returns-clause-ranges
returns-clause-ranges c = λ rows sides. keeps_no_ranges rows sides _ refl c.new.ensures.items
