use Rattle.std.proofs.Common.{sym}
use Rattle.mps_model.specs.Tables.{tables_of}
use Rattle.mps_model.proofs.OnTables.TakenLineLaws.{sides_so_far, range_taken}
use Rattle.mps_model.proofs.tables.text_tables.TextTables.take_range.Goals as goal

pub returns : goal.returns
returns c = λ layout line above cuts ordered last now.
    range_taken layout line above c.args.self.now ordered now _ _ _ last (c.set.ensures layout line cuts)
    (c.add_ranges.ensures (tables_of layout above) (sym now.rows) (sides_so_far layout line above c.args.self.now ordered now))
