use Rattle.std.proofs.Common.{sym}
use Rattle.mps_model.specs.Tables.{tables_of}
use Rattle.mps_model.proofs.OnTables.TakenLineLaws.{row_taken}
use Rattle.mps_model.proofs.tables.text_tables.TextTables.take_row.Goals as goal

pub returns : goal.returns
returns c = λ layout line above cuts ordered last now.
    row_taken layout line above c.args.self.now ordered now _ _ _ last (c.row.ensures layout line cuts) (c.add.ensures (tables_of layout above) (sym now.rows))
