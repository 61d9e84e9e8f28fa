use Rattle.std.proofs.Common.{sym, subst}
use Rattle.mps_model.specs.Tables.{tables_of}
use Rattle.mps_model.specs.RowFaults.{row_names}
use Rattle.mps_model.specs.KeptSides.{KeepsPairs}
use Rattle.mps_model.proofs.OnTables.TakenLineLaws.{sides_so_far, side_taken}
use Rattle.mps_model.proofs.tables.text_tables.TextTables.take_side.Goals as goal

pub returns : goal.returns
returns c = λ layout line above cuts ordered last now.
    side_taken layout line above c.args.self.now ordered now _ _ _ last (c.set.ensures layout line cuts)
    (c.add_sides.ensures (tables_of layout above).sides
    (subst (λ rows. KeepsPairs (row_names rows) (tables_of layout above).sides c.args.self.now.sides) (sym now.rows) (sides_so_far layout line above c.args.self.now ordered now)))
