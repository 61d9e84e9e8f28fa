use Rattle.std.proofs.Common.{ap, sym, ◌∙◌, ◌<◌, length, arith}
use Rattle.whole_rows.specs.declared.sides.Sides.{Sides}
use Rattle.whole_rows.specs.WholeRows.{WholeRow}
use Rattle.whole_rows.proofs.FlatLemmas.{rows-whole_rows, row-whole_rows}
use Rattle.whole_rows.proofs.dense_rows.DenseRows.high.Goals as goal

pub index-requires : goal.index-requires
index-requires c = omega (arith, rows-whole_rows _ _ _ _ _ c.self.view_is)

pub returns : goal.returns
returns c =
    let within : c.args.i < length c.self.inside.sides.items = omega (arith, rows-whole_rows _ _ _ _ _ c.self.view_is) in
    ap (λ (sides : Sides). sides.high) c.index.ensures ∙ sym (ap (λ (row : WholeRow). row.high) (row-whole_rows _ _ _ _ _ _ _ c.self.view_is within))
