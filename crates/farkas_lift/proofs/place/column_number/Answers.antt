use Rattle.std.proofs.Common.{arith}
use Rattle.farkas_lift.proofs.NodeValues as Node
use Rattle.farkas_lift.proofs.place.column_number.Goals as goal

pub returns-clause-below : goal.returns-clause-below
returns-clause-below c =
    let limits = c.columns-columns.ensures.limits in
    omega (arith, c.original_column.ensures, Node.column-number c.args.model.now c.args.rows.now limits c.requires.reduced c.args.j c.requires.there, Node.column-below c.args.model.now c.args.rows.now limits c.requires.reduced c.args.j c.requires.there)
