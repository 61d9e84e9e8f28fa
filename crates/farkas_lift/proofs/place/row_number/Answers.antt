use Rattle.std.proofs.Common.{arith}
use Rattle.farkas_lift.proofs.NodeValues as Node
use Rattle.farkas_lift.proofs.place.row_number.Goals as goal

pub returns-clause-below : goal.returns-clause-below
returns-clause-below c =
    let limits = c.rows-rows.ensures.limits in
    omega (arith, c.original_row.ensures, Node.row-number c.args.model.now c.args.rows.now limits c.requires.reduced c.args.i c.requires.there, Node.row-below c.args.model.now c.args.rows.now limits c.requires.reduced c.args.i c.requires.there)
