use Rattle.std.proofs.Common.{refl}
use Rattle.lattice_reduce.proofs.CopySteps.{reduced_end}
use Rattle.lattice_reduce.proofs.ProductSteps.{product_end}
use Rattle.spaces.specs.Tables.{rows_in}
use Rattle.lattice_reduce.proofs.lattice.reduce.Goals as goal

pub returns-clause-reduced : goal.returns-clause-reduced
returns-clause-reduced g c =
    let r = c.in_ok-reduction.reduction in
    let done = c.in_ok-reduction.ensures in
    reduced_end r.basis c.args.basis.now r.numbers c.args.basis.now.rows done.height done.width refl done.settled

pub returns-clause-product : goal.returns-clause-product
returns-clause-product g c =
    let r = c.in_ok-reduction.reduction in
    let done = c.in_ok-reduction.ensures in
    product_end c.args.basis.now r.pair (rows_in r.basis) r.steps c.rows-size.ensures.size done.legal done.pair
