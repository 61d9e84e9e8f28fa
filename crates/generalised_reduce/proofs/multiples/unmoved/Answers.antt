use Rattle.std.proofs.Common.{suc, ◌<◌, arith}
use Rattle.norm_gauge.specs.Widths.{polytope_of}
use Rattle.generalised_reduce.proofs.BestSteps.{candidate_none, kept_none, width_none}
use Rattle.generalised_reduce.proofs.multiples.unmoved.Goals as goal

pub tested-requires-clause-candidate : goal.tested-requires-clause-candidate
tested-requires-clause-candidate c =
    let inside : suc c.args.k < c.args.system.now.rows.width = omega (arith, c.requires.inside) in
    candidate_none (polytope_of c.args.system.now.rows c.args.system.now.limits) c.args.pair.now c.args.k c.requires.fits.inverse inside

pub returns-clause-kept : goal.returns-clause-kept
returns-clause-kept c =
    let inside : suc c.args.k < c.args.system.now.rows.width = omega (arith, c.requires.inside) in
    kept_none (polytope_of c.args.system.now.rows c.args.system.now.limits) c.args.pair.now c.args.k c.requires.fits.inverse inside c.in_ok-gauge.gauge c.in_ok-gauge.ensures.gauge c.in_ok-gauge.ensures.narrow

pub returns-clause-width : goal.returns-clause-width
returns-clause-width c =
    let inside : suc c.args.k < c.args.system.now.rows.width = omega (arith, c.requires.inside) in
    width_none (polytope_of c.args.system.now.rows c.args.system.now.limits) c.args.pair.now c.args.k c.requires.fits.inverse inside c.in_ok-gauge.gauge c.in_ok-gauge.ensures.gauge
