use Rattle.std.proofs.Common.{suc, ◌<◌, arith, subst, sym}
use Rattle.norm_gauge.specs.Widths.{IsWidth, polytope_of}
use Rattle.generalised_reduce.proofs.BestSteps.{have_widths}
use Rattle.generalised_reduce.proofs.multiples.least_multiple.Goals as goal

pub search_span-requires-clause-widths : goal.search_span-requires-clause-widths
search_span-requires-clause-widths c =
    let inside : suc c.args.k < c.args.system.now.rows.width = omega (arith, c.requires.inside) in
    let p = polytope_of c.args.system.now.rows c.args.system.now.limits in
    have_widths p c.args.pair.now c.args.k c.requires.fits.inverse inside c.args.before c.width-width.result c.requires.before (subst (IsWidth p _ _) (sym c.width-width.ensures) c.in_ok-best.ensures.width)
