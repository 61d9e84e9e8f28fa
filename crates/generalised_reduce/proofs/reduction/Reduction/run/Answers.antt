use Rattle.std.proofs.Common.{◌≤◌, ◌+◌, arith, sym, subst}
use Rattle.norm_gauge.specs.Widths.{polytope_of}
use Rattle.generalised_reduce.specs.Reduced.{IsLovaszScarfReduced, forms_of}
use Rattle.generalised_reduce.proofs.TurnSteps.{all_reduced}
use Rattle.generalised_reduce.proofs.reduction.Reduction.run.Goals as goal

pub loop-k-init : goal.loop-k-init
loop-k-init c = record {
  stands = c.requires.stands;
  inside = c.requires.ready.some;
  count = c.width-count.ensures.count;
  reduced = λ i lt. absurd (omega arith);
}

pub loop-k-preserved : goal.loop-k-preserved
loop-k-preserved c = record {
  stands = c.in_ok-k.ensures.stands;
  inside = c.in_ok-k.ensures.inside;
  count = c.loop-k.invariant.count;
  reduced = c.in_ok-k.ensures.reduced;
}

pub loop-k-smaller : goal.loop-k-smaller
loop-k-smaller c = c.in_ok-k.ensures.falls

pub returns-clause-reduced : goal.returns-clause-reduced
returns-clause-reduced c =
    let p = polytope_of c.args.system.now.rows c.args.system.now.limits in
    let inv = c.loop-k.invariant in
    let end : p.coordinates ≤ c.loop-k.k + 1 = omega (arith, c.loop-k-test.false, inv.count) in
    subst (λ m. IsLovaszScarfReduced p (forms_of m)) (sym c.in_ok-fill.ensures.pair) (all_reduced p c.loop-k.self.pair c.loop-k.k inv.stands.fits.inverse end inv.reduced)
