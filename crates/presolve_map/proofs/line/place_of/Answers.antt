use Rattle.std.proofs.Common.{◌<◌, arith, get_or, ap, below_more}
use Rattle.std.proofs.lemmas.List.{get_or-map}
use Rattle.farkas_rows.specs.declared.fracs.FracUse.{FracUse}
use Rattle.presolve_map.specs.LiftedLines.{numbers_of}
use Rattle.presolve_map.proofs.line.place_of.Goals as goal

pub loop-i-preserved : goal.loop-i-preserved
loop-i-preserved c =
    let other = c.requires c.loop-i.i c.index-items-i.result c.loop-i-test.true in
    let number = get_or-map (λ (item : FracUse). item.index) c.args.items.now c.loop-i.i c.index-items-i.result 0 c.loop-i-test.true in
    let same = ap (λ (item : FracUse). item.index) c.index-items-i.is in
    below_more (λ k. get_or (numbers_of c.args.items.now) k 0 < c.args.number) c.loop-i.i c.loop-i.invariant (omega (arith, other, number, same, c.if-items-i.false))
