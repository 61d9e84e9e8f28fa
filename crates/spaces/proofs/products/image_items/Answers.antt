use Rattle.std.proofs.Common.{◌<◌, ◌≤◌, pos, get_or, SFits, ◌∙◌, rules, arith, to_z-of_z, below_more}
use Rattle.std.specs.Int.{w128}
use Rattle.spaces.proofs.SumSteps.{image_more, image_all}
use Rattle.spaces.proofs.products.image_items.Goals as goal

pub loop-i-preserved : goal.loop-i-preserved
loop-i-preserved g c =
    let fb : SFits w128 (get_or c.args.base.now c.loop-i.i (pos 0)) = search rules in
    let fi : SFits w128 c.in-Some.item = search rules in
    let below : c.loop-i.i < c.args.lines.now.rows = omega (arith, c.requires.as_many, c.loop-i-test.true) in
    let told = rw c.row.ensures.value at (simp to_z-of_z at c.in-Some.ensures) in
    let pushed = simp to_z-of_z at c.in_ok-push.ensures.items in
    record {
      done = pushed ∙ image_more c.args.base.now c.args.lines.now c.args.x.now _ c.loop-i.i c.in-Some.item c.requires.as_many below told.1 c.loop-i.invariant.done;
      in_range = below_more _ _ c.loop-i.invariant.in_range told.0;
    }

pub returns-clause-ok : goal.returns-clause-ok
returns-clause-ok g c =
    let past : c.args.lines.now.rows ≤ c.loop-i.i = omega (arith, c.requires.as_many, c.loop-i-test.false) in
    image_all c.args.base.now c.args.lines.now c.args.x.now _ c.loop-i.i c.requires.as_many past c.loop-i.invariant.done
