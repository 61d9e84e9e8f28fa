use Rattle.std.proofs.Common.{◌<◌, ◌≤◌, SFits, ◌∙◌, rules, arith, to_z-of_z, below_more}
use Rattle.std.specs.Int.{w128}
use Rattle.spaces.proofs.SumSteps.{product_more, product_all}
use Rattle.spaces.proofs.products.append_product.Goals as goal

pub loop-j-preserved : goal.loop-j-preserved
loop-j-preserved g c =
    let fi : SFits w128 c.in-Some.item = search rules in
    let below : c.loop-j.j < c.args.lines.now.width = omega (arith, c.width-j-end.ensures.count, c.loop-j-test.true) in
    let pushed = simp to_z-of_z at c.in_ok-push.ensures.items in
    record {
      done = pushed ∙ product_more c.args.lines.now c.args.factors.now c.args.items.now.items _ c.loop-j.j c.in-Some.item c.width-j-end.ensures.size below c.in-Some.ensures.1 c.loop-j.invariant.done;
      in_range = below_more _ _ c.loop-j.invariant.in_range c.in-Some.ensures.0;
    }

pub returns-clause-ok : goal.returns-clause-ok
returns-clause-ok g c =
    let past : c.args.lines.now.width ≤ c.loop-j.j = omega (arith, c.width-j-end.ensures.count, c.loop-j-test.false) in
    product_all c.args.lines.now c.args.factors.now c.args.items.now.items _ c.loop-j.j c.width-j-end.ensures.size past c.loop-j.invariant.done
