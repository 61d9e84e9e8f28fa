use Rattle.std.proofs.Common.{SFits, sym, ◌∙◌, subst, rules, to_z-of_z}
use Rattle.std.specs.Int.{w128}
use Rattle.std.proofs.lemmas.Slice.Zip.{Zip-more, either_empty_from_Zip}
use Rattle.spaces.proofs.SumSteps.{left_range, next_range, next_total, end_range, end_total}
use Rattle.spaces.proofs.products.sum_from.Goals as goal

pub returns : goal.returns
returns c =
    let fb : SFits w128 c.args.base = c.ranges.base in
    let same = simp to_z-of_z at c.loop-p.invariant in
    let e = either_empty_from_Zip c.loop-p.p-iterator c.next.new.self c.next.result c.in-None.is c.next.ensures.steps in
    (same.same_range.1 (end_range _ _ _ e), end_total _ _ _ _ e same.total)

pub returns-in_err-sum : goal.returns-in_err-sum
returns-in_err-sum c =
    let fb : SFits w128 c.args.base = c.ranges.base in
    let m = Zip-more c.loop-p.p-iterator c.next.new.self c.next.result (c.in-Some.p, c.in-Some.q) c.in-Some.is c.next.ensures.steps in
    let fp : SFits w128 c.in-Some.p.now = search rules in
    let fq : SFits w128 c.in-Some.q.now = search rules in
    let refused = simp to_z-of_z at c.in_err-sum.ensures in
    let same = simp to_z-of_z at c.loop-p.invariant.same_range in
    rw c.from_residual.ensures (λ h. let k = (left_range _ _ _ _ _ _ _ m.0 m.1).0 (same.0 h) in refused (k.0, k.1))

pub loop-p-preserved : goal.loop-p-preserved
loop-p-preserved c =
    let fb : SFits w128 c.args.base = c.ranges.base in
    let m = Zip-more c.loop-p.p-iterator c.next.new.self c.next.result (c.in-Some.p, c.in-Some.q) c.in-Some.is c.next.ensures.steps in
    let fp : SFits w128 c.in-Some.p.now = search rules in
    let fq : SFits w128 c.in-Some.q.now = search rules in
    let added = simp to_z-of_z at c.in_ok-sum.ensures in
    let fits : SFits w128 c.in_ok-sum.sum = subst (SFits w128) (sym added.1) added.0.1 in
    let is = to_z-of_z fits ∙ added.1 in
    record {
      same_range = next_range _ _ _ _ _ _ _ _ _ m.0 m.1 added.0 is c.loop-p.invariant.same_range;
      total = next_total _ _ _ _ _ _ _ _ _ m.0 m.1 is c.loop-p.invariant.total;
    }
