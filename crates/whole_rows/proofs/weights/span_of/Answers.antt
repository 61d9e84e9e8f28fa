use Rattle.std.proofs.Common.{rules, ◌+◌, ◌*◌, ◌<◌, length, pos, get_or, nat_abs, FitsSigned, ap, arith}
use Rattle.std.specs.Int.{w128}
use Rattle.std.proofs.lemmas.Int.{to_z-of_z}
use Rattle.whole_rows.specs.WeightLaws.{span-take_more, span-take_le}
use Rattle.whole_rows.proofs.weights.span_of.Goals as goal

pub returns-in_err-sum : goal.returns-in_err-sum
returns-in_err-sum c =
    let h : c.loop-j.j < length c.args.factors.now = omega (arith, c.requires) in
    let fits : FitsSigned w128 (get_or c.args.factors.now c.loop-j.j (pos 0)) = search rules in
    let heavy = simp to_z-of_z at c.in_err-sum.ensures in
    let more = span-take_more c.loop-j.j c.args.factors.now c.args.columns.now (pos 0) (record { low = pos 0; high = pos 0 }) h c.loop-j-test.true in
    let all = span-take_le (c.loop-j.j + 1) c.args.factors.now c.args.columns.now in
    let term = ap (λ reach. nat_abs (get_or c.args.factors.now c.loop-j.j (pos 0)) * reach) c.reach.ensures in
    rw c.from_residual.ensures (λ light. heavy (omega (arith, light, more, all, term, c.loop-j.invariant.value)))

pub loop-j-preserved : goal.loop-j-preserved
loop-j-preserved c =
    let h : c.loop-j.j < length c.args.factors.now = omega (arith, c.requires) in
    let fits : FitsSigned w128 (get_or c.args.factors.now c.loop-j.j (pos 0)) = search rules in
    let found = simp to_z-of_z at c.in_ok-sum.ensures in
    let more = span-take_more c.loop-j.j c.args.factors.now c.args.columns.now (pos 0) (record { low = pos 0; high = pos 0 }) h c.loop-j-test.true in
    let term = ap (λ reach. nat_abs (get_or c.args.factors.now c.loop-j.j (pos 0)) * reach) c.reach.ensures in
    record { value = omega (arith, found.1, more, term, c.loop-j.invariant.value); light = omega (arith, found.0, found.1) }
