use Rattle.std.proofs.Common.{◌<◌, pos, get_or, SFits, inl, sym, ◌∙◌, ap, subst, rules, arith, to_z-of_z}
use Rattle.std.specs.Int.{w128}
use Rattle.spaces.proofs.SumSteps.{left_range, next_range, next_total, end_range, end_total, rest_of, rest_of_column, none_left}
use Rattle.exact_nodes.proofs.forms.column_sum.Goals as goal

pub returns : goal.returns
returns c =
    let e = none_left c.args.factors.now c.loop-k.k c.loop-k-test.false in
    (c.loop-k.invariant.same_range.1 (end_range _ _ _ (inl e)), end_total _ _ _ _ (inl e) c.loop-k.invariant.total)

pub returns-in_err-sum : goal.returns-in_err-sum
returns-in_err-sum c =
    let k = c.loop-k.k in
    let below : k < c.args.lines.now.rows = omega (arith, c.requires.size, c.loop-k-test.true) in
    let v = rest_of c.args.factors.now k c.loop-k-test.true in
    let w = rest_of_column c.args.lines.now c.args.place k (get_or c.row.result.now c.args.place (pos 0)) below (ap (λ l. get_or l c.args.place (pos 0)) c.row.ensures.value) in
    let fp : SFits w128 (get_or c.args.factors.now k (pos 0)) = search rules in
    let fq : SFits w128 (get_or c.row.result.now c.args.place (pos 0)) = search rules in
    let refused = simp to_z-of_z at c.in_err-sum.ensures in
    rw c.from_residual.ensures (λ h. let s = (left_range _ _ _ _ _ _ _ v w).0 (c.loop-k.invariant.same_range.0 h) in refused (s.0, s.1))

pub loop-k-preserved : goal.loop-k-preserved
loop-k-preserved c =
    let k = c.loop-k.k in
    let below : k < c.args.lines.now.rows = omega (arith, c.requires.size, c.loop-k-test.true) in
    let v = rest_of c.args.factors.now k c.loop-k-test.true in
    let w = rest_of_column c.args.lines.now c.args.place k (get_or c.row.result.now c.args.place (pos 0)) below (ap (λ l. get_or l c.args.place (pos 0)) c.row.ensures.value) in
    let fp : SFits w128 (get_or c.args.factors.now k (pos 0)) = search rules in
    let fq : SFits w128 (get_or c.row.result.now c.args.place (pos 0)) = search rules in
    let added = simp to_z-of_z at c.in_ok-sum.ensures in
    let fits : SFits w128 c.in_ok-sum.sum = subst (SFits w128) (sym added.1) added.0.1 in
    let is = to_z-of_z fits ∙ added.1 in
    record {
      same_range = next_range _ _ _ _ _ _ _ _ _ v w added.0 is c.loop-k.invariant.same_range;
      total = next_total _ _ _ _ _ _ _ _ _ v w is c.loop-k.invariant.total;
    }
