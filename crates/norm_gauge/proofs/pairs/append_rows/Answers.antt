use Rattle.std.proofs.Common.{◌<◌, ◌≤◌, rules, arith, SFits, to_z-of_z}
use Rattle.std.specs.Int.{w128}
use Rattle.norm_gauge.specs.PairTables.{pair_row}
use Rattle.norm_gauge.proofs.PairSteps.{mapped_more, mapped_all}
use Rattle.norm_gauge.proofs.pairs.append_rows.Goals as goal

pub loop-k-preserved : goal.loop-k-preserved
loop-k-preserved c =
    let before : c.loop-k.k < c.args.rows.now.rows = omega (arith, c.rows-k-end.ensures.count, c.loop-k-test.true) in
    mapped_more _ c.args.rows.now c.args.items.now.items c.loop-k.items.items c.append_row.new.items.items c.row.result.now c.loop-k.k before c.row.ensures.value c.loop-k.invariant c.in_ok-append_row.ensures

pub returns : goal.returns
returns c =
    let first : SFits w128 c.args.first = search rules in
    let second : SFits w128 c.args.second = search rules in
    let past : c.args.rows.now.rows ≤ c.loop-k.k = omega (arith, c.rows-k-end.ensures.count, c.loop-k-test.false) in
    mapped_all (pair_row c.args.first c.args.second) c.args.rows.now c.args.items.now.items c.loop-k.items.items c.loop-k.k past (simp to_z-of_z at c.loop-k.invariant)
