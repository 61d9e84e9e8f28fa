use Rattle.std.proofs.Common.{◌+◌, ◌∷◌, [], ◌<◌, drop, length, append_assoc, arith}
use Rattle.std.proofs.lemmas.List.{append-nil}
use Rattle.presolve_map.specs.Selections.{select}
use Rattle.presolve_map.proofs.SelectLaws.{select-set, select-unset, select-end}
use Rattle.presolve_map.proofs.columns.append_selected.Goals as goal
use Rattle.presolve_map.proofs.columns.append_selected.Goals.{then-flags-i+in_ok-push, else-flags-i}

pub loop-i-preserved : goal.loop-i-preserved
loop-i-preserved g c =
    let k : c.loop-i.i < length c.args.from.now = omega (arith, c.requires, c.loop-i-test.true) in
    elim c.if-flags-i.branch [
      | then-flags-i+in_ok-push w ↦ cc (append_assoc c.loop-i.items.items (w.index-from-i.result ∷ []) (select (drop (c.loop-i.i + 1) c.args.flags.now) (drop (c.loop-i.i + 1) c.args.from.now)), select-set c.args.flags.now c.args.from.now c.loop-i.i _ w.index-from-i.result c.loop-i-test.true k w.if-flags-i.true, w.index-from-i.is, w.in_ok-push.ensures.items, w.items-is, c.loop-i.invariant)
      | else-flags-i w ↦ cc (select-unset c.args.flags.now c.args.from.now c.loop-i.i _ c.loop-i-test.true k w.if-flags-i.false, w.items-is, c.loop-i.invariant)
    ]

pub returns : goal.returns
returns g c = cc (select-end c.args.flags.now c.args.from.now c.loop-i.i c.loop-i-test.false, append-nil c.loop-i.items.items, c.loop-i.invariant)
