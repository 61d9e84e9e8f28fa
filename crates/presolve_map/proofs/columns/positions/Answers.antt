use Rattle.std.proofs.Common.{◌+◌, ◌∷◌, [], drop, append_assoc}
use Rattle.std.proofs.lemmas.List.{append-nil}
use Rattle.presolve_map.specs.Selections.{positions}
use Rattle.presolve_map.proofs.SelectLaws.{positions-set, positions-unset, positions-end}
use Rattle.presolve_map.proofs.columns.positions.Goals as goal
use Rattle.presolve_map.proofs.columns.positions.Goals.{then-flags-i+in_ok-push, else-flags-i}

pub loop-i-preserved : goal.loop-i-preserved
loop-i-preserved c =
    elim c.if-flags-i.branch [
      | then-flags-i+in_ok-push w ↦ cc (append_assoc c.loop-i.numbers.items (c.loop-i.i ∷ []) (positions (c.loop-i.i + 1) (drop (c.loop-i.i + 1) c.args.flags.now)), positions-set c.args.flags.now c.loop-i.i c.loop-i.i _ c.loop-i-test.true w.if-flags-i.true, w.in_ok-push.ensures.items, w.numbers-is, c.loop-i.invariant)
      | else-flags-i w ↦ cc (positions-unset c.args.flags.now c.loop-i.i c.loop-i.i _ c.loop-i-test.true w.if-flags-i.false, w.numbers-is, c.loop-i.invariant)
    ]

pub returns : goal.returns
returns c = cc (positions-end c.args.flags.now c.loop-i.i c.loop-i.i c.loop-i-test.false, append-nil c.loop-i.numbers.items, c.loop-i.invariant)
