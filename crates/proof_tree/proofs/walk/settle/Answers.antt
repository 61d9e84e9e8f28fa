use Rattle.proof_tree.proofs.Settling.{settles-from, improves-from, room-after}
use Rattle.proof_tree.proofs.Values.{best-small}
use Rattle.proof_tree.proofs.walk.settle.Goals as goal

pub work-requires-clause-best : goal.work-requires-clause-best
work-requires-clause-best g c =
    rw c.best_value.ensures (best-small c.args.rows.now c.loop-line.walk.best c.requires.limits c.loop-line.invariant.stays.best.known)

pub returns-in-Split-clause-settled : goal.returns-in-Split-clause-settled
returns-in-Split-clause-settled g c =
    settles-from _ _ _ _ _ _ _ _ _ _ _ _ _ c.loop-line.invariant.works c.loop-line.invariant.stays.path c.best_value.ensures c.in-Split.is c.in_ok-line.ensures.chosen c.in_ok-line.ensures.allowed

pub loop-line-smaller : goal.loop-line-smaller
loop-line-smaller g c =
    room-after c.args.rows.now _ c.loop-line.walk c.record.new.self c.in-Point.point c.requires.limits
    (improves-from _ _ _ _ _ _ _ _ _ _ c.loop-line.invariant.works c.loop-line.invariant.stays.path c.best_value.ensures c.in-Point.is c.in_ok-line.ensures.chosen)
    c.record.ensures
