use Rattle.std.proofs.Common.{inl, sym, subst, refl}
use Rattle.reformulate.proofs.TakingSteps.{pull_back_stays}
use Rattle.spaces.specs.Maps.{AffineMap, PullBackStays}
use Rattle.node_slices.proofs.slices.turn.Goals as goal

pub returns-in-Err-Wide-clause-stop : goal.returns-in-Err-Wide-clause-stop
returns-in-Err-Wide-clause-stop c =
    let wide = rw c.in-Err-Wide.field-0-is at c.in-Err-Wide.ensures.stop in
    rw c.no_step-in-Err-Wide.ensures
    (refl, inl (λ stays. wide (subst (λ (map : AffineMap). PullBackStays map c.args.work.now) (sym c.to_work.ensures.value) (pull_back_stays c.args.frame.now c.args.work.now c.to_work.ensures.shaped stays))))
