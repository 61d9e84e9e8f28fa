use Rattle.std.proofs.Common.{subst}
use Rattle.lattice_reduce.proofs.CopySteps.{excused_end, moved_end, reduces_end}
use Rattle.lattice_reduce.specs.States.{SettledTo}
use Rattle.lattice_reduce.proofs.lattice.reduction_of.Goals as goal

pub returns-in-Ok-clause-settled : goal.returns-in-Ok-clause-settled
returns-in-Ok-clause-settled g c =
    subst (SettledTo c.run.new.self.basis c.run.new.self.numbers) c.in_ok-reduction.ensures.height c.in-Ok.ensures.settled

pub returns-in-Ok-clause-legal : goal.returns-in-Ok-clause-legal
returns-in-Ok-clause-legal g c =
    reduces_end c.in_ok-reduction.reduction.basis c.run.new.self.basis c.args.basis.now c.in_ok-reduction.reduction.pair c.run.new.self.pair c.in_ok-reduction.reduction.steps c.run.new.self.steps c.in_ok-reduction.ensures.width c.in_ok-reduction.ensures.rows c.in_ok-reduction.ensures.steps c.in-Ok.ensures.moved

pub returns-in-Ok-clause-pair : goal.returns-in-Ok-clause-pair
returns-in-Ok-clause-pair g c =
    moved_end c.in_ok-reduction.reduction.basis c.run.new.self.basis c.args.basis.now c.in_ok-reduction.reduction.pair c.run.new.self.pair c.in_ok-reduction.reduction.steps c.run.new.self.steps c.in_ok-reduction.ensures.pair c.in_ok-reduction.ensures.steps c.in-Ok.ensures.moved

pub returns-in-Err-Wide-clause-stop : goal.returns-in-Err-Wide-clause-stop
returns-in-Err-Wide-clause-stop g c =
    excused_end c.in_ok-reduction.reduction.basis c.args.basis.now c.in_ok-reduction.reduction.pair c.in_ok-reduction.reduction.steps c.run.new.self.steps c.in_ok-reduction.ensures.width c.in_ok-reduction.ensures.rows c.in_ok-reduction.ensures.pair c.in_ok-reduction.ensures.steps (c.in-Err-Wide.ensures.wide c.in-Err-Wide.field-0-is)
