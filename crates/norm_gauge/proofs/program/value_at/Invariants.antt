use Rattle.lp_dict.specs.Systems.{wholes}
use Rattle.norm_gauge.proofs.SumSteps.{IsSummed}
use Rattle.norm_gauge.proofs.program.value_at.Given as goal

abbrev pub invariant-loop-j : goal.invariant-loop-j
invariant-loop-j l = IsSummed (wholes l.form) l.point l.sum l.j
