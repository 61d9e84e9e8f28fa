use Rattle.std.proofs.Common.{ℕ, ◌<◌, vec_len}
use Rattle.std.specs.Prelude.{IfSome}
use Rattle.range_dict.specs.declared.steps.Step.{Step}
use Rattle.range_dict.proofs.dict.RangeDict.farthest.Given as goal

abbrev pub invariant-loop-i : goal.invariant-loop-i
invariant-loop-i l = IfSome l.best (λ (step : Step). IfSome step.row (λ (row : ℕ). row < vec_len l.self.basic))
