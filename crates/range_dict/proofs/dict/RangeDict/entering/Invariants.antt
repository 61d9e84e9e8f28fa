use Rattle.std.proofs.Common.{ℕ, ◌<◌, vec_len}
use Rattle.std.specs.Prelude.{IfSome}
use Rattle.range_dict.proofs.dict.RangeDict.entering.Given as goal

abbrev pub invariant-loop-j : goal.invariant-loop-j
invariant-loop-j l = IfSome l.best (λ (column : ℕ). column < vec_len l.self.outside)
