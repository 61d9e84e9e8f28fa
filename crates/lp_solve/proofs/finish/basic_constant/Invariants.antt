use Rattle.std.proofs.Common.{◌≡◌, drop}
use Rattle.lp_solve.specs.Values.{value_of, constants}
use Rattle.lp_solve.proofs.finish.basic_constant.Given as goal

abbrev pub invariant-loop-i : goal.invariant-loop-i
invariant-loop-i l = value_of (drop l.i l.dict.basic) (drop l.i (constants l.dict)) l.variable ≡ value_of l.dict.basic (constants l.dict) l.variable
