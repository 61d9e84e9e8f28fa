use Rattle.std.proofs.Common.{◌≡◌, map}
use Rattle.lp_dict.specs.Dictionaries.{numbers_from}
use Rattle.lp_solve.specs.Values.{value_of, constants}
use Rattle.lp_solve.proofs.finish.vertex_of.Given as goal

abbrev pub invariant-loop-v : goal.invariant-loop-v
invariant-loop-v l = l.point ≡ map (value_of l.dict.basic (constants l.dict)) (numbers_from 0 l.v)
