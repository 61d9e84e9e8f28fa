use Rattle.std.proofs.Common.{◌≡◌, [], map, length, get_or}
use Rattle.lp_dict.specs.Dictionaries.{numbers_from}
use Rattle.lp_solve.specs.Values.{value_of}
use Rattle.lp_solve.proofs.finish.multipliers_of_form.Given as goal

abbrev pub invariant-loop-i : goal.invariant-loop-i
invariant-loop-i l = l.weights ≡ map (value_of l.dict.outside (get_or l.dict.rows (length l.dict.basic) [])) (numbers_from (length l.dict.outside) l.i)
