use Rattle.std.proofs.Common.{◌≡◌, [], ◌∷◌, map, length, get_or}
use Rattle.exact_math.specs.RationalRing.{rationals}
use Rattle.exact_vectors.specs.Vectors.{negate}
use Rattle.lp_dict.specs.Dictionaries.{one, numbers_from}
use Rattle.lp_solve.specs.Values.{value_of}
use Rattle.lp_solve.proofs.finish.multipliers_of_row.Given as goal

abbrev pub invariant-loop-i : goal.invariant-loop-i
invariant-loop-i l = l.weights ≡ map (value_of (get_or l.dict.basic l.row 0 ∷ l.dict.outside) (one ∷ negate rationals (get_or l.dict.rows l.row []))) (numbers_from (length l.dict.outside) l.i)
