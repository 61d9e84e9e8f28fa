use Rattle.std.proofs.Common.{◌≡◌, vec_len}
use Rattle.range_dict.proofs.first.basic_of.Given as goal

abbrev pub invariant-loop-i : goal.invariant-loop-i
invariant-loop-i l = vec_len l.basic ≡ l.i
