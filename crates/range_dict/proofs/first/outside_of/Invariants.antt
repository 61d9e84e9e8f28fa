use Rattle.std.proofs.Common.{◌≡◌, vec_len}
use Rattle.range_dict.proofs.first.outside_of.Given as goal

abbrev pub invariant-loop-j : goal.invariant-loop-j
invariant-loop-j l = vec_len l.outside ≡ l.j
