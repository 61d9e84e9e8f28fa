use Rattle.std.proofs.Common.{◌≡◌}
use Rattle.lp_dict.specs.Dictionaries.{numbers_from}
use Rattle.lp_dict.proofs.first.variables.Given as goal

abbrev pub invariant-loop-i : goal.invariant-loop-i
invariant-loop-i l = l.numbers.items ≡ numbers_from l.first l.i
