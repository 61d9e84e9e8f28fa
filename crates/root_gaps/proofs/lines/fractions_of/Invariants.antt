use Rattle.std.proofs.Common.{◌≡◌, take}
use Rattle.lp_dict.specs.Systems.{wholes}
use Rattle.root_gaps.proofs.lines.fractions_of.Given as goal

abbrev pub invariant-loop-number : goal.invariant-loop-number
invariant-loop-number l = l.fractions.items ≡ wholes (take l.number-index l.numbers)
