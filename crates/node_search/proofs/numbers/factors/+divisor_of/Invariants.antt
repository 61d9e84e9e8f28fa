use Rattle.std.proofs.Common.{length}
use Rattle.node_search.proofs.numbers.factors.+divisor_of.Given as goal

abbrev pub decreases-divisor_of : goal.decreases-divisor_of
decreases-divisor_of l = length l.factors.now
