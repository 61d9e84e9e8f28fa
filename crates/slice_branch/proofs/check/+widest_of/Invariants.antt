use Rattle.std.proofs.Common.{length}
use Rattle.slice_branch.proofs.check.+widest_of.Given as goal

abbrev pub decreases-widest_of : goal.decreases-widest_of
decreases-widest_of l = length l.bounds.now
