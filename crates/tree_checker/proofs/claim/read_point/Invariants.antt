use Rattle.std.proofs.Common.{length}
use Rattle.tree_checker.proofs.ClaimLaws.{IsPartOfPoint}
use Rattle.tree_checker.proofs.claim.read_point.Given as goal

abbrev pub invariant-loop-word : goal.invariant-loop-word
invariant-loop-word l = IsPartOfPoint l.fn.words l.words l.point l.filled

abbrev pub decreases-loop-word : goal.decreases-loop-word
decreases-loop-word l = length l.words
