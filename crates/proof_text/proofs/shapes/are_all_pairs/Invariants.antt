use Rattle.std.proofs.Common.{length}
use Rattle.proof_text.specs.Shapes.{IsPair}
use Rattle.proof_text.proofs.ShapeLaws.{Tells}
use Rattle.proof_text.proofs.shapes.are_all_pairs.Given as goal

abbrev pub invariant-loop-word : goal.invariant-loop-word
invariant-loop-word l = Tells IsPair l.fn.words l.words

abbrev pub decreases-loop-word : goal.decreases-loop-word
decreases-loop-word l = length l.words
