use Rattle.std.proofs.lemmas.Bool.{iff_false}
use Rattle.proof_text.specs.Shapes.{IsPair}
use Rattle.proof_text.proofs.ShapeLaws.{tells_more, tells_not}
use Rattle.proof_text.proofs.shapes.are_all_pairs.Goals as goal

pub returns-then-not-is_pair : goal.returns-then-not-is_pair
returns-then-not-is_pair c = (λ t. absurd cc, λ h. absurd (tells_not IsPair _ _ _ _ c.in-Some.ensures (iff_false c.is_pair.ensures c.if-not-is_pair.true) c.loop-word.invariant h))

pub loop-word-preserved : goal.loop-word-preserved
loop-word-preserved c = tells_more IsPair _ _ _ _ c.in-Some.ensures (c.is_pair.ensures.0 c.if-not-is_pair.false) c.loop-word.invariant
