use Rattle.std.proofs.lemmas.Bool.{iff_false}
use Rattle.proof_text.specs.Shapes.{IsNumberWord}
use Rattle.proof_text.proofs.ShapeLaws.{tells_more, tells_not}
use Rattle.proof_text.proofs.shapes.are_all_numbers.Goals as goal

pub returns-then-not-is_number_word : goal.returns-then-not-is_number_word
returns-then-not-is_number_word c = (λ t. absurd cc, λ h. absurd (tells_not IsNumberWord _ _ _ _ c.in-Some.ensures (iff_false c.is_number_word.ensures c.if-not-is_number_word.true) c.loop-word.invariant h))

pub loop-word-preserved : goal.loop-word-preserved
loop-word-preserved c = tells_more IsNumberWord _ _ _ _ c.in-Some.ensures (c.is_number_word.ensures.0 c.if-not-is_number_word.false) c.loop-word.invariant
