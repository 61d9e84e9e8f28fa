use Rattle.std.proofs.Common.{ap, sym, ◌∙◌, ◌++◌, map}
use Rattle.proof_text.specs.Spelling.{use_word}
use Rattle.proof_text.proofs.LineReads.{next_use}
use Rattle.proof_text.proofs.multipliers.read_uses.Goals as goal

pub returns-in_default-read_use : goal.returns-in_default-read_use
returns-in_default-read_use c = λ items ranged spelled.
    let next = next_use c.loop-word.items items c.in-Some.word.now c.next.new.self ranged (ap (λ w. map use_word c.loop-word.items ++ w) (sym c.in-Some.ensures) ∙ sym c.loop-word.invariant.spelled ∙ spelled) in
    c.in_default-read_use.ensures next.0 next.1 next.2
