use Rattle.std.proofs.Common.{refl}
use Rattle.proof_text.proofs.LineReads.{use_no_cut, nothing_no_cut}
use Rattle.proof_text.proofs.multipliers.take_cut.Goals as goal

pub returns-in-Some-Inequality : goal.returns-in-Some-Inequality
returns-in-Some-Inequality c = (
  refl,
  use_no_cut c.in_ok-word.word.now c.args.words.now c.next.new.self c.in-Some-Inequality.field-0-0 (rw c.in-Some-Inequality.field-0-is at c.in-Some-Inequality.ensures) (cc (c.again-rest.ensures, c.in_ok-word.ensures)),
)

pub returns-in-None : goal.returns-in-None
returns-in-None c = (refl, nothing_no_cut c.in_ok-word.word.now c.args.words.now c.next.new.self c.in-None.ensures (cc (c.again-rest.ensures, c.in_ok-word.ensures)))
