use Rattle.proof_text.proofs.ReadLaws.{no_negative, no_minus_zero}
use Rattle.proof_text.proofs.numbers.read_number.Goals as goal

pub returns-in_err-size-in-Some : goal.returns-in_err-size-in-Some
returns-in_err-size-in-Some c = rw c.from_residual-in_err-size-in-Some.ensures (no_negative c.args.word.now c.in-Some.digits.now c.in-Some.ensures c.in_err-size-in-Some.ensures)

pub returns-then-size-eq0 : goal.returns-then-size-eq0
returns-then-size-eq0 c = no_minus_zero c.args.word.now c.in-Some.digits.now c.in_ok-size-in-Some.size c.in-Some.ensures c.in_ok-size-in-Some.ensures c.if-size-eq0.true
