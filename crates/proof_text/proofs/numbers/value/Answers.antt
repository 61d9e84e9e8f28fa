use Rattle.std.proofs.Common.{refl}
use Rattle.proof_text.proofs.ReadLaws.{too_large}
use Rattle.proof_text.proofs.numbers.value.Goals as goal

pub returns-in_err-value : goal.returns-in_err-value
returns-in_err-value c = rw c.from_residual.ensures (too_large c.args.digits.now c.loop-digit.value c.loop-digit.digit-index _ c.loop-digit-test.true refl c.loop-digit.invariant.so_far c.in_err-value.ensures)
