use Rattle.mps_fields.proofs.DigitLaws.{IsContinued}
use Rattle.mps_fields.proofs.decimal_value.continued.Given as goal

abbrev pub invariant-loop-digit : goal.invariant-loop-digit
invariant-loop-digit l = IsContinued l.number l.digits l.value l.digit-index
