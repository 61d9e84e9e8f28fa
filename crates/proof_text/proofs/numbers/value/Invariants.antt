use Rattle.std.proofs.Common.{◌≡◌, ◌^◌, ◌≤◌, drop}
use Rattle.proof_text.specs.Numbers.{continued}
use Rattle.proof_text.proofs.numbers.value.Given as goal

abbrev pub invariant-loop-digit : goal.invariant-loop-digit
invariant-loop-digit l = record { so_far : continued l.value (drop l.digit-index l.digits) ≡ continued 0 l.digits; small : l.value ≤ 2 ^ 126 }
