use Rattle.std.proofs.Common.{◌≡◌, ◌++◌, map, take}
use Rattle.std.specs.Fmt.{signed_decimal}
use Rattle.proof_text.specs.Spelling.{further}
use Rattle.proof_text.proofs.print.push_numbers.Given as goal

-- the numbers so far stand behind the text
abbrev pub invariant-loop-number : goal.invariant-loop-number
invariant-loop-number l = l.text.items ≡ l.initial.text.items ++ further (map signed_decimal (take l.number-index l.numbers))
