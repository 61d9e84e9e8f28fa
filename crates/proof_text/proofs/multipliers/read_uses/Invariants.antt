use Rattle.std.proofs.Common.{◌≡◌, ◌++◌, length, map, All}
use Rattle.proof_text.specs.Spelling.{use_word}
use Rattle.proof_text.specs.Reads.{IsReadUse}
use Rattle.proof_text.proofs.multipliers.read_uses.Given as goal

-- the items so far are in their ranges, and are spelled by the words in front of those that are left
abbrev pub invariant-loop-word : goal.invariant-loop-word
invariant-loop-word l = record { spelled : l.fn.words ≡ map use_word l.items ++ l.words; ranged : All IsReadUse l.items }

abbrev pub decreases-loop-word : goal.decreases-loop-word
decreases-loop-word l = length l.words
