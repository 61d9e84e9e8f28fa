use Rattle.std.proofs.Common.{◌≡◌, ◌^◌, ◌++◌, length, map, All}
use Rattle.std.specs.Fmt.{signed_decimal}
use Rattle.proof_tree.specs.Trees.{IsOfSize}
use Rattle.proof_text.proofs.heads.read_values.Given as goal

-- the values so far are in their range, and are spelled by the words in front of those that are left
abbrev pub invariant-loop-word : goal.invariant-loop-word
invariant-loop-word l = record { spelled : l.fn.words ≡ map signed_decimal l.values.items ++ l.words; ranged : All (IsOfSize (2 ^ 96)) l.values.items }

abbrev pub decreases-loop-word : goal.decreases-loop-word
decreases-loop-word l = length l.words
