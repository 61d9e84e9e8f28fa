use Rattle.std.proofs.Common.{◌≡◌, ◌++◌, map, take}
use Rattle.proof_text.specs.Spelling.{further, use_word}
use Rattle.proof_text.proofs.print.push_uses.Given as goal

-- the items so far stand behind the text
abbrev pub invariant-loop-item : goal.invariant-loop-item
invariant-loop-item l = l.text.items ≡ l.initial.text.items ++ further (map use_word (take l.item-index l.items))
