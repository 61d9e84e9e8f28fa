use Rattle.std.proofs.Common.{◌≡◌, ◌++◌, take}
use Rattle.proof_text.specs.Spelling.{further, form_words}
use Rattle.proof_text.proofs.print.push_form.Given as goal

-- the factors so far stand behind the text
abbrev pub invariant-loop-column : goal.invariant-loop-column
invariant-loop-column l = l.text.items ≡ l.initial.text.items ++ further (form_words 0 (take l.column l.form))
