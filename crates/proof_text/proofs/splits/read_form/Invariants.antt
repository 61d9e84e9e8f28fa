use Rattle.std.proofs.Common.{◌≡◌, ◌^◌, ◌++◌, length, All}
use Rattle.proof_tree.specs.Trees.{IsOfSize}
use Rattle.proof_text.specs.Spelling.{form_words}
use Rattle.proof_text.proofs.SplitReads.{Leads}
use Rattle.proof_text.proofs.splits.read_form.Given as goal

-- the factors so far are spelled by the words in front of those that are left, which lead on to every form
abbrev pub invariant-loop-column : goal.invariant-loop-column
invariant-loop-column l =
    record {
      spelled : l.fn.words ≡ form_words 0 l.form.items ++ l.words;
      dense : length l.form.items ≡ l.column;
      factors : All (IsOfSize (2 ^ 96)) l.form.items;
      leads : Leads l.fn.words l.words l.columns l.column;
    }
