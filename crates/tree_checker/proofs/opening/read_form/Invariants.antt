use Rattle.std.proofs.Common.{length}
use Rattle.tree_checker.proofs.OpeningLaws.{IsPartOfForm}
use Rattle.tree_checker.proofs.opening.read_form.Given as goal

abbrev pub invariant-loop-next : goal.invariant-loop-next
invariant-loop-next l = IsPartOfForm (length l.fn.form) l.fn.words l.words l.form l.next

abbrev pub decreases-loop-next : goal.decreases-loop-next
decreases-loop-next l = length l.words
