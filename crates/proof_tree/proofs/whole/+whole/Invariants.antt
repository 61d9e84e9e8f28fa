use Rattle.std.specs.List.{AllZip}
use Rattle.proof_tree.specs.Whole.{IsWholeOf}
use Rattle.proof_tree.proofs.whole.+whole.Given as goal

abbrev pub invariant-whole_forest-loop-part : goal.invariant-whole_forest-loop-part
invariant-whole_forest-loop-part l = AllZip IsWholeOf l.yielded l.trees.items
