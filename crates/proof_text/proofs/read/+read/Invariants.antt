use Rattle.std.proofs.Common.{◌≡◌, ◌+◌, ◌*◌, ◌++◌, pos, ◌+ℤ◌, ◌≤ℤ◌, length, All}
use Rattle.std.specs.Prelude.{flat_map}
use Rattle.proof_text.specs.Spelling.{tree_lines}
use Rattle.proof_text.specs.Printable.{IsPrintableTree}
use Rattle.proof_text.specs.Reads.{some_path}
use Rattle.proof_text.proofs.read.+read.Given as goal

abbrev pub decreases-read_tree : goal.decreases-read_tree
decreases-read_tree l = 2 * length l.lines.now

abbrev pub decreases-read_trees : goal.decreases-read_trees
decreases-read_trees l = 2 * length l.lines.now + 1

-- the trees so far are spelled by the lines in front of those that are left
abbrev pub invariant-read_trees-loop-left : goal.invariant-read_trees-loop-left
invariant-read_trees-loop-left l =
    record {
      spelled : l.initial.lines ≡ flat_map tree_lines l.trees.items ++ l.lines;
      counted : pos (length l.trees.items) +ℤ l.left ≡ l.count;
      positive : pos 0 ≤ℤ l.left;
      printable : All (IsPrintableTree l.rows (some_path l.depth)) l.trees.items;
    }

abbrev pub decreases-read_trees-loop-left : goal.decreases-read_trees-loop-left
decreases-read_trees-loop-left l = length l.lines
