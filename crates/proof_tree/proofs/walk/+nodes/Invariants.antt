use Rattle.std.proofs.Common.{◌≡◌, ◌+◌, ◌*◌, ◌-ℤ◌}
use Rattle.proof_tree.specs.Moves.{nonnegative_part}
use Rattle.proof_tree.proofs.Slices.{SoFar}
use Rattle.proof_tree.proofs.walk.+nodes.Given as goal

abbrev pub decreases-work_node : goal.decreases-work_node
decreases-work_node g l = 2 * g.B.Brancher.height l.rows.now l.place l.walk.now.path + 1

abbrev pub decreases-work_slices : goal.decreases-work_slices
decreases-work_slices g l = 2 * g.B.Brancher.height l.rows.now l.place.now l.walk.now.path

abbrev pub invariant-work_slices-loop-worked : goal.invariant-work_slices-loop-worked
invariant-work_slices-loop-worked g l =
    record {
      works : g.B.Brancher.rows l.brancher ≡ l.rows;
      cut : l.cut ≡ l.initial.cut;
      so_far : SoFar (g.B.Brancher.allows l.rows) l.rows l.initial.cut (g.B.Brancher.height l.rows l.place l.initial.walk.path) l.initial.walk l.walk l.worked l.children.items;
    }

abbrev pub decreases-work_slices-loop-worked : goal.decreases-work_slices-loop-worked
decreases-work_slices-loop-worked g l = nonnegative_part (l.cut.count -ℤ l.worked)
