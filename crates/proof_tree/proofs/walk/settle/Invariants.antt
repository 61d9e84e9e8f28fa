use Rattle.std.proofs.Common.{◌≡◌}
use Rattle.proof_tree.specs.Search.{value_of_best, StaysAt}
use Rattle.proof_tree.proofs.Values.{room_below}
use Rattle.proof_tree.proofs.walk.settle.Given as goal

abbrev pub invariant-loop-line : goal.invariant-loop-line
invariant-loop-line g l =
    record {
      works : g.B.Brancher.rows l.brancher ≡ l.rows;
      stays : StaysAt g.B.Brancher.stands_for g.B.Brancher.height g.B.Brancher.is_plain l.rows l.initial.place l.place l.initial.walk l.walk;
    }

abbrev pub decreases-loop-line : goal.decreases-loop-line
decreases-loop-line g l = room_below (value_of_best l.walk.best)
