use Rattle.std.proofs.Common.{◌≡◌, length}
use Rattle.tree_checker.proofs.TextLaws.{IsReached}
use Rattle.tree_checker.proofs.text.first_fault.Given as goal

abbrev pub invariant-loop-rest : goal.invariant-loop-rest
invariant-loop-rest l = record {
  rows : l.judge.rows ≡ l.fn.judge.rows;
  reached : IsReached l.fn.judge.rows l.text l.rest l.judge.stage l.number;
}

abbrev pub decreases-loop-rest : goal.decreases-loop-rest
decreases-loop-rest l = length l.rest
