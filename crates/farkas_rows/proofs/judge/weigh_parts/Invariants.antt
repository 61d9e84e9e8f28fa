use Rattle.farkas_rows.specs.Ends.{inequality_of}
use Rattle.farkas_rows.specs.Judgement.{IsWeight}
use Rattle.farkas_rows.specs.Refutes.{line_of, line_weight}
use Rattle.farkas_rows.proofs.LineLemmas.{upto}
use Rattle.farkas_rows.proofs.judge.weigh_parts.Given as goal

abbrev pub invariant-loop-item : goal.invariant-loop-item
invariant-loop-item l = IsWeight (line_weight l.rows l.path (inequality_of l.end) (upto (line_of l.cut l.items) l.item-index)) l.total
