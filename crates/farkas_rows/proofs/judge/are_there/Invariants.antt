use Rattle.std.proofs.Common.{take}
use Rattle.std.specs.Prelude.{All, IsSome}
use Rattle.farkas_rows.specs.declared.line.Use.{Use}
use Rattle.farkas_rows.specs.Ends.{inequality_of}
use Rattle.farkas_rows.specs.Inequalities.{inequality_at}
use Rattle.farkas_rows.proofs.judge.are_there.Given as goal

abbrev pub invariant-loop-item : goal.invariant-loop-item
invariant-loop-item l = All (λ (item : Use). IsSome (inequality_at l.rows l.path (inequality_of l.end) item.index)) (take l.item-index l.items)
