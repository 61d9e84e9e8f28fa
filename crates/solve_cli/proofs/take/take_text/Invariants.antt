use Rattle.std.proofs.Common.{◌≡◌, ◌≤◌, ◌-◌, ◌+◌, ℕ, List, Some, None, true, cond, length}
use Rattle.desk_io.specs.Desk.{Same, SameButAt}
use Rattle.desk_io.specs.TakeLaws.{IsTaken}
use Rattle.solve_cli.proofs.take.take_text.Given as goal

abbrev pub invariant-loop-ended : goal.invariant-loop-ended
invariant-loop-ended g l =
    let left = g.D.Desk.left in
    record {
      room : length l.piece ≡ 4096;
      small : length l.text.items ≤ l.limit + 1;
      taken : (bytes : List ℕ) → left l.initial.desk l.name ≡ Some bytes → IsTaken bytes l.text.items (left l.desk l.name);
      untold : left l.initial.desk l.name ≡ None → left l.desk l.name ≡ None;
      ended : (bytes : List ℕ) → l.ended ≡ true → left l.initial.desk l.name ≡ Some bytes → bytes ≡ l.text.items;
      others : SameButAt l.name (left l.initial.desk) (left l.desk);
      outputs : Same (g.D.Desk.written l.initial.desk) (g.D.Desk.written l.desk);
      said : g.D.Desk.said l.desk ≡ g.D.Desk.said l.initial.desk;
      faults : g.D.Desk.faults l.desk ≡ g.D.Desk.faults l.initial.desk;
      fault_at : g.D.Desk.fault_at l.desk ≡ g.D.Desk.fault_at l.initial.desk;
    }

abbrev pub decreases-loop-ended : goal.decreases-loop-ended
decreases-loop-ended g l = l.limit + 1 - length l.text.items + cond l.ended 0 1
