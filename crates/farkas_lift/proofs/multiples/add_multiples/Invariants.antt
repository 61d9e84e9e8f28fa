use Rattle.std.proofs.Common.{◌≡◌, drop}
use Rattle.spaces.specs.Tables.{rows_in}
use Rattle.farkas_lift.specs.NodeLifting.{with_multiples, MultiplesStay}
use Rattle.farkas_lift.proofs.multiples.add_multiples.Given as goal

abbrev pub invariant-loop-i : goal.invariant-loop-i
invariant-loop-i g l = record {
  value : with_multiples l.row (drop l.i l.times) (drop l.i (rows_in l.forms)) ≡ with_multiples l.fn.row l.times (rows_in l.forms);
  stays : MultiplesStay l.row (drop l.i l.times) (drop l.i (rows_in l.forms)) → MultiplesStay l.fn.row l.times (rows_in l.forms);
  stayed : MultiplesStay l.fn.row l.times (rows_in l.forms) → MultiplesStay l.row (drop l.i l.times) (drop l.i (rows_in l.forms));
}
