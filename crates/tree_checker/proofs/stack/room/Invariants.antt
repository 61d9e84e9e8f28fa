use Rattle.std.proofs.Common.{◌≡◌, vec_len}
use Rattle.farkas_rows.specs.Refutes.{HasForms}
use Rattle.tree_checker.proofs.stack.room.Given as goal

abbrev pub invariant-loop : goal.invariant-loop
invariant-loop l = (vec_len l.slices ≡ l.counter) × HasForms l.columns l.slices.items
