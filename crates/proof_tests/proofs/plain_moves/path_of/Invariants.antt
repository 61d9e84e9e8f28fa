use Rattle.std.proofs.Common.{◌^◌, ◌≤◌, length, All}
use Rattle.whole_rows.specs.WholeRows.{span}
use Rattle.farkas_rows.specs.declared.path.Slice.{Slice}
use Rattle.farkas_rows.specs.Refutes.{HasForms}
use Rattle.proof_tree.specs.Trees.{IsShort, IsOfSize}
use Rattle.proof_tests.proofs.plain_moves.path_of.Given as goal

abbrev pub invariant-loop-form : goal.invariant-loop-form
invariant-loop-form l = record {
  short : IsShort l.rows l.path;
  forms : HasForms (length l.rows.box) l.path;
  light : All (λ (slice : Slice). span slice.form l.rows.box ≤ 2 ^ 96) l.path;
  values : All (λ (slice : Slice). IsOfSize (2 ^ 98) slice.beta) l.path;
}
