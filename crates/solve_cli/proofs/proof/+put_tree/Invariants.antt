use Rattle.std.proofs.Common.{◌≡◌, ◌++◌, drop, List, ℕ}
use Rattle.std.specs.Prelude.{flat_map, Ok}
use Rattle.proof_tree.specs.declared.tree.Tree.{Tree}
use Rattle.proof_text.specs.Spelling.{in_lines, tree_lines}
use Rattle.solve_cli.specs.Answer.{desk_faults}
use Rattle.solve_cli.specs.Putting.{told_by, IsPut}
use Rattle.solve_cli.proofs.proof.+put_tree.Given as goal

abbrev pub invariant-loop-child : goal.invariant-loop-child
invariant-loop-child g l =
    (front : List ℕ) × (front ++ flat_map (λ (child : Tree). in_lines (tree_lines child)) (drop l.child-index l.child-items) ≡ in_lines (tree_lines l.tree))
    × IsPut l.name front (Ok tt)
    (told_by (g.D.Desk.left l.fn.desk) (g.D.Desk.written l.fn.desk) (g.D.Desk.said l.fn.desk) (desk_faults (g.D.Desk.faults l.fn.desk) (g.D.Desk.fault_at l.fn.desk)))
    (told_by (g.D.Desk.left l.desk) (g.D.Desk.written l.desk) (g.D.Desk.said l.desk) (desk_faults (g.D.Desk.faults l.desk) (g.D.Desk.fault_at l.desk)))
