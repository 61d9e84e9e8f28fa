use Rattle.std.proofs.Common.{◌≡◌, ◌++◌, drop, List, ℕ}
use Rattle.std.specs.Prelude.{flat_map, Ok}
use Rattle.proof_tree.specs.declared.tree.PartTree.{PartTree}
use Rattle.proof_text.specs.Spelling.{in_lines, part_lines}
use Rattle.solve_cli.specs.Answer.{desk_faults}
use Rattle.solve_cli.specs.Putting.{told_by, IsPut}
use Rattle.solve_cli.proofs.proof.+put_part.Given as goal

abbrev pub invariant-loop-child : goal.invariant-loop-child
invariant-loop-child g l =
    (front : List ℕ) × (front ++ flat_map (λ (child : PartTree). in_lines (part_lines child)) (drop l.child-index l.child-items) ≡ in_lines (part_lines l.part))
    × IsPut l.name front (Ok tt)
    (told_by (g.D.Desk.left l.fn.desk) (g.D.Desk.written l.fn.desk) (g.D.Desk.said l.fn.desk) (desk_faults (g.D.Desk.faults l.fn.desk) (g.D.Desk.fault_at l.fn.desk)))
    (told_by (g.D.Desk.left l.desk) (g.D.Desk.written l.desk) (g.D.Desk.said l.desk) (desk_faults (g.D.Desk.faults l.desk) (g.D.Desk.fault_at l.desk)))
