-- Why there is no line of an answer's multipliers.
use Rattle.std.proofs.Common.{◌≡◌, ℕ, List, ℤ, refl}
use Rattle.std.specs.Prelude.{Option}
use Rattle.whole_rows.specs.WholeRows.{WholeRows}
use Rattle.farkas_rows.specs.declared.path.Slice.{Slice}
use Rattle.farkas_rows.specs.Inequalities.{Inequality}
use Rattle.spaces.specs.Tables.{rows_in}
use Rattle.lp_dict.specs.Systems.{wholes}
use Rattle.lp_solve.specs.Ended.{EndsSo}
use Rattle.lp_solve.specs.declared.answer.Solved.{Solved}
use Rattle.norm_gauge.specs.Gauges.{program}
use Rattle.reformulate.specs.Substitutions.{Substitution}
use Rattle.presolve_map.specs.ReducedRows.{ReducedRows}
use Rattle.node_lines.specs.NodeLines.{IsHeavyLine, LiftLeaves}
use Rattle.node_lines.specs.declared.halt.LineHalt.{LineHalt}
use Rattle.node_lines.specs.declared.halt.LineHalt.TheVariants.{Wide, Heavy, NoMemory}
use Rattle.node_regions.specs.NodeRegions.{node_polytope}
use Rattle.exact_nodes.specs.ExactMoves.{HaltsSo}
use Rattle.exact_nodes.specs.NodeExcuses.{IsRefutedEnd, halt_of}
use Rattle.exact_nodes.specs.Programs.{IsSought, multipliers_of}

pub line_halts : (rows : WholeRows) (path : List Slice) (best : Option ℤ) (frame : Substitution) (work : ReducedRows) (pivots : List (ℕ × ℕ)) (form : List ℤ) (solved : Solved) (end : Option Inequality) (halt : LineHalt) → IsSought (node_polytope frame work best) (rows_in frame.to_work.lines) form → EndsSo (program (node_polytope frame work best) (wholes form)) pivots solved → IsRefutedEnd rows work frame form solved end
    → (halt ≡ Wide → LiftLeaves rows work frame path (multipliers_of solved)) → (halt ≡ Heavy → IsHeavyLine rows work frame path end best (multipliers_of solved)) → HaltsSo rows work frame path best (halt_of halt pivots)
line_halts rows path best frame work pivots form solved end Wide sought ends refuted wide heavy = record { ended = record { form = form; sought = sought; solved = solved; ends = ends }; leaves = wide refl }
line_halts rows path best frame work pivots form solved end Heavy sought ends refuted wide heavy = record { ended = record { form = form; sought = sought; solved = solved; ends = ends }; end = end; refuted = refuted; heavy = heavy refl }
line_halts rows path best frame work pivots form solved end NoMemory sought ends refuted wide heavy = tt
