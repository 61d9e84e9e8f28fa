-- The answers of the exact way of a node.
use Rattle.std.specs.Prelude.{◌≡◌, ℤ, List, length, Option, None, ⊤}
use Rattle.whole_rows.specs.WholeRows.{WholeRows}
use Rattle.farkas_rows.specs.declared.path.Slice.{Slice}
use Rattle.farkas_rows.specs.Refutes.{HasForms}
use Rattle.proof_tree.specs.Moves.{ClosesUnder, Improves, SplitsUnder}
use Rattle.proof_tree.specs.declared.tree.Mark.TheVariants.{Thin}
use Rattle.presolve_map.specs.ReducedRows.{ReducedRows}
use Rattle.reformulate.specs.Substitutions.{Substitution}
use Rattle.node_regions.specs.NodeFrames.{IsNodeFrame}
use Rattle.exact_nodes.specs.NodeExcuses.{IsExcusedBy}
use Rattle.exact_nodes.specs.ThinMoves.{IsThinAlong}
use Rattle.exact_nodes.specs.declared.exact.Exact.{Exact}
use Rattle.exact_nodes.specs.declared.exact.Exact.TheVariants.{Close, Point, Split, Excused}
use Rattle.exact_nodes.specs.declared.halt.Halt.{Halt}
use Rattle.exact_nodes.specs.declared.halt.Halt.TheVariants as halts

-- The frame is one of the node over these work rows, and each slice has a factor for each column.
pub record IsNodeOf (rows : WholeRows) (work : ReducedRows) (frame : Substitution) (path : List Slice) : Type 0 where
  pub of_node : IsNodeFrame rows path frame
  pub same_work : of_node.work ≡ work
  pub forms : HasForms (length rows.box) path

-- a line that refutes the node, a better point, a split along a direction, or an excuse that holds of the node in this frame
abbrev pub IsExactMove : WholeRows → ReducedRows → Substitution → List Slice → Option ℤ → Exact → Type 0
IsExactMove rows work frame path best (Close line) = ClosesUnder rows best path None line
IsExactMove rows work frame path best (Point x) = Improves rows best path x
IsExactMove rows work frame path best (Split cut) = SplitsUnder rows best path cut × IsThinAlong rows path best cut × (cut.mark ≡ Thin)
IsExactMove rows work frame path best (Excused excuse) = IsExcusedBy rows path best frame work excuse

-- the exact way halts with an excuse that holds of the node, or for want of memory
abbrev pub HaltsSo : WholeRows → ReducedRows → Substitution → List Slice → Option ℤ → Halt → Type 0
HaltsSo rows work frame path best (halts.Excused excuse) = IsExcusedBy rows path best frame work excuse
HaltsSo rows work frame path best halts.NoMemory = ⊤
