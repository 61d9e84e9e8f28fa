-- Frames of a node.
use Rattle.std.specs.Prelude.{◌≡◌, ℤ, pos, List, length, All}
use Rattle.std.specs.List.{AllZip}
use Rattle.whole_rows.specs.declared.bounds.Bounds.{Bounds}
use Rattle.whole_rows.specs.WholeRows.{WholeRows}
use Rattle.farkas_rows.specs.declared.path.Slice.{Slice}
use Rattle.farkas_lift.specs.NodeEqualities.{node_equalities}
use Rattle.reformulate.specs.Frames.{IsReachedFrame}
use Rattle.reformulate.specs.Substitutions.{Substitution}
use Rattle.presolve_map.specs.ReducedRows.{ReducedRows, IsReduced}

-- the factor is 0 where its column has one value
abbrev pub IsKeptFactor : Bounds → ℤ → Type 0
IsKeptFactor bounds factor = bounds.low ≡ bounds.high → factor ≡ pos 0

-- so it is for each column
abbrev pub IsKeptForm : List Bounds → List ℤ → Type 0
IsKeptForm box form = AllZip IsKeptFactor box form

-- A frame of the node's equalities over the columns that presolving keeps: those of the rows with equal sides, and the slices
-- that lead to the node. Legal framing reaches it, and its vectors are reduced.
pub record IsNodeFrame (rows : WholeRows) (path : List Slice) (frame : Substitution) : Type 0 where
  pub work : ReducedRows
  pub presolved : IsReduced rows work
  pub kept : All (λ (slice : Slice). IsKeptForm rows.box slice.form) path
  pub reached : IsReachedFrame (length work.rows.box) (node_equalities work path) frame
