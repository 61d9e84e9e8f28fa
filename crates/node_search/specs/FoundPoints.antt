-- Points that the programs of a node find.
use Rattle.std.specs.Prelude.{ℤ, List, Option, ⊤}
use Rattle.whole_rows.specs.WholeRows.{WholeRows}
use Rattle.farkas_rows.specs.declared.path.Slice.{Slice}
use Rattle.proof_tree.specs.Moves.{Improves}
use Rattle.node_search.specs.declared.found.Found.{Found}
use Rattle.node_search.specs.declared.found.Found.TheVariants.{Empty, Point, Thin}

-- A point that is found is one of the node, and better than the best one. Of lines and directions nothing is said.
abbrev pub IsFound : WholeRows → List Slice → Option ℤ → Found → Type 0
IsFound rows path best (Empty line) = ⊤
IsFound rows path best (Point x) = Improves rows best path x
IsFound rows path best (Thin direction points) = ⊤
