use Rattle.std.proofs.Common.{ℕ, ◌<◌, get_or, Some}
use Rattle.whole_rows.specs.Ends.{ReachesSides}
use Rattle.farkas_rows.specs.declared.path.Slice.{Slice}
use Rattle.plain_slices.proofs.node.Node.line_of_slices.Given as goal

abbrev pub invariant-loop-e : goal.invariant-loop-e
invariant-loop-e l = (k : ℕ) (d : Slice) → k < l.e → ReachesSides (get_or l.self.path.now k d).form (Some (get_or l.self.path.now k d).beta) (Some (get_or l.self.path.now k d).beta) l.self.bounds.items
