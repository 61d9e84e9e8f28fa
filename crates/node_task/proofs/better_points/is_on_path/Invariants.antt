use Rattle.std.proofs.Common.{◌≡◌, take}
use Rattle.std.specs.List.{All}
use Rattle.exact_math.specs.Ring.{integers}
use Rattle.exact_vectors.specs.Vectors.{dot}
use Rattle.farkas_rows.specs.declared.path.Slice.{Slice}
use Rattle.node_task.proofs.better_points.is_on_path.Given as goal

abbrev pub invariant-loop-slice : goal.invariant-loop-slice
invariant-loop-slice l = All (λ (slice : Slice). dot integers slice.form l.x ≡ slice.beta) (take l.slice-index l.slices)
