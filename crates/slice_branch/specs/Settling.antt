-- The moves that settle a root.
use Rattle.proof_tree.specs.declared.tree.Move.{Move}
use Rattle.proof_tree.specs.declared.tree.Move.TheVariants.{Close, Split}
use Rattle.slice_branch.specs.declared.place.Settled.{Settled}
use Rattle.slice_branch.specs.declared.place.Settled.TheVariants.{Closed, Gap}

-- the root is closed, or split without a slice
abbrev pub move_of : Settled → Move
move_of (Closed line) = Close line
move_of (Gap cut) = Split cut
