use Rattle.std.proofs.Common.{◌≡◌, ◌++◌, drop}
use Rattle.farkas_lift.specs.NodeLifting.{uses_of}
use Rattle.farkas_lift.proofs.place.uses_of.Given as goal

abbrev pub invariant-loop-place : goal.invariant-loop-place
invariant-loop-place l = l.uses.items ++ uses_of (drop l.place-index l.places) (drop l.side l.weights) (drop l.equality l.times) ≡ uses_of l.places l.weights l.times
