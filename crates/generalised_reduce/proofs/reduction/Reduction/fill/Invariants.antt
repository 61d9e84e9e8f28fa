use Rattle.std.proofs.Common.{◌≡◌, ◌-◌, length}
use Rattle.norm_gauge.specs.Widths.{polytope_of}
use Rattle.generalised_reduce.specs.States.{Stands}
use Rattle.generalised_reduce.proofs.reduction.Reduction.fill.Given as goal

abbrev pub invariant-loop-alloc : goal.invariant-loop-alloc
invariant-loop-alloc l = record {
  stands : Stands (polytope_of l.system.rows l.system.limits) l.self.pair l.self.gauges.items l.self.moves l.self.swaps;
  pair : l.self.pair ≡ l.initial.self.pair;
  moves : l.self.moves ≡ l.initial.self.moves;
  swaps : l.self.swaps ≡ l.initial.self.swaps;
}

abbrev pub decreases-loop-alloc : goal.decreases-loop-alloc
decreases-loop-alloc l = l.count - length l.self.gauges.items
