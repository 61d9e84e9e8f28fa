use Rattle.std.proofs.Common.{◌≡◌, ◌<◌}
use Rattle.norm_gauge.specs.Widths.{polytope_of}
use Rattle.generalised_reduce.specs.Reduced.{forms_of}
use Rattle.generalised_reduce.specs.States.{IsReducedBelow, Stands, progress}
use Rattle.generalised_reduce.proofs.reduction.Reduction.run.Given as goal

abbrev pub invariant-loop-k : goal.invariant-loop-k
invariant-loop-k l = record {
  stands : Stands (polytope_of l.system.rows l.system.limits) l.self.pair l.self.gauges.items l.self.moves l.self.swaps;
  inside : l.k < l.system.rows.width;
  count : l.count ≡ l.system.rows.width;
  reduced : IsReducedBelow (polytope_of l.system.rows l.system.limits) (forms_of l.self.pair) l.k;
}

abbrev pub decreases-loop-k : goal.decreases-loop-k
decreases-loop-k l = progress l.system.rows.width l.self.swaps l.k
