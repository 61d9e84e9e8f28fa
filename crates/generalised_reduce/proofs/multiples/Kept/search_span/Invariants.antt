use Rattle.std.proofs.Common.{◌-ℤ◌}
use Rattle.norm_gauge.specs.Widths.{polytope_of}
use Rattle.generalised_reduce.proofs.BestSteps.{IsSearched, steps_left}
use Rattle.generalised_reduce.proofs.multiples.Kept.search_span.Given as goal

abbrev pub invariant-loop-factor : goal.invariant-loop-factor
invariant-loop-factor l = IsSearched (polytope_of l.system.rows l.system.limits) l.pair l.k l.widths.before l.widths.width l.span.low l.span.high l.factor l.self.factor l.self.gauge

abbrev pub decreases-loop-factor : goal.decreases-loop-factor
decreases-loop-factor l = steps_left (l.span.high -ℤ l.factor)
