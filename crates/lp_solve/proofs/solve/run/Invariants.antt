use Rattle.std.proofs.Common.{◌≡◌, length}
use Rattle.lp_solve.specs.Rule.{AreLegal, after}
use Rattle.lp_solve.proofs.solve.run.Given as goal

abbrev pub invariant-loop-made : goal.invariant-loop-made
invariant-loop-made l =
    AreLegal l.fn.dict l.pivots × (l.dict ≡ after l.fn.dict l.pivots) × (length l.pivots ≡ l._made)
    × (l.rows ≡ length l.dict.basic) × (l.columns ≡ length l.dict.outside)
