use Rattle.std.proofs.Common.{sym, subst, All}
use Rattle.frac128.specs.Range.{IsNarrow}
use Rattle.exact_nodes.proofs.NodeFacts.{zeros_narrow}
use Rattle.exact_nodes.proofs.region.some_point.Goals as goal

pub answer-requires-clause-narrow : goal.answer-requires-clause-narrow
answer-requires-clause-narrow c = subst (All IsNarrow) (sym c.in_ok-zero.ensures) (zeros_narrow c.dimension.result)
