use Rattle.number_tests.proofs.IndependentRows.{large_row}
use Rattle.number_tests.proofs.lattices.a_square_leaves_the_range.Goals as goal

pub reduce-requires-clause-independent : goal.reduce-requires-clause-independent
reduce-requires-clause-independent g c = large_row c.in_ok-basis.basis c.in_ok-basis.ensures
