use Rattle.number_tests.proofs.IndependentRows.{even_row}
use Rattle.number_tests.proofs.lattices.a_vector_gets_short_beside_a_row.Goals as goal

pub reduce_beside-requires-clause-independent : goal.reduce_beside-requires-clause-independent
reduce_beside-requires-clause-independent g c = even_row c.in_ok-basis.basis c.in_ok-basis.ensures
