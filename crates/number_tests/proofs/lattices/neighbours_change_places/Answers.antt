use Rattle.number_tests.proofs.IndependentRows.{four_and_three}
use Rattle.number_tests.proofs.lattices.neighbours_change_places.Goals as goal

pub reduce-requires-clause-independent : goal.reduce-requires-clause-independent
reduce-requires-clause-independent g c = four_and_three c.in_ok-basis.basis c.in_ok-basis.ensures
