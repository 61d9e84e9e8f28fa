use Rattle.program_tests.proofs.WorkedChoices.{triangle_lines_narrow, triangle_ready_from}
use Rattle.program_tests.proofs.choices.a_column_is_thinner_than_the_basis.Goals as goal

pub thinnest-requires-clause-ready : goal.thinnest-requires-clause-ready
thinnest-requires-clause-ready g c = triangle_ready_from _ _ c.in_ok-system.ensures.0 c.in_ok-system.ensures.1

pub thinnest-requires-clause-narrow : goal.thinnest-requires-clause-narrow
thinnest-requires-clause-narrow g c = triangle_lines_narrow _ c.in_ok-lines.ensures
