use Rattle.program_tests.proofs.WorkedChoices.{triangle_lines_narrow, triangle_ready_from}
use Rattle.program_tests.proofs.choices.a_column_of_a_triangle_is_shown_to_be_a_direction.Goals as goal

pub thin_column-requires-clause-ready : goal.thin_column-requires-clause-ready
thin_column-requires-clause-ready g c = triangle_ready_from _ _ c.in_ok-system.ensures.0 c.in_ok-system.ensures.1

pub thin_column-requires-clause-narrow : goal.thin_column-requires-clause-narrow
thin_column-requires-clause-narrow g c = triangle_lines_narrow _ c.in_ok-lines.ensures
