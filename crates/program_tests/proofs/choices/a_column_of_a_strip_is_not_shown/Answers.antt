use Rattle.program_tests.proofs.WorkedStrip.{strip_ready_from}
use Rattle.program_tests.proofs.WorkedChoices.{strip_lines_narrow}
use Rattle.program_tests.proofs.choices.a_column_of_a_strip_is_not_shown.Goals as goal

pub thin_column-requires-clause-ready : goal.thin_column-requires-clause-ready
thin_column-requires-clause-ready g c = strip_ready_from _ _ c.in_ok-system.ensures.0 c.in_ok-system.ensures.1

pub thin_column-requires-clause-narrow : goal.thin_column-requires-clause-narrow
thin_column-requires-clause-narrow g c = strip_lines_narrow _ c.in_ok-lines.ensures
