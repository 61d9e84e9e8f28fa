use Rattle.program_tests.proofs.WorkedStrip.{strip_ready_from}
use Rattle.program_tests.proofs.WorkedChoices.{strip_lines_narrow}
use Rattle.program_tests.proofs.choices.the_first_row_of_a_strip_is_chosen.Goals as goal

pub thinnest-requires-clause-ready : goal.thinnest-requires-clause-ready
thinnest-requires-clause-ready g c = strip_ready_from _ _ c.in_ok-system.ensures.0 c.in_ok-system.ensures.1

pub thinnest-requires-clause-narrow : goal.thinnest-requires-clause-narrow
thinnest-requires-clause-narrow g c = strip_lines_narrow _ c.in_ok-lines.ensures
