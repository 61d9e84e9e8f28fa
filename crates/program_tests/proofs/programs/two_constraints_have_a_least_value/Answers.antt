use Rattle.program_tests.proofs.WorkedPrograms.{constraints_condition_from, constraints_bounded_from}
use Rattle.program_tests.proofs.programs.two_constraints_have_a_least_value.Goals as goal

pub minimise-requires-clause-condition : goal.minimise-requires-clause-condition
minimise-requires-clause-condition g c =
    constraints_condition_from _ _ _ c.in_ok-system.ensures.0 c.in_ok-system.ensures.1 c.in_ok-form.ensures

pub minimise-requires-clause-bounded : goal.minimise-requires-clause-bounded
minimise-requires-clause-bounded g c =
    constraints_bounded_from _ _ _ c.in_ok-system.ensures.0 c.in_ok-system.ensures.1 c.in_ok-form.ensures
