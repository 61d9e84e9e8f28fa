use Rattle.program_tests.proofs.WorkedPrograms.{condition_from, bounded_from}
use Rattle.program_tests.proofs.programs.contrary_rows_have_no_point.Goals as goal

pub minimise_with_pivots-requires-clause-condition : goal.minimise_with_pivots-requires-clause-condition
minimise_with_pivots-requires-clause-condition g c =
    condition_from _ _ _ c.in_ok-system.ensures.0 c.in_ok-system.ensures.1 c.in_ok-form.ensures

pub minimise_with_pivots-requires-clause-bounded : goal.minimise_with_pivots-requires-clause-bounded
minimise_with_pivots-requires-clause-bounded g c =
    bounded_from _ _ _ c.in_ok-system.ensures.0 c.in_ok-system.ensures.1 c.in_ok-form.ensures
