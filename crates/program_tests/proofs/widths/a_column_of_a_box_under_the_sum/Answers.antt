use Rattle.program_tests.proofs.WorkedWidths.{box_condition_from, box_bounded_from, box_inhabited_from, sum_row_narrow_from}
use Rattle.program_tests.proofs.widths.a_column_of_a_box_under_the_sum.Goals as goal

pub width-requires-clause-condition : goal.width-requires-clause-condition
width-requires-clause-condition g c =
    box_condition_from _ _ _ c.in_ok-system.ensures.0 c.in_ok-system.ensures.1 c.in_ok-form.ensures

pub width-requires-clause-narrow_basis : goal.width-requires-clause-narrow_basis
width-requires-clause-narrow_basis g c = sum_row_narrow_from _ c.in_ok-basis.ensures

pub width-requires-clause-bounded : goal.width-requires-clause-bounded
width-requires-clause-bounded g c = box_bounded_from _ _ c.in_ok-system.ensures.0 c.in_ok-system.ensures.1

pub width-requires-clause-inhabited : goal.width-requires-clause-inhabited
width-requires-clause-inhabited g c =
    box_inhabited_from _ _ c.in_ok-system.ensures.0 c.in_ok-system.ensures.1
