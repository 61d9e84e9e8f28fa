use Rattle.program_tests.proofs.WorkedWidths.{triangle_condition_from, triangle_bounded_from, triangle_inhabited_from, sum_row_narrow_from}
use Rattle.program_tests.proofs.widths.the_sum_over_a_thin_triangle.Goals as goal

pub width-requires-clause-condition : goal.width-requires-clause-condition
width-requires-clause-condition g c =
    triangle_condition_from _ _ _ c.in_ok-system.ensures.0 c.in_ok-system.ensures.1 c.in_ok-form.ensures

pub width-requires-clause-narrow_basis : goal.width-requires-clause-narrow_basis
width-requires-clause-narrow_basis g c = sum_row_narrow_from _ c.in_ok-basis.ensures

pub width-requires-clause-bounded : goal.width-requires-clause-bounded
width-requires-clause-bounded g c = triangle_bounded_from _ _ c.in_ok-system.ensures.0 c.in_ok-system.ensures.1

pub width-requires-clause-inhabited : goal.width-requires-clause-inhabited
width-requires-clause-inhabited g c =
    triangle_inhabited_from _ _ c.in_ok-system.ensures.0 c.in_ok-system.ensures.1
