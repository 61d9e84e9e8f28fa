use Rattle.mps_model.specs.declared.lines.section.Section.TheVariants.{Ranges, Bounds}
use Rattle.mps_model.proofs.OnLines.SectionOrderLaws.{more_ranges, more_bounds, more_other, differ}
use Rattle.mps_model.proofs.lines.section_order.Order.with.Goals as goal

pub returns-in-Ranges : goal.returns-in-Ranges
returns-in-Ranges c = λ above now in_order. more_ranges above c.args.self c.args.section c.in-Ranges.is now in_order

pub returns-in-Bounds : goal.returns-in-Bounds
returns-in-Bounds c = λ above now in_order. more_bounds above c.args.self c.args.section c.in-Bounds.is now in_order

pub returns-in_default : goal.returns-in_default
returns-in_default c = λ above now in_order.
    more_other above c.args.self c.args.section (differ Ranges c.args.section c.in_default.not-Ranges) (differ Bounds c.args.section c.in_default.not-Bounds)
    now in_order
