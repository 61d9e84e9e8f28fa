use Rattle.std.proofs.Common.{pos, Err, ap, ◌∙◌, arith}
use Rattle.whole_rows.specs.WholeRows.{IsFirstHeavy}
use Rattle.presolve_map.proofs.work_rows.WorkRows.new.Goals as goal

pub unreachable-requires : goal.unreachable-requires
unreachable-requires c =
    let first : IsFirstHeavy c.args.bounds.items c.in-Err-Heavy.field-0-0 = c.new.ensures.heavy c.in-Err-Heavy.field-0-0 (c.in-Err-Heavy.is ∙ ap Err c.in-Err-Heavy.field-0-is) in
    omega (arith, first.heavy, c.requires.light c.in-Err-Heavy.field-0-0 (record { low = pos 0; high = pos 0 }) first.within)
