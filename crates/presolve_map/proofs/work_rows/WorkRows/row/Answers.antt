use Rattle.std.proofs.Common.{◌<◌, length, ap, sym, ◌∙◌, None, arith}
use Rattle.whole_rows.specs.WholeRows.{WholeRow}
use Rattle.presolve_map.proofs.WorkLaws.{count-view, row-view}
use Rattle.presolve_map.proofs.work_rows.WorkRows.row.Goals as goal

pub row-requires : goal.row-requires
row-requires c = omega (arith, count-view _ _ _ _ _ c.self.view_is c.self.invariant.sided)

pub returns-clause-factors : goal.returns-clause-factors
returns-clause-factors c =
    let in_left : c.args.i < length c.self.inside.left.rows = omega (arith, count-view _ _ _ _ _ c.self.view_is c.self.invariant.sided) in
    let in_sides : c.args.i < length c.self.inside.sides.items = omega (arith, c.self.invariant.sided) in
    c.row.ensures.factors ∙ sym (ap (λ (row : WholeRow). row.factors) (row-view _ _ _ _ _ _ (record { low = None; high = None; number = 0 }) c.self.view_is in_left in_sides))
