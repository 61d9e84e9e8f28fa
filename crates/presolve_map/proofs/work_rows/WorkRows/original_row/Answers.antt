use Rattle.std.proofs.Common.{◌<◌, length, ap, sym, ◌∙◌, arith}
use Rattle.presolve_map.specs.declared.sides.WorkSides.{WorkSides}
use Rattle.presolve_map.proofs.WorkLaws.{count-view, number-view}
use Rattle.presolve_map.proofs.work_rows.WorkRows.original_row.Goals as goal

pub index-requires : goal.index-requires
index-requires c = omega (arith, c.self.invariant.sided, count-view _ _ _ _ _ c.self.view_is c.self.invariant.sided)

pub returns : goal.returns
returns c =
    let in_sides : c.args.i < length c.self.inside.sides.items = omega (arith, c.self.invariant.sided, count-view _ _ _ _ _ c.self.view_is c.self.invariant.sided) in
    ap (λ (sides : WorkSides). sides.number) c.index.ensures ∙ sym (number-view _ _ _ _ _ _ _ c.self.view_is in_sides)
