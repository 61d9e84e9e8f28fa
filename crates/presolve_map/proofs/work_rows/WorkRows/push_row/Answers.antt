use Rattle.std.proofs.Common.{◌≡◌, List, ◌++◌, ◌∷◌, [], ap, ap₂, ◌∙◌, arith}
use Rattle.whole_rows.specs.WholeRows.{WholeRows}
use Rattle.presolve_map.specs.declared.sides.WorkSides.{WorkSides}
use Rattle.presolve_map.specs.ReducedRows.{ReducedRows}
use Rattle.presolve_map.specs.WorkViews.{reduced_of, with_work_row}
use Rattle.presolve_map.proofs.WorkLaws.{count-view, push-view}
use Rattle.presolve_map.proofs.work_rows.WorkRows.push_row.Goals as goal

pub push_row-requires-clause-room : goal.push_row-requires-clause-room
push_row-requires-clause-room c = omega (arith, c.requires.room, count-view _ _ _ _ _ c.self.view_is c.self.invariant.sided)

pub returns : goal.returns
returns c =
    let sides : c.push.new.self.items ≡ c.self.inside.sides.items ++ c.args.sides ∷ [] = (rw c.unwrap.ensures at c.push.ensures.items) ∙ ap (λ (s : List WorkSides). s ++ c.args.sides ∷ []) c.try_reserve.ensures.items in
    ap₂ (λ (left : WholeRows) (s : List WorkSides). reduced_of left s c.self.inside.columns.items c.self.inside.cost_constant) c.in-Ok.ensures.ok sides
    ∙ push-view c.self.inside.left c.self.inside.sides.items c.self.inside.columns.items c.self.inside.cost_constant c.args.factors.now c.args.sides c.self.invariant.sided
    ∙ ap (λ (work : ReducedRows). with_work_row work (record { factors = c.args.factors.now; low = c.args.sides.low; high = c.args.sides.high }) c.args.sides.number) c.self.view_is
