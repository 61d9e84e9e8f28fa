use Rattle.std.proofs.Common.{◌<◌, length, ap, sym, ◌∙◌, arith}
use Rattle.std.proofs.lemmas.List.Elements.{All-get_or}
use Rattle.whole_rows.specs.WholeRows.{WholeRow}
use Rattle.presolve_map.specs.declared.sides.WorkSides.{WorkSides}
use Rattle.presolve_map.specs.WorkViews.{IsSmallSides}
use Rattle.presolve_map.proofs.WorkLaws.{count-view, row-view}
use Rattle.presolve_map.proofs.work_rows.WorkRows.low.Goals as goal

pub index-requires : goal.index-requires
index-requires c = omega (arith, c.self.invariant.sided, count-view _ _ _ _ _ c.self.view_is c.self.invariant.sided)

pub returns-clause-value : goal.returns-clause-value
returns-clause-value c =
    let in_left : c.args.i < length c.self.inside.left.rows = omega (arith, count-view _ _ _ _ _ c.self.view_is c.self.invariant.sided) in
    let in_sides : c.args.i < length c.self.inside.sides.items = omega (arith, c.self.invariant.sided) in
    ap (λ (sides : WorkSides). sides.low) c.index.ensures ∙ sym (ap (λ (row : WholeRow). row.low) (row-view _ _ _ _ _ _ _ c.self.view_is in_left in_sides))

pub returns-clause-small : goal.returns-clause-small
returns-clause-small c =
    let in_left : c.args.i < length c.self.inside.left.rows = omega (arith, count-view _ _ _ _ _ c.self.view_is c.self.invariant.sided) in
    let in_sides : c.args.i < length c.self.inside.sides.items = omega (arith, c.self.invariant.sided) in
    rw (ap (λ (sides : WorkSides). sides.low) c.index.ensures) (All-get_or IsSmallSides c.self.inside.sides.items c.args.i _ in_sides c.self.invariant.small).low
