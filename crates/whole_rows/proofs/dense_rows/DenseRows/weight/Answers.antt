use Rattle.std.proofs.Common.{◌≡◌, ◌<◌, ◌^◌, ◌∙◌, length, pos, ap, subst, arith}
use Rattle.std.specs.Int.{w128}
use Rattle.std.proofs.lemmas.Int.{fits_signed_from_abs, to_z_pos}
use Rattle.whole_rows.specs.declared.sides.Sides.{Sides}
use Rattle.whole_rows.specs.WholeRows.{weight, row_at, IsWithinLimits}
use Rattle.whole_rows.proofs.FlatLemmas.{rows-whole_rows, weight-whole_rows}
use Rattle.whole_rows.specs.WeightLaws.{weight-row_at}
use Rattle.whole_rows.proofs.dense_rows.DenseRows.weight.Goals as goal
use Rattle.whole_rows.proofs.dense_rows.DenseRows.weight.Goals.{After-index}

-- what was stored is the weight
stored : (c : After-index) → c.index.result.now.weight ≡ weight c.args.self.now.box (row_at c.args.self.now c.args.i)
stored c =
    let within : c.args.i < length c.self.inside.sides.items = omega (arith, c.requires, rows-whole_rows _ _ _ _ _ c.self.view_is) in
    ap (λ (sides : Sides). sides.weight) c.index.ensures ∙ weight-whole_rows _ _ _ _ _ _ c.index.result.now c.self.view_is c.self.invariant.weights within

pub index-requires : goal.index-requires
index-requires c = omega (arith, c.requires, rows-whole_rows _ _ _ _ _ c.self.view_is)

pub overflow_cast-result : goal.overflow_cast-result
overflow_cast-result c =
    let limits = subst IsWithinLimits c.self.view_is c.self.invariant.limits in
    fits_signed_from_abs w128 (pos c.index.result.now.weight) (omega (arith, stored (goal.at.overflow_cast-result c).After-index, weight-row_at c.args.self.now c.args.i limits c.requires))

pub returns-clause-value : goal.returns-clause-value
returns-clause-value c =
    let limits = subst IsWithinLimits c.self.view_is c.self.invariant.limits in
    let small : c.index.result.now.weight < 2 ^ 127 = omega (arith, stored (goal.at.returns-clause-value c).After-index, weight-row_at c.args.self.now c.args.i limits c.requires) in
    rw to_z_pos (ap pos (stored (goal.at.returns-clause-value c).After-index))

pub returns-clause-light : goal.returns-clause-light
returns-clause-light c =
    weight-row_at c.args.self.now c.args.i (subst IsWithinLimits c.self.view_is c.self.invariant.limits) c.requires
