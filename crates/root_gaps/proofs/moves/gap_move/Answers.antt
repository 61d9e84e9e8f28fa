use Rattle.std.proofs.Common.{rules, ◌≡◌, ◌^◌, ◌<◌, ◌≤◌, ℤ, List, FitsSigned, ap₂, arith}
use Rattle.std.specs.Int.{w128}
use Rattle.std.proofs.lemmas.Int.{to_z-of_z}
use Rattle.whole_rows.specs.declared.bounds.Bounds.{Bounds}
use Rattle.whole_rows.specs.WholeRows.{span}
use Rattle.spaces.proofs.MultipleSteps.{holds_from_some}
use Rattle.unimodular_pair.proofs.ColumnSteps.{fails_from_none}
use Rattle.root_gaps.proofs.MoveLaws.{gap-split, heavy-form, heavy-lines}
use Rattle.root_gaps.proofs.moves.gap_move.Goals as goal

pub returns-then-is_none : goal.returns-then-is_none
returns-then-is_none c =
    let form : List ℤ = c.in_ok-form.form in
    let heavy = fails_from_none c.span_of.result _ c.span_of.ensures c.if-is_none.ensures in
    let same : span c.items.result.now c.bounds.result.now ≡ span c.in_ok-form.form c.args.rows.now.box = ap₂ (λ (f : List ℤ) (b : List Bounds). span f b) c.items.ensures c.bounds.ensures.value in
    let above : 2 ^ 96 < span c.in_ok-form.form c.args.rows.now.box = omega (arith, heavy, same) in
    heavy-form c.args.rows.now c.args.work.now c.args.gap.now c.in_ok-form.form c.requires.presolved c.requires.gap c.in_ok-form.ensures.kept c.in_ok-form.ensures.same c.requires.ends above

pub returns-in-Ok : goal.returns-in-Ok
returns-in-Ok c =
    let fits : FitsSigned w128 c.args.gap.now.lo = search rules in
    let light = holds_from_some c.span_of.result _ c.span_of.ensures c.if-is_none.ensures in
    let same : span c.items.result.now c.bounds.result.now ≡ span c.in_ok-form.form c.args.rows.now.box = ap₂ (λ (f : List ℤ) (b : List Bounds). span f b) c.items.ensures c.bounds.ensures.value in
    let small : span c.in_ok-form.form c.args.rows.now.box ≤ 2 ^ 96 = omega (arith, light, same) in
    let split = gap-split c.args.rows.now c.args.work.now c.args.gap.now c.in_ok-form.form c.requires.presolved c.requires.gap c.in_ok-form.ensures.kept c.in_ok-form.ensures.same c.in_ok-form.ensures.dense small c.in_ok-form.ensures.some c.in-Ok.lines.below c.in-Ok.lines.above c.in-Ok.ensures.below c.in-Ok.ensures.above in
    simp to_z-of_z split

pub returns-in-Err : goal.returns-in-Err
returns-in-Err c = heavy-lines c.args.rows.now c.in-Err.halt c.no_lines.result c.in-Err.ensures.halt c.no_lines.ensures.excuse c.no_lines.ensures.too_large
