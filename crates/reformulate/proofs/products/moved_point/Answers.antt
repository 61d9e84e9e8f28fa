use Rattle.std.proofs.Common.{◌<◌, ◌+ℤ◌, ◌*ℤ◌, pos, get_or, SFits, FitsSigned, sym, ap, subst, ◌∙◌, rules, arith, to_z-of_z}
use Rattle.std.specs.Int.{w128}
use Rattle.exact_math.specs.Ring.{integers}
use Rattle.exact_vectors.specs.Matrices.{column}
use Rattle.spaces.specs.Tables.{rows_in}
use Rattle.reformulate.proofs.MatrixSteps.{column_item, column_length}
use Rattle.reformulate.proofs.ProductSteps.{moved_all, moved_more}
use Rattle.reformulate.proofs.products.moved_point.Goals as goal

pub returns-in_default-clause-stop : goal.returns-in_default-clause-stop
returns-in_default-clause-stop c =
    let ff : SFits w128 c.args.factor = c.ranges.factor in
    let i = c.loop-i.i in
    let below : i < c.args.lines.now.rows = omega (arith, c.requires.as_many, c.loop-i-test.true) in
    let fb : SFits w128 (get_or c.args.base.now i (pos 0)) = search rules in
    let fi : SFits w128 (get_or c.row.result.now c.args.place (pos 0)) = search rules in
    let item = ap (λ l. get_or l c.args.place (pos 0)) c.row.ensures.value ∙ column_item c.args.lines.now c.args.place i below in
    let refused = simp to_z-of_z at c.in_default.ensures in
    λ stays. refused (subst (λ z. FitsSigned w128 (c.args.factor *ℤ z) × FitsSigned w128 (get_or c.args.base.now i (pos 0) +ℤ c.args.factor *ℤ z)) (sym item) (stays i c.loop-i-test.true))

pub loop-i-preserved : goal.loop-i-preserved
loop-i-preserved c =
    let ff : SFits w128 c.args.factor = c.ranges.factor in
    let i = c.loop-i.i in
    let below : i < c.args.lines.now.rows = omega (arith, c.requires.as_many, c.loop-i-test.true) in
    let fb : SFits w128 (get_or c.args.base.now i (pos 0)) = search rules in
    let fi : SFits w128 (get_or c.row.result.now c.args.place (pos 0)) = search rules in
    let fr : SFits w128 c.in-Some.item = search rules in
    let item = ap (λ l. get_or l c.args.place (pos 0)) c.row.ensures.value ∙ column_item c.args.lines.now c.args.place i below in
    let is = (simp to_z-of_z at c.in-Some.ensures).1 ∙ ap (λ z. get_or c.args.base.now i (pos 0) +ℤ c.args.factor *ℤ z) item in
    let pushed = simp to_z-of_z at c.in_ok-push.ensures.items in
    simp to_z-of_z (moved_more c.args.factor (column integers (rows_in c.args.lines.now) c.args.place) c.args.base.now c.loop-i.point.items c.push.new.self.items i c.in-Some.item (c.requires.as_many ∙ sym (column_length c.args.lines.now c.args.place)) c.loop-i-test.true pushed is (simp to_z-of_z at c.loop-i.invariant))

pub returns-clause-ok : goal.returns-clause-ok
returns-clause-ok c =
    let ff : SFits w128 c.args.factor = c.ranges.factor in
    moved_all c.args.factor (column integers (rows_in c.args.lines.now) c.args.place) c.args.base.now c.loop-i.point.items c.loop-i.i (c.requires.as_many ∙ sym (column_length c.args.lines.now c.args.place)) c.loop-i-test.false (simp to_z-of_z at c.loop-i.invariant)
