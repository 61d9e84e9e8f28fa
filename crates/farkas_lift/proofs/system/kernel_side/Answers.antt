use Rattle.std.proofs.Common.{rules, ◌-ℤ◌, length, SFits, sym, ap, ap₂, subst, ◌∙◌, refl, All, to_z-of_z}
use Rattle.std.specs.Int.{w128}
use Rattle.std.proofs.lemmas.Bool.{false≢true}
use Rattle.exact_math.specs.Ring.{integers}
use Rattle.exact_vectors.specs.MatrixLaws as Matrix
use Rattle.frac128.specs.Range.{IsNarrow}
use Rattle.spaces.specs.Maps.{PullBackStays}
use Rattle.spaces.specs.Tables.{rows_in}
use Rattle.spaces.specs.TableLaws.{HasWidth-rows_in}
use Rattle.farkas_lift.specs.NodeSides.{inequality_of}
use Rattle.farkas_lift.specs.NodeSystem.{LimitFits, SideStays}
use Rattle.farkas_lift.proofs.SideSteps.{factors_any}
use Rattle.farkas_lift.proofs.SystemSteps.{handed_on, stops-weaker, form_is, constant_is, products_stay, side_stays}
use Rattle.farkas_lift.proofs.system.kernel_side.Goals as goal

pub returns-in_err-moved-clause-stop : goal.returns-in_err-moved-clause-stop
returns-in_err-moved-clause-stop c =
    let inequality = inequality_of c.args.rows.now c.args.value c.args.side in
    let factors = c.of-factors.ensures ∙ c.in_ok-side_factors.ensures.value ∙ sym (factors_any c.args.rows.now c.args.value c.args.side) in
    let Here : Type 0 = PullBackStays c.to_work.result.now c.of-factors.result in
    let Whole : Type 0 = LimitFits c.args.rows.now c.args.value c.args.side × SideStays c.args.frame.now.to_work (inequality_of c.args.rows.now c.args.value c.args.side) in
    handed_on c.from_residual-in_err-moved.result c.in_err-moved.field-0.0 Whole c.from_residual-in_err-moved.ensures.1
    (stops-weaker Here Whole c.in_err-moved.field-0.0 (λ whole. products_stay c.args.frame.now.to_work c.to_work.result.now inequality c.of-factors.result c.to_work.ensures.value factors whole.1) c.in_err-moved.ensures.stop)

pub returns-then-not-are_narrow-clause-stop : goal.returns-then-not-are_narrow-clause-stop
returns-then-not-are_narrow-clause-stop c = λ whole.
    let inequality = inequality_of c.args.rows.now c.args.value c.args.side in
    let factors = c.of-factors.ensures ∙ c.in_ok-side_factors.ensures.value ∙ sym (factors_any c.args.rows.now c.args.value c.args.side) in
    let form = c.in_ok-moved.ensures.form ∙ form_is c.args.frame.now.to_work c.to_work.result.now inequality c.of-factors.result c.to_work.ensures.value factors in
    let narrow : All IsNarrow c.items.result.now = subst (All IsNarrow) (sym (c.items.ensures ∙ form)) whole.1.factors in
    false≢true (c.if-not-are_narrow.ensures.1 narrow)

pub returns-clause-limit : goal.returns-clause-limit
returns-clause-limit c =
    let inequality = inequality_of c.args.rows.now c.args.value c.args.side in
    let fv : SFits w128 c.args.value = c.ranges.value in
    let fs : SFits w128 c.in-Some.side_limit = search rules in
    let fc : SFits w128 c.in_ok-moved.moved.constant = search rules in
    let fl : SFits w128 c.in-Some-narrow_difference.limit = search rules in
    let side = simp to_z-of_z at c.in-Some.ensures in
    let told = simp to_z-of_z at c.in-Some-narrow_difference.ensures in
    let factors = c.of-factors.ensures ∙ c.in_ok-side_factors.ensures.value ∙ sym (factors_any c.args.rows.now c.args.value c.args.side) in
    let constant = c.in_ok-moved.ensures.constant ∙ constant_is c.args.frame.now.to_work c.to_work.result.now inequality c.of-factors.result c.to_work.ensures.value factors in
    simp to_z-of_z (told.1 ∙ ap₂ (λ a b. a -ℤ b) side.1 constant)

pub returns-clause-width : goal.returns-clause-width
returns-clause-width c =
    let inequality = inequality_of c.args.rows.now c.args.value c.args.side in
    let factors = c.of-factors.ensures ∙ c.in_ok-side_factors.ensures.value ∙ sym (factors_any c.args.rows.now c.args.value c.args.side) in
    let form = c.in_ok-moved.ensures.form ∙ form_is c.args.frame.now.to_work c.to_work.result.now inequality c.of-factors.result c.to_work.ensures.value factors in
    let lines = c.args.frame.now.to_work.lines in
    ap length form ∙ Matrix.length-combination integers lines.width inequality.factors (rows_in lines) (HasWidth-rows_in lines c.to_work.ensures.shaped.shaped.size_lines)

pub returns-clause-in_range : goal.returns-clause-in_range
returns-clause-in_range c =
    let inequality = inequality_of c.args.rows.now c.args.value c.args.side in
    let fv : SFits w128 c.args.value = c.ranges.value in
    let fs : SFits w128 c.in-Some.side_limit = search rules in
    let fc : SFits w128 c.in_ok-moved.moved.constant = search rules in
    let side = simp to_z-of_z at c.in-Some.ensures in
    let told = simp to_z-of_z at c.in-Some-narrow_difference.ensures in
    let factors = c.of-factors.ensures ∙ c.in_ok-side_factors.ensures.value ∙ sym (factors_any c.args.rows.now c.args.value c.args.side) in
    let narrow : All IsNarrow c.in_ok-moved.moved.form = subst (All IsNarrow) c.items.ensures (c.if-not-are_narrow.ensures.0 refl) in
    (side.0, side_stays c.args.frame.now.to_work c.to_work.result.now inequality c.of-factors.result c.to_work.ensures.value factors c.in_ok-moved.moved.form c.in-Some.side_limit c.in_ok-moved.moved.constant c.in_ok-moved.ensures.in_range c.in_ok-moved.ensures.form narrow side.1 c.in_ok-moved.ensures.constant told.0)
