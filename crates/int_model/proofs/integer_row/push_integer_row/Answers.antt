use Rattle.std.proofs.Common.{◌≡◌, ◌≤◌, ◌^◌, ◌∙◌, inl, ap, subst, length}
use Rattle.std.specs.Prelude.{Result, Err}
use Rattle.std.proofs.lemmas.Result.{err_from_is_err_and}
use Rattle.int_model.specs.declared.part.PartStop.{PartStop}
use Rattle.int_model.specs.declared.part.PartStop.TheVariants as part_stops
use Rattle.whole_rows.specs.WholeRows.{weight, with_row, IsHeavy}
use Rattle.int_model.specs.Scale.{scaled}
use Rattle.int_model.specs.Stops.{part_stop_of}
use Rattle.int_model.specs.IntegerRows.{fraction_row, coefficients_of}
use Rattle.int_model.proofs.RowLaws.{IsScaleOf, scale_of_coefficients, scale_of_zeros, large_from_wide, large_from_product, large_from_low, large_from_high, heavy_from_large, row_is_small, products_are_scaled, integer_row_is, scaled_long}
use Rattle.int_model.proofs.LargeLaws.{coefficients_long}
use Rattle.int_model.proofs.integer_row.push_integer_row.Goals as goal
use Rattle.int_model.proofs.integer_row.push_integer_row.Goals.{In-Some, After-deref}

-- the scale is that of the row
scale : (c : In-Some) → IsScaleOf (coefficients_of (length c.args.whole.now.box) c.args.row.now.items) c.in-Some.scale
scale c = scale_of_coefficients (length c.args.whole.now.box) c.args.row.now.items c.in-Some.scale c.requires.items (rw c.items-items.ensures at c.in-Some.ensures)

pub returns-in_default-clause-large : goal.returns-in_default-clause-large
returns-in_default-clause-large c = λ e.
    large_from_wide c.args.whole.now.box (length c.args.whole.now.box) c.args.row.now.items c.args.row.now.lo c.args.row.now.hi c.requires.items (rw c.items-items.ensures at c.in_default.ensures)

pub low-requires : goal.low-requires
low-requires c = scale_of_zeros _ _ (scale (goal.at.low-requires c).In-Some)

pub high-requires : goal.high-requires
high-requires c = scale_of_zeros _ _ (scale (goal.at.high-requires c).In-Some)

pub returns-in_err-push_products-clause-large : goal.returns-in_err-push_products-clause-large
returns-in_err-push_products-clause-large c = λ e.
    let is = scale (goal.at.returns-in_err-push_products-clause-large c).In-Some in
    let exit = err_from_is_err_and c.from_residual.result c.from_residual.ensures.1 in
    let is_large : ◌≡◌ {A = Result (Unit {0}) PartStop} (Err c.in_err-push_products.field-0.0) (Err part_stops.Large) = cc in
    large_from_product c.args.whole.now.box (fraction_row (length c.args.whole.now.box) c.args.row.now) c.in-Some.scale is (coefficients_long (length c.args.whole.now.box) c.args.row.now.items) (rw (c.items-items.ensures, c.columns.ensures.count) at (c.in_err-push_products.ensures.large is_large))

pub returns-in_default-low-clause-large : goal.returns-in_default-low-clause-large
returns-in_default-low-clause-large c = λ e.
    let is = scale (goal.at.returns-in_default-low-clause-large c).In-Some in
    large_from_low c.args.whole.now.box (fraction_row (length c.args.whole.now.box) c.args.row.now) c.in-Some.scale is c.in_default-low.ensures.wide

pub returns-in_default-high-clause-large : goal.returns-in_default-high-clause-large
returns-in_default-high-clause-large c = λ e.
    let is = scale (goal.at.returns-in_default-high-clause-large c).In-Some in
    large_from_high c.args.whole.now.box (fraction_row (length c.args.whole.now.box) c.args.row.now) c.in-Some.scale is c.in_default-high.ensures.wide

-- the factors are made, and lent
factors : (c : After-deref) → IsScaleOf (coefficients_of (length c.args.whole.now.box) c.args.row.now.items) c.in-Some.scale → c.deref.result.now ≡ scaled (coefficients_of (length c.args.whole.now.box) c.args.row.now.items)
factors c is =
    c.deref.ensures.value ∙ (rw (c.items-items.ensures, c.columns.ensures.count, c.clear.ensures.items) at c.in_ok-push_products.ensures.ok) ∙ products_are_scaled _ _ is

pub push_row-requires-clause-dense : goal.push_row-requires-clause-dense
push_row-requires-clause-dense c =
    let is = scale (goal.at.push_row-requires-clause-dense c).In-Some in
    ap length (factors (goal.at.push_row-requires-clause-dense c).After-deref is) ∙ scaled_long (length c.args.whole.now.box) c.args.row.now.items

pub returns-in_err-push_row-clause-large : goal.returns-in_err-push_row-clause-large
returns-in_err-push_row-clause-large c = λ e.
    let is = scale (goal.at.returns-in_err-push_row-clause-large c).In-Some in
    let made = factors (goal.at.returns-in_err-push_row-clause-large c).After-deref is in
    let exit = err_from_is_err_and c.from_residual-in_err-push_row.result c.from_residual-in_err-push_row.ensures.1 in
    let large : part_stop_of c.in_err-push_row.field-0.0 ≡ part_stops.Large = cc in
    let heavy = c.in_err-push_row.ensures.heavy (ap Err (heavy_from_large c.in_err-push_row.field-0.0 large)) in
    inl (subst (λ row. IsHeavy (weight c.args.whole.now.box row)) (integer_row_is (fraction_row (length c.args.whole.now.box) c.args.row.now) c.in-Some.scale _ c.in-Ok.low c.in-Ok-high.high is made c.in-Ok.ensures.value c.in-Ok-high.ensures.value) heavy)

pub returns-clause-row : goal.returns-clause-row
returns-clause-row c =
    let is = scale (goal.at.returns-clause-row c).In-Some in
    let made = factors (goal.at.returns-clause-row c).After-deref is in
    c.in_ok-push_row.ensures.ok ∙ ap (with_row c.args.whole.now) (integer_row_is (fraction_row (length c.args.whole.now.box) c.args.row.now) c.in-Some.scale _ c.in-Ok.low c.in-Ok-high.high is made c.in-Ok.ensures.value c.in-Ok-high.ensures.value)

pub returns-clause-small : goal.returns-clause-small
returns-clause-small c =
    let is = scale (goal.at.returns-clause-small c).In-Some in
    let made = factors (goal.at.returns-clause-small c).After-deref is in
    let row = integer_row_is (fraction_row (length c.args.whole.now.box) c.args.row.now) c.in-Some.scale _ c.in-Ok.low c.in-Ok-high.high is made c.in-Ok.ensures.value c.in-Ok-high.ensures.value in
    row_is_small c.args.whole.now.box (fraction_row (length c.args.whole.now.box) c.args.row.now) c.in-Some.scale is (subst (λ row. weight c.args.whole.now.box row ≤ 2 ^ 96) row c.in_ok-push_row.ensures.light) c.in-Ok.ensures.narrow c.in-Ok-high.ensures.narrow
