use Rattle.std.proofs.Common.{◌≡◌, ◌∙◌, ap, length, arith}
use Rattle.std.specs.Prelude.{Result, Err}
use Rattle.std.proofs.lemmas.Result.{err_from_is_err_and}
use Rattle.int_model.specs.declared.part.PartStop.{PartStop}
use Rattle.int_model.specs.declared.part.PartStop.TheVariants as part_stops
use Rattle.whole_rows.specs.WholeRows.{with_cost}
use Rattle.int_model.specs.IntegerRows.{objective_of, cost}
use Rattle.int_model.proofs.RowLaws.{IsScaleOf, scale_of_coefficients}
use Rattle.int_model.proofs.IntegerRowLaws.{box_wide}
use Rattle.int_model.proofs.ObjectiveLaws.{large_from_items, costs_long, span_from, span_not_found, cost_leaves, cost_put}
use Rattle.int_model.proofs.objective.set_objective.Goals as goal
use Rattle.int_model.proofs.objective.set_objective.Goals.{In-Some, In_ok-push_products}

-- the scale is that of the objective's coefficients
scale : (c : In-Some) → IsScaleOf (objective_of c.args.model.now) c.in-Some.scale
scale c = scale_of_coefficients (length c.args.model.now.columns) c.args.model.now.objective c.in-Some.scale c.requires.items (rw c.items-items.ensures at c.in-Some.ensures)

pub returns-in_default-clause-large : goal.returns-in_default-clause-large
returns-in_default-clause-large c = λ e.
    large_from_items c.args.model.now c.requires.items (rw c.items-items.ensures at c.in_default.ensures)

pub returns-in_err-push_products-clause-large : goal.returns-in_err-push_products-clause-large
returns-in_err-push_products-clause-large c = λ e.
    let is = scale (goal.at.returns-in_err-push_products-clause-large c).In-Some in
    let exit = err_from_is_err_and c.from_residual.result c.from_residual.ensures.1 in
    let is_large : ◌≡◌ {A = Result (Unit {0}) PartStop} (Err c.in_err-push_products.field-0.0) (Err part_stops.Large) = cc in
    cost_leaves c.args.model.now c.in-Some.scale _ _ is (c.columns.ensures.count ∙ box_wide c.args.model.now c.args.whole.now.box c.requires.columns) c.items-items.ensures (c.in_err-push_products.ensures.large is_large)

-- the costs are made
made : (c : In_ok-push_products) → IsScaleOf (objective_of c.args.model.now) c.in-Some.scale → c.push_products.new.numbers.items ≡ cost c.args.model.now
made c is =
    cost_put c.args.model.now c.in-Some.scale _ _ c.push_products.new.numbers.items is (c.columns.ensures.count ∙ box_wide c.args.model.now c.args.whole.now.box c.requires.columns) c.items-items.ensures (rw c.clear.ensures.items at c.in_ok-push_products.ensures.ok)

pub terms_of-requires-clause-denominator : goal.terms_of-requires-clause-denominator
terms_of-requires-clause-denominator c = (scale (goal.at.terms_of-requires-clause-denominator c).In-Some).denominator

pub terms_of-requires-clause-numerator : goal.terms_of-requires-clause-numerator
terms_of-requires-clause-numerator c = (scale (goal.at.terms_of-requires-clause-numerator c).In-Some).numerator

pub terms_of-requires-clause-span : goal.terms_of-requires-clause-span
terms_of-requires-clause-span c =
    let costs = c.deref.ensures.value ∙ made (goal.at.terms_of-requires-clause-span c).In_ok-push_products (scale (goal.at.terms_of-requires-clause-span c).In-Some) in
    c.in_ok-span.ensures.sum ∙ span_from c.args.model.now _ c.args.whole.now.box costs c.requires.columns

pub set_cost-requires : goal.set_cost-requires
set_cost-requires c =
    costs_long c.args.model.now _ c.args.whole.now.box (c.deref.ensures.value ∙ made (goal.at.set_cost-requires c).In_ok-push_products (scale (goal.at.set_cost-requires c).In-Some)) c.requires.columns

pub returns-in_err-span-clause-large : goal.returns-in_err-span-clause-large
returns-in_err-span-clause-large c = λ e.
    let costs = c.deref.ensures.value ∙ made (goal.at.returns-in_err-span-clause-large c).In_ok-push_products (scale (goal.at.returns-in_err-span-clause-large c).In-Some) in
    span_not_found c.args.model.now _ c.args.whole.now.box costs c.requires.columns (λ light. omega (arith, light, c.in_err-span.ensures.heavy))

pub returns-clause-cost : goal.returns-clause-cost
returns-clause-cost c =
    c.in_ok-span.ensures.ok ∙ ap (with_cost c.args.whole.now) (c.deref.ensures.value ∙ made (goal.at.returns-clause-cost c).In_ok-push_products (scale (goal.at.returns-clause-cost c).In-Some))
