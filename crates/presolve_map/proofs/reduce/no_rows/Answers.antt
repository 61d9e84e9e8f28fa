use Rattle.std.proofs.Common.{rules, ◌≡◌, [], ap, subst, sym, ◌∙◌, refl, FitsSigned, arith}
use Rattle.std.specs.Int.{w128}
use Rattle.std.proofs.lemmas.Int.{to_z-of_z}
use Rattle.whole_rows.specs.declared.ends.End.TheVariants.{Least}
use Rattle.whole_rows.specs.Ends.{sum_at}
use Rattle.whole_rows.specs.WholeRows.{rows_over, with_cost}
use Rattle.presolve_map.specs.Columns.{kept, kept_columns, removed_part}
use Rattle.presolve_map.specs.Removed.{span-removed, sum_at-removed}
use Rattle.presolve_map.specs.Reducing.{IsReducedTo}
use Rattle.presolve_map.proofs.KeptLaws.{kept-few, kept-light, kept-light_cost, length-kept}
use Rattle.presolve_map.proofs.ReduceLaws.{reduced-none}
use Rattle.presolve_map.proofs.reduce.no_rows.Goals as goal

pub sum-constant-requires-clause-light : goal.sum-constant-requires-clause-light
sum-constant-requires-clause-light c = rw c.requires.removed (omega (arith, span-removed c.cost-all_cost.result.now c.args.rows.now.box, c.cost-all_cost.ensures.light))

pub new-requires-clause-few : goal.new-requires-clause-few
new-requires-clause-few c =
    let b : c.in_ok-bounds.bounds.items ≡ kept c.args.rows.now.box c.args.rows.now.box = rw (c.requires.flags, c.bounds.ensures.value) at c.in_ok-bounds.ensures in
    rw b (kept-few c.args.rows.now c.columns-columns.ensures.limits)

pub new-requires-clause-light : goal.new-requires-clause-light
new-requires-clause-light c =
    let b : c.in_ok-bounds.bounds.items ≡ kept c.args.rows.now.box c.args.rows.now.box = rw (c.requires.flags, c.bounds.ensures.value) at c.in_ok-bounds.ensures in
    rw b (kept-light c.args.rows.now c.columns-columns.ensures.limits)

pub new-requires-clause-numbered : goal.new-requires-clause-numbered
new-requires-clause-numbered c =
    let b : c.in_ok-bounds.bounds.items ≡ kept c.args.rows.now.box c.args.rows.now.box = rw (c.requires.flags, c.bounds.ensures.value) at c.in_ok-bounds.ensures in
    let n : c.in_ok-columns.columns.items ≡ kept_columns c.args.rows.now.box = rw c.requires.flags at c.in_ok-columns.ensures in
    rw (b, n) (sym (length-kept c.args.rows.now.box c.args.rows.now.box refl))

pub new-requires-clause-priced : goal.new-requires-clause-priced
new-requires-clause-priced c =
    let box = c.args.rows.now.box in
    let b : c.in_ok-bounds.bounds.items ≡ kept c.args.rows.now.box c.args.rows.now.box = rw (c.requires.flags, c.bounds.ensures.value) at c.in_ok-bounds.ensures in
    let k : c.in_ok-cost.cost.items ≡ kept c.args.rows.now.box c.args.rows.now.cost = rw (c.requires.flags, c.cost-all_cost.ensures.value) at c.in_ok-cost.ensures in
    rw (c.deref.ensures.value, b, k) (length-kept box c.args.rows.now.cost c.columns-columns.ensures.limits.priced ∙ sym (length-kept box box refl))

pub new-requires-clause-light_cost : goal.new-requires-clause-light_cost
new-requires-clause-light_cost c =
    let b : c.in_ok-bounds.bounds.items ≡ kept c.args.rows.now.box c.args.rows.now.box = rw (c.requires.flags, c.bounds.ensures.value) at c.in_ok-bounds.ensures in
    let k : c.in_ok-cost.cost.items ≡ kept c.args.rows.now.box c.args.rows.now.cost = rw (c.requires.flags, c.cost-all_cost.ensures.value) at c.in_ok-cost.ensures in
    rw (c.deref.ensures.value, b, k) (kept-light_cost c.args.rows.now c.columns-columns.ensures.limits)

pub returns : goal.returns
returns c =
    let rows = c.args.rows.now in
    let fits : FitsSigned w128 c.sum-constant.result = search rules in
    let b : c.in_ok-bounds.bounds.items ≡ kept c.args.rows.now.box c.args.rows.now.box = rw (c.requires.flags, c.bounds.ensures.value) at c.in_ok-bounds.ensures in
    let k : c.deref.result.now ≡ kept c.args.rows.now.box c.args.rows.now.cost = c.deref.ensures.value ∙ (rw (c.requires.flags, c.cost-all_cost.ensures.value) at c.in_ok-cost.ensures) in
    let n : c.in_ok-columns.columns.items ≡ kept_columns c.args.rows.now.box = rw c.requires.flags at c.in_ok-columns.ensures in
    let is : c.sum-constant.result ≡ sum_at Least c.cost-all_cost.result.now c.args.removed.now = c.sum-constant.ensures in
    let part : c.sum-constant.result ≡ removed_part c.args.rows.now.box c.args.rows.now.cost = is ∙ ap (sum_at Least c.cost-all_cost.result.now) c.requires.removed ∙ sum_at-removed Least c.cost-all_cost.result.now c.args.rows.now.box ∙ ap (removed_part c.args.rows.now.box) c.cost-all_cost.ensures.value in
    let work : c.in_ok-work.work ≡ record { rows = with_cost (rows_over c.in_ok-bounds.bounds.items) c.deref.result.now; row_numbers = []; column_numbers = c.in_ok-columns.columns.items; cost_constant = c.sum-constant.result } = simp to_z-of_z at c.in_ok-work.ensures in
    subst (IsReducedTo c.args.rows.now 0) (sym work) (reduced-none rows c.in_ok-bounds.bounds.items c.deref.result.now c.in_ok-columns.columns.items c.sum-constant.result b k n part)
