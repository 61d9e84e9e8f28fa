use Rattle.std.proofs.Common.{◌≡◌, ◌↔◌, ◌∙◌, ◌≤ℤ◌, sym, ap, map, subst}
use Rattle.std.specs.Prelude.{Err}
use Rattle.std.specs.List.{All}
use Rattle.std.proofs.lemmas.Result.{err_from_is_err_and}
use Rattle.exact_math.specs.Rational.{◌≤ℚ◌}
use Rattle.whole_rows.specs.WholeRows.{Meets, HasLeastCutValue, IsFirstHeavy, cut_value}
use Rattle.int_model.specs.declared.part.RowsStop.TheVariants as stops
use Rattle.int_model.specs.IntegerRows.{IntegerRows, rounded_bounds, value_in}
use Rattle.int_model.specs.Stops.{rows_stop_of}
use Rattle.int_model.specs.Large.{IsLargeColumn, IsFirstLarge}
use Rattle.int_model.specs.Points.{IsPoint, value_at, IsBest}
use Rattle.int_model.proofs.LargePartLaws.{columns_small, first_of_box, objective_is_first, none_is_large}
use Rattle.int_model.proofs.PointLaws as points
use Rattle.int_model.proofs.IntegerRowLaws.{named_part, heavy_column, HoldsRows-none, HoldsRows-more, first_of_rows, rows_small, integer_rows_are, distinct_at}
use Rattle.int_model.proofs.int_rows.IntRows.of.Goals as goal
use Rattle.int_model.proofs.int_rows.IntRows.of.Goals.{In_ok-box_of, In_ok-whole}

-- the box was made
box : (c : In_ok-box_of) → c.in_ok-box_of.field-0.items ≡ map rounded_bounds c.args.model.now.columns
box c = c.in_ok-box_of.ensures ∙ ap (map rounded_bounds) c.items.ensures

-- and no column is large
columns : (c : In_ok-whole) → c.in_ok-box_of.field-0.items ≡ map rounded_bounds c.args.model.now.columns → All (λ column. IsLargeColumn column → ⊥) c.args.model.now.columns
columns c is = columns_small c.args.model.now.columns (rw is at c.in_ok-whole.ensures.light)

pub returns-in_err-whole-clause-large : goal.returns-in_err-whole-clause-large
returns-in_err-whole-clause-large c = λ part e.
    let is = box (goal.at.returns-in_err-whole-clause-large c).In_ok-box_of in
    let exit = err_from_is_err_and c.from_residual-in_err-whole.result c.from_residual-in_err-whole.ensures.1 in
    let stop : rows_stop_of c.in_err-whole.field-0.0 ≡ stops.Large part = cc in
    let heavy = heavy_column c.in_err-whole.field-0.0 part stop in
    let first = c.in_err-whole.ensures.heavy heavy.0 (ap Err heavy.1) in
    subst (IsFirstLarge c.args.model.now) (sym heavy.2) (first_of_box c.args.model.now heavy.0 (subst (λ box. IsFirstHeavy box heavy.0) is first))

pub loop-i-init : goal.loop-i-init
loop-i-init c =
    rw c.in_ok-whole.ensures.ok (HoldsRows-none c.args.model.now c.in_ok-box_of.field-0.items (box (goal.at.loop-i-init c).In_ok-box_of))

pub push_integer_row-requires-clause-items : goal.push_integer_row-requires-clause-items
push_integer_row-requires-clause-items c =
    distinct_at c.args.model.now c.loop-i.whole.box c.loop-i.i c.index-rows-i.result c.loop-i.invariant.box (rw c.items-rows.ensures at c.loop-i-test.true) (rw c.items-rows.ensures at c.index-rows-i.is) c.requires.items

pub returns-in-Err-clause-large : goal.returns-in-Err-clause-large
returns-in-Err-clause-large c = λ part e.
    let made = (goal.at.returns-in-Err-clause-large c).In_ok-whole in
    let small = columns made (box (goal.at.returns-in-Err-clause-large c).In_ok-box_of) in
    let named = named_part c.in-Err.stop c.at.result _ part c.at.ensures.large c.at.ensures.memory (cc) in
    subst (IsFirstLarge c.args.model.now) (sym named.1) (first_of_rows c.args.model.now c.loop-i.i c.index-rows-i.result c.loop-i.whole (rw c.items-rows.ensures at c.loop-i-test.true) (rw c.items-rows.ensures at c.index-rows-i.is) c.loop-i.invariant small (c.in-Err.ensures.large (ap Err named.0)))

pub loop-i-preserved : goal.loop-i-preserved
loop-i-preserved c =
    HoldsRows-more c.args.model.now c.loop-i.i c.index-rows-i.result c.loop-i.whole c.push_integer_row.new.whole (rw c.items-rows.ensures at c.loop-i-test.true) (rw c.items-rows.ensures at c.index-rows-i.is) c.loop-i.invariant c.in_default.ensures.row c.in_default.ensures.small

pub returns-in-Ok-clause-small : goal.returns-in-Ok-clause-small
returns-in-Ok-clause-small c =
    let made = (goal.at.returns-in-Ok-clause-small c).In_ok-whole in
    let small = columns made (box (goal.at.returns-in-Ok-clause-small c).In_ok-box_of) in
    none_is_large c.args.model.now small (rows_small c.args.model.now c.loop-i.i c.loop-i.whole (rw c.items-rows.ensures at c.loop-i-test.false) c.loop-i.invariant) c.in-Ok.ensures.small

pub returns-in-Ok-clause-rows : goal.returns-in-Ok-clause-rows
returns-in-Ok-clause-rows c =
    integer_rows_are c.args.model.now c.loop-i.i c.loop-i.whole c.set_objective.new.whole c.in-Ok.terms (rw c.items-rows.ensures at c.loop-i-test.false) c.loop-i.invariant c.in-Ok.ensures.cost c.in-Ok.ensures.terms

pub returns-in-Ok-clause-points : goal.returns-in-Ok-clause-points
returns-in-Ok-clause-points c = λ x.
    subst (λ (rows : IntegerRows). IsPoint c.args.model.now x ↔ Meets rows.whole x) (sym (returns-in-Ok-clause-rows c)) (points.points_meet_rows c.args.model.now x)

pub returns-in-Ok-clause-values : goal.returns-in-Ok-clause-values
returns-in-Ok-clause-values c = λ x point.
    subst (λ rows. value_at c.args.model.now x ≡ value_in rows x) (sym (returns-in-Ok-clause-rows c)) (points.values_kept c.args.model.now x (points.point_long c.args.model.now x point))

pub returns-in-Ok-clause-order : goal.returns-in-Ok-clause-order
returns-in-Ok-clause-order c = λ x y point other.
    subst (λ (rows : IntegerRows). (value_at c.args.model.now x ≤ℚ value_at c.args.model.now y) ↔ (cut_value rows.whole x ≤ℤ cut_value rows.whole y)) (sym (returns-in-Ok-clause-rows c)) (points.values_ordered c.args.model.now x y point other)

pub returns-in-Ok-clause-best : goal.returns-in-Ok-clause-best
returns-in-Ok-clause-best c = λ x.
    subst (λ (rows : IntegerRows). IsBest c.args.model.now x ↔ HasLeastCutValue rows.whole x) (sym (returns-in-Ok-clause-rows c)) (points.best_has_least c.args.model.now x)

pub returns-in-Err-set_objective-clause-large : goal.returns-in-Err-set_objective-clause-large
returns-in-Err-set_objective-clause-large c = λ part e.
    let made = (goal.at.returns-in-Err-set_objective-clause-large c).In_ok-whole in
    let small = columns made (box (goal.at.returns-in-Err-set_objective-clause-large c).In_ok-box_of) in
    let named = named_part c.in-Err-set_objective.stop c.at-in-Err-set_objective.result _ part c.at-in-Err-set_objective.ensures.large c.at-in-Err-set_objective.ensures.memory (cc) in
    subst (IsFirstLarge c.args.model.now) (sym named.1) (objective_is_first c.args.model.now (c.in-Err-set_objective.ensures.large (ap Err named.0)) small (rows_small c.args.model.now c.loop-i.i c.loop-i.whole (rw c.items-rows.ensures at c.loop-i-test.false) c.loop-i.invariant))
