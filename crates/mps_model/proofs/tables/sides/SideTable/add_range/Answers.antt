use Rattle.std.proofs.Common.{◌≡◌, cond, Some, None, is_some, sym, ap, ap₂, ◌∙◌}
use Rattle.std.specs.Prelude.{bytes_eq}
use Rattle.std.proofs.lemmas.Result.{err_from_is_err_and}
use Rattle.exact_math.specs.Rational.{◌+ℚ◌}
use Rattle.mps_model.specs.declared.fault.FaultKind.TheVariants as faults
use Rattle.mps_model.specs.Sides.{sum_fits}
use Rattle.mps_model.specs.RowFaults.{row_names}
use Rattle.mps_model.specs.RowKinds.{row_of}
use Rattle.mps_model.specs.PairFaults.{row_named, range_fault}
use Rattle.mps_model.specs.DataLineViews.{pair_view}
use Rattle.mps_model.specs.KeptSides.{number_in, names_in}
use Rattle.mps_model.proofs.OnLines.JudgingCallLaws.{judges_like}
use Rattle.mps_model.specs.FirstPlaceLaws.{IsFirst, is_first, row_found}
use Rattle.mps_model.proofs.OnTables.PairLaws.{not_chosen}
use Rattle.mps_model.proofs.OnTables.SumRangeLaws.{sum_fits_decides}
use Rattle.mps_model.proofs.OnTables.RangeTableLaws.{range_on_free, range_no_number, range_too_wide, range_left, wide_sum, side_found, end_taken, end_put}
use Rattle.mps_model.proofs.tables.sides.SideTable.add_range.Goals as goal
use Rattle.mps_model.proofs.tables.sides.SideTable.add_range.Goals.{After-kind-kind}

-- the place of the name, and its row
place_is : (c : After-kind-kind) → IsFirst (bytes_eq c.args.pair.name.now) (row_names c.args.rows.now) c.in-Some.row
place_is c = is_first (bytes_eq c.args.pair.name.now) (row_names c.args.rows.now) c.in-Some.row (sym c.find.ensures.place ∙ c.in-Some.is)

row_is : (c : After-kind-kind) → row_named c.args.rows.now c.args.pair.name.now ≡ Some (row_of c.kind-kind.result c.args.pair.name.now)
row_is c = row_found c.args.rows.now c.args.pair.name.now c.in-Some.row c.kind-kind.result (place_is c) c.kind-kind.ensures

pub returns-then-not-has_sides-clause-judged : goal.returns-then-not-has_sides-clause-judged
returns-then-not-has_sides-clause-judged c = λ above pairs are sides kept.
    range_on_free above c.args.rows.now (names_in pairs) (pair_view c.args.pair) c.kind-kind.result c.args.pair.name.now are (sym c.in-Some.ensures.found)
    (row_is (goal.at.returns-then-not-has_sides-clause-judged c).After-kind-kind) (sym (c.has_sides.ensures c.args.pair.name.now) ∙ c.if-not-has_sides.true)

pub returns-in_err-range-clause-judged : goal.returns-in_err-range-clause-judged
returns-in_err-range-clause-judged c = λ above pairs are sides kept.
    let p = err_from_is_err_and c.from_residual.result c.from_residual.ensures.1 in
    rw (p.1, p.2)
    (range_no_number above c.args.rows.now (names_in pairs) (pair_view c.args.pair) c.kind-kind.result c.args.pair.name.now are (sym c.in-Some.ensures.found)
    (row_is (goal.at.returns-in_err-range-clause-judged c).After-kind-kind) c.in_err-range.field-0.0
    (sym (c.has_sides.ensures c.args.pair.name.now) ∙ c.if-not-has_sides.false) (sym c.in_err-range.ensures.value))

pub returns-in_default-add-clause-judged : goal.returns-in_default-add-clause-judged
returns-in_default-add-clause-judged c = λ above pairs are sides kept.
    let name = c.args.pair.name.now in
    let k = (goal.at.returns-in_default-add-clause-judged c).After-kind-kind in
    let side = side_found c.args.rows.now above c.args.sides.now name c.in-Some.row c.number_or_zero-side.result (place_is k) sides c.number_or_zero-side.ensures in
    range_too_wide above c.args.rows.now (names_in pairs) (pair_view c.args.pair) c.kind-kind.result name are (sym c.in-Some.ensures.found) (row_is k) c.in_ok-range.range
    (sym (c.has_sides.ensures name) ∙ c.if-not-has_sides.false) (sym c.in_ok-range.ensures.value)
    (ap₂ sum_fits (sym side) (sym (c.range_step.ensures name)) ∙ wide_sum c.number_or_zero-side.result c.range_step.result c.in_default-add.ensures)

pub returns-clause-judged : goal.returns-clause-judged
returns-clause-judged c = λ above pairs are sides kept.
    let rows = c.args.rows.now in
    let pair = pair_view c.args.pair in
    let name = c.args.pair.name.now in
    let kind = c.kind-kind.result in
    let numbers = c.args.self.now.numbers.items in
    let place = c.in-Some.row in
    let taken = is_some (number_in numbers place) in
    let k = (goal.at.returns-clause-judged c).After-kind-kind in
    let side = side_found rows above c.args.sides.now name place c.number_or_zero-side.result (place_is k) sides c.number_or_zero-side.ensures in
    let step = c.range_step.ensures name in
    let left =
    range_left above rows (names_in pairs) pair kind name are (sym c.in-Some.ensures.found) (row_is k) c.in_ok-range.range
    (sym (c.has_sides.ensures name) ∙ c.if-not-has_sides.false) (sym c.in_ok-range.ensures.value)
    (ap₂ sum_fits (sym side) (sym step) ∙ (sum_fits_decides c.number_or_zero-side.result c.range_step.result).1 c.in-Ok.ensures.0)
    in
    let same : cond taken (Some faults.Duplicate) None ≡ range_fault above (names_in pairs) pair =
    ap (λ b. cond b (Some faults.Duplicate) None) (end_taken above.sides rows c.find.ensures.distinct pairs pair place kind (place_is k) c.kind-kind.ensures numbers kept) ∙ sym left
    in
    judges_like (cond taken (Some faults.Duplicate) None) (range_fault above (names_in pairs) pair) c.put.result same
    (λ none set_is.
    set_is
    ∙ end_put above.sides rows c.find.ensures.distinct pairs pair place kind (place_is k) c.kind-kind.ensures numbers kept c.in_ok-range.range c.in-Ok.end
    (sym c.in_ok-range.ensures.value) (c.in-Ok.ensures.1 ∙ ap₂ ◌+ℚ◌ side step) (not_chosen taken faults.Duplicate (same ∙ none)))
    c.put.ensures.judged
