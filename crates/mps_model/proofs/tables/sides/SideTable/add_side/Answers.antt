use Rattle.std.proofs.Common.{◌≡◌, cond, Some, None, is_some, bytes_eq, sym, ap, ◌∙◌}
use Rattle.mps_model.specs.declared.fault.FaultKind.TheVariants as faults
use Rattle.mps_model.specs.RowFaults.{row_names}
use Rattle.mps_model.specs.PairFaults.{pair_fault}
use Rattle.mps_model.specs.DataLineViews.{pair_view}
use Rattle.mps_model.specs.KeptSides.{number_in, names_in}
use Rattle.mps_model.proofs.OnLines.JudgingCallLaws.{judges_like}
use Rattle.mps_model.specs.FirstPlaceLaws.{is_first}
use Rattle.mps_model.proofs.OnTables.PairLaws.{not_chosen, place_taken, pair_put, pair_left}
use Rattle.mps_model.proofs.tables.sides.SideTable.add_side.Goals as goal

pub returns-clause-judged : goal.returns-clause-judged
returns-clause-judged c = λ pairs kept.
    let names = row_names c.args.rows.now in
    let pair = pair_view c.args.pair in
    let first = is_first (bytes_eq pair.name) names c.in-Some.row (sym c.find.ensures.place ∙ c.in-Some.is) in
    let numbers = c.args.self.now.numbers.items in
    let taken = is_some (number_in numbers c.in-Some.row) in
    let same : cond taken (Some faults.Duplicate) None ≡ pair_fault c.args.rows.now (names_in pairs) pair =
    ap (λ b. cond b (Some faults.Duplicate) None) (place_taken names c.find.ensures.distinct pairs pair c.in-Some.row first numbers kept)
    ∙ sym (pair_left c.args.rows.now (names_in pairs) pair c.in_ok-number.number (sym c.in-Some.ensures.found) (sym c.in_ok-number.ensures.value))
    in
    judges_like (cond taken (Some faults.Duplicate) None) (pair_fault c.args.rows.now (names_in pairs) pair) c.put.result same
    (λ none set_is.
    set_is
    ∙ pair_put names c.find.ensures.distinct pairs pair c.in-Some.row first numbers kept c.in_ok-number.number (sym c.in_ok-number.ensures.value) (not_chosen taken faults.Duplicate (same ∙ none)))
    c.put.ensures.judged
