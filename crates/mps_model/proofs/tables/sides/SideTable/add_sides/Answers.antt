use Rattle.std.proofs.Common.{◌≡◌, List, [], ◌∷◌, ◌++◌, map, Some, None, refl, sym, ap, ◌∙◌}
use Rattle.std.specs.Prelude.{option_map}
use Rattle.std.proofs.lemmas.Result.{err_from_is_err_and}
use Rattle.mps_model.specs.Tables.{PairLine}
use Rattle.mps_model.specs.Sides.{number_beside, pairs_of}
use Rattle.mps_model.specs.RowFaults.{row_names}
use Rattle.mps_model.specs.PairFaults.{pair_fault, pair_names, first_label, set_fault}
use Rattle.mps_model.specs.DataLineViews.{pair_view, second_view, pair_line_view}
use Rattle.mps_model.specs.KeptSides.{opening_fault, names_in, KeepsPairs}
use Rattle.mps_model.proofs.OnLines.JudgingCallLaws.{judges_like, judges_stop}
use Rattle.mps_model.proofs.OnTables.SideTableLaws.{first_pair, one_pair, two_pairs, pair_asks, keeps_line, room_made, both_pairs}
use Rattle.mps_model.proofs.tables.sides.SideTable.add_sides.Goals as goal
use Rattle.mps_model.proofs.tables.sides.SideTable.add_sides.Goals.{In_ok-line, In_ok-add_side}

-- the line that was opened
line_is : (c : In_ok-line) → option_map pair_line_view c.args.line ≡ Some (pair_line_view c.in_ok-line.line)
line_is c = ap (option_map pair_line_view) c.in_ok-line.ensures.line

fine : (c : In_ok-line) (lines : List PairLine) → KeepsPairs (row_names c.args.rows.now) lines c.args.self.now → opening_fault (first_label lines) (Some (pair_line_view c.in_ok-line.line)) ≡ None
fine c lines kept = ap (λ first. opening_fault first (Some (pair_line_view c.in_ok-line.line))) (sym kept.set) ∙ ap (opening_fault _) (sym (line_is c)) ∙ c.in_ok-line.ensures.judged.0

made : (c : In_ok-line) (lines : List PairLine) → KeepsPairs (row_names c.args.rows.now) lines c.args.self.now → c.open.new.self.numbers.items ≡ map (number_beside (pairs_of lines)) (row_names c.args.rows.now)
made c lines kept = room_made (row_names c.args.rows.now) c.args.rows.now lines c.args.self.now c.open.new.self.numbers.items c.len.result refl kept c.len.ensures.len c.in_ok-line.ensures.judged.1

pub returns-in_err-add_side : goal.returns-in_err-add_side
returns-in_err-add_side c = λ lines kept.
    let d = (goal.at.returns-in_err-add_side c).In_ok-line in
    let p = err_from_is_err_and c.from_residual-in_err-add_side.result c.from_residual-in_err-add_side.ensures.1 in
    let line = pair_line_view c.in_ok-line.line in
    let first = pair_view c.in_ok-line.line.first in
    let names = row_names c.args.rows.now in
    rw (line_is d, p.1, p.2)
    (judges_stop (Unit {0}) (Unit {0}) (c.add_side.new.self.numbers.items ≡ map (number_beside (pairs_of lines ++ first ∷ [])) names)
    (KeepsPairs names (lines ++ line ∷ []) c.add_side.new.self) (pair_fault c.args.rows.now (pair_names lines) first) (set_fault (pair_fault c.args.rows.now) lines (Some line))
    c.in_err-add_side.field-0.0
    (λ kind. first_pair (pair_fault c.args.rows.now) (pair_asks c.args.rows.now) lines line (fine d lines kept) first (second_view c.in_ok-line.line.second) kind refl)
    (c.in_err-add_side.ensures.judged (pairs_of lines) (made d lines kept)))

pub returns-in-Some : goal.returns-in-Some
returns-in-Some c = λ lines kept.
    let d = (goal.at.returns-in-Some c).In_ok-line in
    let line = pair_line_view c.in_ok-line.line in
    let first = pair_view c.in_ok-line.line.first in
    let second = pair_view c.in-Some.pair in
    let names = row_names c.args.rows.now in
    let are : line.pairs ≡ first ∷ second ∷ [] = ap (λ o. first ∷ second_view o) c.in-Some.is in
    let one = c.in_ok-add_side.ensures.judged (pairs_of lines) (made d lines kept) in
    rw (line_is d)
    (judges_like (pair_fault c.args.rows.now (names_in (pairs_of lines ++ first ∷ [])) second) (set_fault (pair_fault c.args.rows.now) lines (Some line)) c.add_side-in-Some.result
    (two_pairs (pair_fault c.args.rows.now) (pair_asks c.args.rows.now) lines line (fine d lines kept) first second are one.0)
    (λ none numbers.
    keeps_line names lines line c.in_ok-line.line.label c.args.self.now c.add_side-in-Some.new.self kept refl
    (c.add_side-in-Some.ensures.set ∙ c.in_ok-add_side.ensures.set ∙ c.in_ok-line.ensures.set) (numbers ∙ both_pairs (λ pairs. map (number_beside pairs) names) lines line first second are))
    (c.add_side-in-Some.ensures.judged (pairs_of lines ++ first ∷ []) one.1))

pub returns-in-None : goal.returns-in-None
returns-in-None c = λ lines kept.
    let d = (goal.at.returns-in-None c).In_ok-line in
    let line = pair_line_view c.in_ok-line.line in
    let first = pair_view c.in_ok-line.line.first in
    let names = row_names c.args.rows.now in
    let are : line.pairs ≡ first ∷ [] = ap (λ o. first ∷ second_view o) c.in-None.is in
    let one = c.in_ok-add_side.ensures.judged (pairs_of lines) (made d lines kept) in
    rw (line_is d) (
      one_pair (pair_fault c.args.rows.now) (pair_asks c.args.rows.now) lines line (fine d lines kept) first are one.0,
      keeps_line names lines line c.in_ok-line.line.label c.args.self.now c.add_side.new.self kept refl (c.in_ok-add_side.ensures.set ∙ c.in_ok-line.ensures.set)
          (one.1 ∙ ap (λ pairs. map (number_beside (pairs_of lines ++ pairs)) names) (sym are)),
    )
