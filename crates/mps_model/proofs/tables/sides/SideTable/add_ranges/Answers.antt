use Rattle.std.proofs.Common.{◌≡◌, [], ◌∷◌, ◌++◌, map, length, Some, None, refl, sym, ap, subst, ◌∙◌}
use Rattle.std.specs.Prelude.{option_map}
use Rattle.std.proofs.lemmas.Result.{err_from_is_err_and}
use Rattle.mps_model.specs.Tables.{Tables}
use Rattle.mps_model.specs.Sides.{pairs_of}
use Rattle.mps_model.specs.RowFaults.{row_names}
use Rattle.mps_model.specs.PairFaults.{range_fault, pair_names, first_label, set_fault}
use Rattle.mps_model.specs.DataLineViews.{pair_view, second_view, pair_line_view}
use Rattle.mps_model.specs.KeptSides.{opening_fault, names_in, padded, end_in, KeepsPairs, KeepsRanges}
use Rattle.mps_model.proofs.OnLines.JudgingCallLaws.{judges_like, judges_stop}
use Rattle.mps_model.proofs.OnTables.SideTableLaws.{first_pair, one_pair, two_pairs, both_pairs}
use Rattle.mps_model.proofs.OnTables.RangeTableLaws.{range_asks, keeps_ranges}
use Rattle.mps_model.proofs.tables.sides.SideTable.add_ranges.Goals as goal
use Rattle.mps_model.proofs.tables.sides.SideTable.add_ranges.Goals.{In_ok-line}

-- the line that was opened
line_is : (c : In_ok-line) → option_map pair_line_view c.args.line ≡ Some (pair_line_view c.in_ok-line.line)
line_is c = ap (option_map pair_line_view) c.in_ok-line.ensures.line

module _ (c : In_ok-line) (above : Tables) (are : above.rows ≡ c.args.rows.now) (kept : KeepsRanges above.rows above.sides above.ranges c.args.self.now) where
  fine : opening_fault (first_label above.ranges) (Some (pair_line_view c.in_ok-line.line)) ≡ None
  fine = ap (λ first. opening_fault first (Some (pair_line_view c.in_ok-line.line))) (sym kept.set) ∙ ap (opening_fault _) (sym (line_is c)) ∙ c.in_ok-line.ensures.judged.0

  made : c.open.new.self.numbers.items ≡ map (end_in above.sides (pairs_of above.ranges)) c.args.rows.now
  made =
      c.in_ok-line.ensures.judged.1 ∙ ap (λ n. padded n c.args.self.now.numbers.items) (c.len.ensures.len ∙ ap length (sym are))
      ∙ kept.ends ∙ ap (map (end_in above.sides (pairs_of above.ranges))) are

  sides_kept : KeepsPairs (row_names above.rows) above.sides c.args.sides.now → KeepsPairs (row_names c.args.rows.now) above.sides c.args.sides.now
  sides_kept sides = subst (λ rows. KeepsPairs (row_names rows) above.sides c.args.sides.now) are sides

pub returns-in_err-add_range : goal.returns-in_err-add_range
returns-in_err-add_range c = λ above are sides kept.
    let d = (goal.at.returns-in_err-add_range c).In_ok-line in
    let p = err_from_is_err_and c.from_residual-in_err-add_range.result c.from_residual-in_err-add_range.ensures.1 in
    let line = pair_line_view c.in_ok-line.line in
    let first = pair_view c.in_ok-line.line.first in
    rw (line_is d, p.1, p.2)
    (judges_stop (Unit {0}) (Unit {0}) (c.add_range.new.self.numbers.items ≡ map (end_in above.sides (pairs_of above.ranges ++ first ∷ [])) c.args.rows.now)
    (KeepsRanges above.rows above.sides (above.ranges ++ line ∷ []) c.add_range.new.self) (range_fault above (pair_names above.ranges) first)
    (set_fault (range_fault above) above.ranges (Some line)) c.in_err-add_range.field-0.0
    (λ kind. first_pair (range_fault above) (range_asks above) above.ranges line (fine d above are kept) first (second_view c.in_ok-line.line.second) kind refl)
    (c.in_err-add_range.ensures.judged above (pairs_of above.ranges) are (sides_kept d above are kept sides) (made d above are kept)))

pub returns-in-Some : goal.returns-in-Some
returns-in-Some c = λ above are sides kept.
    let d = (goal.at.returns-in-Some c).In_ok-line in
    let line = pair_line_view c.in_ok-line.line in
    let first = pair_view c.in_ok-line.line.first in
    let second = pair_view c.in-Some.pair in
    let pairs = pairs_of above.ranges in
    let pairs_are : line.pairs ≡ first ∷ second ∷ [] = ap (λ o. first ∷ second_view o) c.in-Some.is in
    let one = c.in_ok-add_range.ensures.judged above pairs are (sides_kept d above are kept sides) (made d above are kept) in
    rw (line_is d)
    (judges_like (range_fault above (names_in (pairs ++ first ∷ [])) second) (set_fault (range_fault above) above.ranges (Some line)) c.add_range-in-Some.result
    (two_pairs (range_fault above) (range_asks above) above.ranges line (fine d above are kept) first second pairs_are one.0)
    (λ none ends.
    keeps_ranges above.rows above.sides above.ranges line c.in_ok-line.line.label c.args.self.now c.add_range-in-Some.new.self kept refl
    (c.add_range-in-Some.ensures.set ∙ c.in_ok-add_range.ensures.set ∙ c.in_ok-line.ensures.set)
    (ends ∙ both_pairs (λ all. map (end_in above.sides all) c.args.rows.now) above.ranges line first second pairs_are ∙ ap (map (end_in above.sides (pairs ++ line.pairs))) (sym are)))
    (c.add_range-in-Some.ensures.judged above (pairs ++ first ∷ []) are (sides_kept d above are kept sides) one.1))

pub returns-in-None : goal.returns-in-None
returns-in-None c = λ above are sides kept.
    let d = (goal.at.returns-in-None c).In_ok-line in
    let line = pair_line_view c.in_ok-line.line in
    let first = pair_view c.in_ok-line.line.first in
    let pairs = pairs_of above.ranges in
    let pairs_are : line.pairs ≡ first ∷ [] = ap (λ o. first ∷ second_view o) c.in-None.is in
    let one = c.in_ok-add_range.ensures.judged above pairs are (sides_kept d above are kept sides) (made d above are kept) in
    rw (line_is d) (
      one_pair (range_fault above) (range_asks above) above.ranges line (fine d above are kept) first pairs_are one.0,
      keeps_ranges above.rows above.sides above.ranges line c.in_ok-line.line.label c.args.self.now c.add_range.new.self kept refl (c.in_ok-add_range.ensures.set ∙ c.in_ok-line.ensures.set)
          (one.1 ∙ ap (λ rest. map (end_in above.sides (pairs ++ rest)) c.args.rows.now) (sym pairs_are) ∙ ap (map (end_in above.sides (pairs ++ line.pairs))) (sym are)),
    )
