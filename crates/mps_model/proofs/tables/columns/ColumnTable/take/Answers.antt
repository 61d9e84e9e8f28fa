-- A line of a column is judged and taken in steps: its name, and then its pairs.
use Rattle.std.proofs.Common.{List, [], ◌∷◌, Option, Some, Ok, refl, sym, ap, subst, ◌∙◌}
use Rattle.std.specs.Prelude.{option_map}
use Rattle.mps_model.specs.declared.lines.data_line.Pair.{Pair as PairSlices}
use Rattle.mps_model.specs.Tables.{RowLine, PairLine}
use Rattle.mps_model.specs.DataLineViews.{pair_view, second_view, pair_line_view}
use Rattle.mps_model.specs.KeptColumns.{KeepsColumns}
use Rattle.mps_model.specs.ColumnTables.{bare_line, with_pair}
use Rattle.mps_model.proofs.OnLines.JudgingCallLaws.{judges_like, judged_by_part}
use Rattle.mps_model.proofs.OnTables.ColumnTableLaws.{kept-with_pair, last-with_pair}
use Rattle.mps_model.proofs.OnTables.ColumnLineFaultLaws.{judged_at, fault_of_first, fault_of_one, fault_of_second}
use Rattle.mps_model.proofs.tables.columns.ColumnTable.take.Goals as goal

pub returns-in_err-take-clause-judged : goal.returns-in_err-take-clause-judged
returns-in_err-take-clause-judged c = λ above same keeps.
    let rows = c.args.rows.now in
    let lines = above.columns in
    let line = c.in-Some.line in
    let bare = bare_line line.at line.label.now in
    let kept = subst (λ (rows : List RowLine). KeepsColumns rows lines c.args.self.now) same keeps in
    let begun = c.in_ok-column.ensures.judged rows lines kept in
    judged_at above rows (option_map pair_line_view c.args.line) (Some (pair_line_view line)) _ _ same (ap (option_map pair_line_view) c.in-Some.is)
    (judged_by_part _ _ _ _ _ c.take.result c.in_err-take.field-0.0
    (c.take.ensures.judged lines bare (c.in_ok-column.ensures.last rows lines kept) begun.1.factors) c.in_err-take.was c.from_residual-in_err-take.ensures.1
    (λ kind wrong. fault_of_first rows lines line.at line.label.now (pair_view line.first) (second_view line.second) kind begun.0 wrong))

pub returns-in-Some-second-clause-judged : goal.returns-in-Some-second-clause-judged
returns-in-Some-second-clause-judged c = λ above same keeps.
    let rows = c.args.rows.now in
    let lines = above.columns in
    let line = c.in-Some.line in
    let bare = bare_line line.at line.label.now in
    let first = pair_view line.first in
    let second = pair_view c.in-Some-second.pair in
    let kept = subst (λ (rows : List RowLine). KeepsColumns rows lines c.args.self.now) same keeps in
    let begun = c.in_ok-column.ensures.judged rows lines kept in
    let last = c.in_ok-column.ensures.last rows lines kept in
    let one = c.in_ok-take.ensures.judged lines bare last begun.1.factors in
    let said : Option PairSlices → Option PairLine = λ second. Some (record { at = line.at; label = line.label.now; pairs = first ∷ second_view second }) in
    judged_at above rows (option_map pair_line_view c.args.line) (Some (record { at = line.at; label = line.label.now; pairs = first ∷ second ∷ [] })) _ _ same
    (ap (option_map pair_line_view) c.in-Some.is ∙ ap said c.in-Some-second.is)
    (judges_like _ _ c.take-in-Some-second.result (sym (fault_of_second rows lines line.at line.label.now first second begun.0 one.0))
    (λ none two. kept-with_pair rows lines (with_pair bare first) second _ _ (kept-with_pair rows lines bare first c.begin.new.self (record c.begin.new.self { factors = c.take.new.self }) begun.1 refl refl refl refl one.1)
    refl refl refl refl two)
    (c.take-in-Some-second.ensures.judged lines (with_pair bare first) (last-with_pair lines bare first line.label.now c.in_ok-column.column last) one.1))

pub returns-in-None-clause-judged : goal.returns-in-None-clause-judged
returns-in-None-clause-judged c = λ above same keeps.
    let rows = c.args.rows.now in
    let lines = above.columns in
    let line = c.in-Some.line in
    let bare = bare_line line.at line.label.now in
    let first = pair_view line.first in
    let kept = subst (λ (rows : List RowLine). KeepsColumns rows lines c.args.self.now) same keeps in
    let begun = c.in_ok-column.ensures.judged rows lines kept in
    let one = c.in_ok-take.ensures.judged lines bare (c.in_ok-column.ensures.last rows lines kept) begun.1.factors in
    let said : Option PairSlices → Option PairLine = λ second. Some (record { at = line.at; label = line.label.now; pairs = first ∷ second_view second }) in
    judged_at above rows (option_map pair_line_view c.args.line) (Some (record { at = line.at; label = line.label.now; pairs = first ∷ [] })) _ (Ok (tt {0})) same
    (ap (option_map pair_line_view) c.in-Some.is ∙ ap said c.in-None.is) (
      fault_of_one rows lines line.at line.label.now first begun.0 one.0,
      kept-with_pair rows lines bare first c.begin.new.self _ begun.1 refl refl refl refl one.1,
    )
