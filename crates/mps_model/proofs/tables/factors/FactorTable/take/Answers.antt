-- What a pair that is judged, and taken, leaves beside the rows.
use Rattle.std.proofs.Common.{arith, sym, ap, ◌∙◌}
use Rattle.std.proofs.lemmas.Int.{ints}
use Rattle.mps_model.specs.declared.tables.factors.FactorTable.{FactorTable}
use Rattle.mps_model.specs.Bounds.{lines_of_column}
use Rattle.mps_model.specs.PairFaults.{pair_names}
use Rattle.mps_model.specs.DataLineViews.{pair_view}
use Rattle.mps_model.proofs.OnTables.ColumnItemLaws.{lines_to}
use Rattle.mps_model.proofs.OnTables.FactorTableLaws.{row_unknown, row_known, fault_unknown, fault_of_number, pair_twice, pair_taken, more_pushed, more_zero, more_unstated}
use Rattle.mps_model.proofs.OnLines.JudgingCallLaws.{judged_by_fault, same_number, other_number}
use Rattle.mps_model.proofs.tables.factors.FactorTable.take.Goals as goal
use Rattle.mps_model.proofs.tables.factors.FactorTable.take.Goals.{else-row-via-then-row+else-num-ne0, else-row-via-else-row}

pub returns-in_default-clause-judged : goal.returns-in_default-clause-judged
returns-in_default-clause-judged c = λ above line last keeps.
    fault_unknown c.args.rows.now (pair_names (lines_of_column (lines_to above line) line.label)) (pair_view c.args.pair)
    (row_unknown c.args.rows.now c.args.pair.name.now (sym c.find.ensures.place ∙ c.in_default.is))

pub returns-in_err-factor-clause-judged : goal.returns-in_err-factor-clause-judged
returns-in_err-factor-clause-judged c = λ above line last keeps.
    judged_by_fault _ _ c.from_residual.result _ c.from_residual.ensures.1
    (fault_of_number c.args.rows.now (pair_names (lines_of_column (lines_to above line) line.label)) (pair_view c.args.pair) c.in_err-factor.field-0.0
    (row_known c.args.rows.now c.args.pair.name.now c.in-Some.place (sym c.find.ensures.place ∙ c.in-Some.is))
    (sym c.number.ensures.value ∙ c.in_err-factor.was))

pub returns-then-eq-clause-judged : goal.returns-then-eq-clause-judged
returns-then-eq-clause-judged c = λ above line last keeps.
    pair_twice c.args.rows.now above line (pair_view c.args.pair) c.args.column c.in-Some.place c.args.self.now.rows.items c.index_mut-row.result.now
    c.find.ensures.distinct (sym c.find.ensures.place ∙ c.in-Some.is) last keeps.factors c.index_mut-row.ensures.value
    c.in_ok-factor.factor (sym c.number.ensures.value ∙ c.in_ok-factor.was) (same_number _ _ (sym c.eq.ensures ∙ c.if-eq.true))

pub returns-in_ok-push-clause-judged : goal.returns-in_ok-push-clause-judged
returns-in_ok-push-clause-judged c = λ above line last keeps.
    let taken =
    pair_taken c.args.rows.now above line (pair_view c.args.pair) c.args.column c.in-Some.place c.args.self.now.rows.items c.index_mut-row.result.now
    c.find.ensures.distinct (sym c.find.ensures.place ∙ c.in-Some.is) last keeps.factors c.index_mut-row.ensures.value
    c.in_ok-factor.factor (sym c.number.ensures.value ∙ c.in_ok-factor.was) (other_number _ _ (sym c.eq.ensures ∙ c.if-eq.false))
    c.push.new.self (more_pushed c.index_mut-row.result.now c.args.column c.in_ok-factor.factor c.push.new.self c.if-row.true (λ zero. omega (arith, ints)) c.in_ok-push.ensures.ok) in
    (taken.0, record { factors = taken.1 })

pub returns-else-row-clause-judged : goal.returns-else-row-clause-judged
returns-else-row-clause-judged c = λ above line last keeps.
    let taken =
    pair_taken c.args.rows.now above line (pair_view c.args.pair) c.args.column c.in-Some.place c.args.self.now.rows.items c.index_mut-row.result.now
    c.find.ensures.distinct (sym c.find.ensures.place ∙ c.in-Some.is) last keeps.factors c.index_mut-row.ensures.value
    c.in_ok-factor.factor (sym c.number.ensures.value ∙ c.in_ok-factor.was) (other_number _ _ (sym c.eq.ensures ∙ c.if-eq.false))
    c.index_mut-row.result.now.items
    (elim c.else-row.branch [
      | else-row-via-then-row+else-num-ne0 w ↦ more_zero c.index_mut-row.result.now c.args.column c.in_ok-factor.factor (omega (arith, ints))
      | else-row-via-else-row w ↦ more_unstated c.index_mut-row.result.now c.args.column c.in_ok-factor.factor w.if-row.false
    ]) in
    elim c.else-row.branch [
      | else-row-via-then-row+else-num-ne0 w ↦ (taken.0, record { factors = ap (λ (table : FactorTable). table.rows.items) w.self-is ∙ taken.1 })
      | else-row-via-else-row w ↦ (taken.0, record { factors = ap (λ (table : FactorTable). table.rows.items) w.self-is ∙ taken.1 })
    ]
