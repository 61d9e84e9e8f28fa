use Rattle.std.proofs.Common.{◌<◌, length, get_or, [], false, sym, ap, ◌∙◌, arith}
use Rattle.std.specs.Prelude.{option_map}
use Rattle.mps_model.specs.Bounds.{column_names}
use Rattle.mps_model.specs.Meaning.{fault_on, column_fault_at}
use Rattle.mps_model.proofs.OnModel.ColumnJudgementLaws as Laws
use Rattle.mps_model.proofs.model.column_judgement.first_fault.Goals as goal

pub returns-in-Some : goal.returns-in-Some
returns-in-Some c = λ tables upper starts keeps gives.
    let i = c.loop-column.column in
    let names = column_names tables.columns in
    let within : i < length names = omega (arith, Laws.same_length tables c.args.starts.now i starts) in
    let start = Laws.start_is tables c.args.starts.now i starts _ within in
    let kind = c.column_fault.ensures tables (get_or names i []) upper (ap (λ s. s.is_between) start) (c.of.ensures names tables.bounds keeps within) gives in
    sym (Laws.first_found (column_fault_at upper tables) names i [] _ within (c.loop-column.invariant tables upper starts keeps gives)
    (Laws.fault_is tables c.args.starts.now i starts upper c.column_fault.result _ within kind ∙ ap (option_map (fault_on _)) c.in-Some.is))

pub loop-column-preserved : goal.loop-column-preserved
loop-column-preserved c = λ tables upper starts keeps gives.
    let i = c.loop-column.column in
    let names = column_names tables.columns in
    let within : i < length names = omega (arith, Laws.same_length tables c.args.starts.now i starts) in
    let start = Laws.start_is tables c.args.starts.now i starts _ within in
    let kind = c.column_fault.ensures tables (get_or names i []) upper (ap (λ s. s.is_between) start) (c.of.ensures names tables.bounds keeps within) gives in
    Laws.none_more (column_fault_at upper tables) names i [] within (c.loop-column.invariant tables upper starts keeps gives)
    (Laws.fault_is tables c.args.starts.now i starts upper c.column_fault.result (record { line = 0; is_between = false }) within kind ∙ ap (option_map (fault_on _)) c.in_default.is)

pub returns : goal.returns
returns c = λ tables upper starts keeps gives.
    sym (Laws.none_all (column_fault_at upper tables) (column_names tables.columns) c.loop-column.column []
    (omega (arith, Laws.same_length tables c.args.starts.now c.loop-column.column starts))
    (c.loop-column.invariant tables upper starts keeps gives))
