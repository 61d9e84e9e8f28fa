use Rattle.std.proofs.Common.{sym, ap, ◌∙◌, ◌&&◌}
use Rattle.std.specs.Prelude.{is_none}
use Rattle.std.specs.Bool.{then_some}
use Rattle.mps_model.specs.declared.fault.FaultKind.TheVariants as faults
use Rattle.mps_model.specs.Sides.{is_negative}
use Rattle.mps_model.proofs.OnModel.ColumnJudgementLaws as Laws
use Rattle.mps_model.proofs.model.column_judgement.column_fault.Goals as goal

pub returns-then-not-is_between-said : goal.returns-then-not-is_between-said
returns-then-not-is_between-said c = λ tables column upper between says gives.
    sym (Laws.continuous tables column upper c.args.is_between c.args.said.now c.args.given.now between says gives c.if-not-is_between-said.true)

pub returns-then-is_none : goal.returns-then-is_none
returns-then-is_none c = λ tables column upper between says gives.
    sym (Laws.no_lower tables column upper c.args.is_between c.args.said.now c.args.given.now between says gives c.if-not-is_between-said.false
    (ap is_none (sym c.lower_side.ensures) ∙ Laws.none_from_some _ _ c.is_none.ensures ∙ c.if-is_none.true))

pub returns-in_default : goal.returns-in_default
returns-in_default c = λ tables column upper between says gives.
    sym (Laws.no_upper tables column upper c.args.is_between c.args.said.now c.args.given.now between says gives c.if-not-is_between-said.false
    (ap is_none (sym c.lower_side.ensures) ∙ Laws.none_from_some _ _ c.is_none.ensures ∙ c.if-is_none.false)
    (sym c.upper_side.ensures ∙ c.in_default.is))

pub returns : goal.returns
returns c = λ tables column upper between says gives.
    c.then_some.ensures
    ∙ ap (λ b. then_some (b && c.is_none-2.result) faults.NegativeUpper) c.is_negative.ensures
    ∙ Laws.then_some-cond (is_negative c.in-Some.upper) (is_none c.args.said.now.lower) c.is_none-2.result faults.NegativeUpper
    (sym (Laws.none_from_some c.args.said.now.lower c.is_none-2.result c.is_none-2.ensures))
    ∙ sym (Laws.negative_upper tables column upper c.args.is_between c.args.said.now c.args.given.now between says gives c.in-Some.upper c.if-not-is_between-said.false
    (ap is_none (sym c.lower_side.ensures) ∙ Laws.none_from_some _ _ c.is_none.ensures ∙ c.if-is_none.false)
    (sym c.upper_side.ensures ∙ c.in-Some.is))
