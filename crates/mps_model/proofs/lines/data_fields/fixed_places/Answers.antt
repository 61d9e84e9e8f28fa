use Rattle.std.proofs.Common.{sym, ap, ◌∙◌}
use Rattle.std.specs.Prelude.{is_some, slice_get}
use Rattle.mps_model.proofs.OnLines.FieldTextLaws.{text_of_span, fails_with}
use Rattle.mps_model.proofs.lines.data_fields.fixed_places.Goals as goal

pub returns-in_err-fields-clause-columns : goal.returns-in_err-fields-clause-columns
returns-in_err-fields-clause-columns c = ap is_some c.from_residual.ensures ∙ fails_with _ c.in_err-fields.ensures.in_columns.1

pub returns-clause-fields : goal.returns-clause-fields
returns-clause-fields c =
    let line = c.in_ok-fields.ensures.fields in
    let first = c.text.ensures ∙ text_of_span _ _ (sym (ap (λ f. slice_get f.fields 0) line) ∙ c.field.ensures.span) in
    let second = c.text-2.ensures ∙ text_of_span _ _ (sym (ap (λ f. slice_get f.fields 1) line) ∙ c.field-2.ensures.span) in
    let third = c.text-3.ensures ∙ text_of_span _ _ (sym (ap (λ f. slice_get f.fields 2) line) ∙ c.field-3.ensures.span) in
    let fourth = c.text-4.ensures ∙ text_of_span _ _ (sym (ap (λ f. slice_get f.fields 3) line) ∙ c.field-4.ensures.span) in
    let fifth = c.text-5.ensures ∙ text_of_span _ _ (sym (ap (λ f. slice_get f.fields 4) line) ∙ c.field-5.ensures.span) in
    let sixth = c.text-6.ensures ∙ text_of_span _ _ (sym (ap (λ f. slice_get f.fields 5) line) ∙ c.field-6.ensures.span) in
    cc (first, second, third, fourth, fifth, sixth)
