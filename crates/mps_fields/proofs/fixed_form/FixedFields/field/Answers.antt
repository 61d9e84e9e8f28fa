use Rattle.std.proofs.Common.{◌≡◌, ◌-◌, Some, sym, ap, ◌∙◌, arith}
use Rattle.std.specs.Prelude.{slice_get}
use Rattle.mps_fields.proofs.fixed_form.FixedFields.field.Goals as goal

pub returns-in_default-clause-span : goal.returns-in_default-clause-span
returns-in_default-clause-span c =
    let six : c.args.i ≡ 6 = omega arith in
    ap (λ n. slice_get c.args.self.now.fields (n - 1)) six ∙ ap (λ line. slice_get line.fields 5) (sym c.self.view_is) ∙ ap Some (sym c.field_between-in_default.ensures.span)
