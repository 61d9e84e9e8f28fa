use Rattle.std.proofs.Common.{◌+◌, ap, ◌∙◌}
use Rattle.mps_fields.specs.FreeFields.{Span, FreeLine, with_field}
use Rattle.mps_fields.specs.declared.free_form.FreeFields.TheInside.{Inside}
use Rattle.mps_fields.proofs.KeptFieldLaws.{kept, kept_more, kept_full}
use Rattle.mps_fields.proofs.free_form.FreeFields.add.Goals as goal
use Rattle.mps_fields.proofs.free_form.FreeFields.add.Goals.{then-self-lt-MOST_FIELDS, else-self-lt-MOST_FIELDS}

-- the fields after one more is counted
one_more : Inside → FreeLine
one_more x = record { fields = kept x.fields (x.count + 1); count = x.count + 1; number = x.line }

pub returns : goal.returns
unfolding one_more
returns c =
    let s = c.self.inside in
    let field : Span = record { at = c.args.at; text = c.args.text.now } in
    elim c.if-self-lt-MOST_FIELDS.branch [
      | then-self-lt-MOST_FIELDS w ↦ ap one_more w.self-inside-is ∙ ap (λ fs. record { fields = fs; count = s.count + 1; number = s.line }) (kept_more s.fields s.count _ c.self.invariant.six w.if-self-lt-MOST_FIELDS.true) ∙ ap (λ f. with_field f field) c.self.view_is
      | else-self-lt-MOST_FIELDS w ↦ ap one_more w.self-inside-is ∙ ap (λ fs. record { fields = fs; count = s.count + 1; number = s.line }) (kept_full s.fields s.count field c.self.invariant.six w.if-self-lt-MOST_FIELDS.false) ∙ ap (λ f. with_field f field) c.self.view_is
    ]
