use Rattle.std.proofs.Common.{true≢false, refl, take, take_all, sym, ap, ◌∙◌, subst}
use Rattle.std.specs.Prelude.{bytes_eq}
use Rattle.std.specs.List.{list_any}
use Rattle.int_model.specs.declared.model.Row.{Row}
use Rattle.mps_write.proofs.CodeLaws.{Differ, differ_more, differ_not}
use Rattle.mps_write.proofs.plain.do_row_names_differ.Goals as goal

pub returns-then-has_row_name : goal.returns-then-has_row_name
returns-then-has_row_name c =
    let any = sym (ap (λ name. list_any (λ (other : Row). bytes_eq other.name name) (take c.loop-place.place c.args.rows.now)) c.items.ensures) ∙ sym c.has_row_name.ensures ∙ c.if-has_row_name.true in (
      λ e. absurd (true≢false (sym e)),
      λ differ. absurd (differ_not (λ (other : Row). other.name) c.args.rows.now c.loop-place.place c.index-rows-place.result c.loop-place-test.true c.index-rows-place.is any differ),
    )

pub loop-place-preserved : goal.loop-place-preserved
loop-place-preserved c =
    let none = sym (ap (λ name. list_any (λ (other : Row). bytes_eq other.name name) (take c.loop-place.place c.args.rows.now)) c.items.ensures) ∙ sym c.has_row_name.ensures ∙ c.if-has_row_name.false in
    differ_more (λ (other : Row). other.name) c.args.rows.now c.loop-place.place c.index-rows-place.result c.loop-place-test.true c.index-rows-place.is c.loop-place.invariant none

pub returns : goal.returns
returns c = (
  λ e. subst (Differ (λ (other : Row). other.name)) (take_all c.loop-place.place c.args.rows.now c.loop-place-test.false) c.loop-place.invariant,
  λ differ. refl,
)
