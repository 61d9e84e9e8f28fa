use Rattle.std.proofs.Common.{true≢false, refl, take, take_all, sym, ap, ◌∙◌, subst}
use Rattle.std.specs.Prelude.{bytes_eq}
use Rattle.std.specs.List.{list_any}
use Rattle.int_model.specs.declared.model.Column.{Column}
use Rattle.mps_write.proofs.CodeLaws.{Differ, differ_more, differ_not}
use Rattle.mps_write.proofs.plain.do_column_names_differ.Goals as goal

pub returns-then-has_column_name : goal.returns-then-has_column_name
returns-then-has_column_name c =
    let any = sym (ap (λ name. list_any (λ (other : Column). bytes_eq other.name name) (take c.loop-place.place c.args.columns.now)) c.items.ensures) ∙ sym c.has_column_name.ensures ∙ c.if-has_column_name.true in (
      λ e. absurd (true≢false (sym e)),
      λ differ. absurd (differ_not (λ (other : Column). other.name) c.args.columns.now c.loop-place.place c.index-columns-place.result c.loop-place-test.true c.index-columns-place.is any differ),
    )

pub loop-place-preserved : goal.loop-place-preserved
loop-place-preserved c =
    let none = sym (ap (λ name. list_any (λ (other : Column). bytes_eq other.name name) (take c.loop-place.place c.args.columns.now)) c.items.ensures) ∙ sym c.has_column_name.ensures ∙ c.if-has_column_name.false in
    differ_more (λ (other : Column). other.name) c.args.columns.now c.loop-place.place c.index-columns-place.result c.loop-place-test.true c.index-columns-place.is c.loop-place.invariant none

pub returns : goal.returns
returns c = (
  λ e. subst (Differ (λ (other : Column). other.name)) (take_all c.loop-place.place c.args.columns.now c.loop-place-test.false) c.loop-place.invariant,
  λ differ. refl,
)
