use Rattle.std.proofs.Common.{refl, ap, sym, subst, ◌∙◌, ◌++◌, option_map}
use Rattle.std.specs.Option.{option_copied, option_to_list}
use Rattle.mps_model.specs.ColumnFaults.{bound_line_fault}
use Rattle.mps_model.specs.DataLineViews.{bound_view}
use Rattle.mps_model.specs.Judging.{Judges}
use Rattle.mps_model.specs.KeptBounds.{KeepsBounds}
use Rattle.mps_model.proofs.OnTables.BoundTableLaws as Laws
use Rattle.mps_model.proofs.tables.bounds.BoundTable.add.Goals as goal

pub returns-in_default-find : goal.returns-in_default-find
returns-in_default-find c = λ above named keeps.
    ap (λ line. bound_line_fault above (option_map bound_view line)) c.in-Some.is
    ∙ Laws.unknown_column above (bound_view c.in-Some.line) (option_copied c.args.self.now.set) c.args.names.now keeps.set named
    (sym c.is_second_set.ensures ∙ c.if-is_second_set.false) (sym c.find.ensures.place ∙ c.in_default-find.is)

pub returns-in_err-value : goal.returns-in_err-value
returns-in_err-value c = λ above named keeps.
    subst
    (λ line. Judges (bound_line_fault above (option_map bound_view line)) (KeepsBounds c.args.names.now (above.bounds ++ option_to_list (option_map bound_view line)) c.args.self.now) c.from_residual.result)
    (sym c.in-Some.is)
    (Laws.bad_value above (bound_view c.in-Some.line) (option_copied c.args.self.now.set) c.args.names.now keeps.set named
    c.in-Some-find.column c.in_err-value.field-0.0 _ c.from_residual.result
    (sym c.is_second_set.ensures ∙ c.if-is_second_set.false) (sym c.find.ensures.place ∙ c.in-Some-find.is)
    c.in_err-value.ensures.fault.0 c.in_err-value.ensures.fault.1 c.from_residual.ensures.1)

pub returns : goal.returns
returns c = λ above named keeps.
    let line = bound_view c.in-Some.line in
    let second = sym c.is_second_set.ensures ∙ c.if-is_second_set.false in
    let found = sym c.find.ensures.place ∙ c.in-Some-find.is in
    let kept = Laws.keeps_more above.bounds line c.args.names.now c.in-Some-find.column c.find.ensures.distinct found
    c.args.self.now _ c.resize.new.self.items c.in-Some.line.set c.index_mut.result.now c.add.new.self c.in_ok-value.value keeps c.in_ok-value.ensures.value refl
    (cc (c.in_ok-resize.ensures.items, c.len.ensures.len, c.args.self.now.columns.ok.0, c.unset.ensures)) c.index_mut.ensures.value c.add.ensures c.or-self.ensures refl in (
      ap (λ line. bound_line_fault above (option_map bound_view line)) c.in-Some.is
          ∙ Laws.no_bound_fault above line (option_copied c.args.self.now.set) c.args.names.now keeps.set named c.in-Some-find.column c.in_ok-value.value second found c.in_ok-value.ensures.value,
      rw c.in-Some.is kept,
    )
