use Rattle.std.proofs.Common.{◌≤◌, length, position, sym, ap, subst, ◌∙◌, arith}
use Rattle.mps_model.specs.Sides.{is_free_row, sided_rows}
use Rattle.mps_model.specs.Bounds.{column_names}
use Rattle.mps_model.specs.RowKinds.{rows_of}
use Rattle.mps_model.specs.KeptBounds.{KeepsBounds}
use Rattle.mps_model.proofs.OnTables.RowTableLaws.{length-rows_of}
use Rattle.mps_model.proofs.OnModel.BuiltItemLaws.{model_is}
use Rattle.mps_model.proofs.model.model_building.build.Goals as goal

pub build_rows-requires-clause-factors : goal.build_rows-requires-clause-factors
build_rows-requires-clause-factors c =
    let rows = c.into_parts-names.ensures.len in
    c.take_objective-objective.auto.factors ∙ ap length c.as_mut_slice-factors.ensures.value
    ∙ ap (λ f. length f.rows.items) c.into_parts-column_names.ensures.factors ∙ c.requires.factors
    ∙ ap length (sym c.into_parts-names.ensures.rows)
    ∙ length-rows_of c.into_parts-names.result.1.items c.into_parts-names.result.0 rows ∙ rows

pub returns : goal.returns
returns c = λ tables upper keeps gives.
    let names = c.into_parts-column_names.ensures.names ∙ keeps.columns_kept.names in
    let found = c.objective-objective.ensures ∙ ap (position is_free_row) keeps.rows_kept in
    let factors = c.as_mut_slice-factors.ensures.value ∙ ap (λ f. f.rows.items) c.into_parts-column_names.ensures.factors ∙ keeps.columns_kept.factors.factors in
    let rows = ap (λ kinds. rows_of kinds c.into_parts-names.result.0) c.deref.ensures.value ∙ c.into_parts-names.ensures.rows ∙ keeps.rows_kept in
    let few_columns : length (column_names tables.columns) ≤ 256 = subst (λ ns. length ns ≤ 256) keeps.columns_kept.names c.args.columns.few in
    let few_rows : length (sided_rows tables.rows) ≤ 256 =
    omega (arith, c.rows.invariant.few, c.rows.invariant.counted, ap (λ rs. length (sided_rows rs)) (c.rows.view_is ∙ keeps.rows_kept)) in
    model_is tables upper _
    (c.in_ok-columns.ensures tables upper names (subst (λ ns. KeepsBounds ns tables.bounds c.args.bounds.now) (sym names) keeps.bounds_kept) gives)
    (c.in_ok-rows.ensures tables rows keeps.sides_kept keeps.ranges_kept (c.take_objective-objective.ensures.rows tables found factors))
    (c.take_objective-objective.ensures.objective tables found factors)
    (c.constant_of-constant.ensures tables found keeps.sides_kept)
    few_columns few_rows
