use Rattle.std.proofs.Common.{◌≤◌, ◌+◌, ◌++◌, ◌∷◌, [], length, sym, ap, subst, ◌∙◌}
use Rattle.std.specs.Option.{option_or}
use Rattle.mps_model.specs.FaultRules.{is_among}
use Rattle.mps_model.specs.Sides.{sided_rows}
use Rattle.mps_model.specs.RowKinds.{row_of, rows_of}
use Rattle.mps_model.proofs.OnTables.RowTableLaws.{table_names, rows_of-push, table_push}
use Rattle.mps_model.proofs.tables.rows.RowTable.put.Goals as goal

pub add-requires : goal.add-requires
add-requires c =
    ap (λ names. is_among names c.args.name.now) (table_names c.self.inside.kinds.items c.self.inside.names c.args.self.now c.self.invariant.paired c.self.view_is)
    ∙ c.requires.fresh

pub invariant_of-self-2 : goal.invariant_of-self-2
invariant_of-self-2 c =
    let kinds = c.self.inside.kinds in
    let few : length (sided_rows (rows_of kinds.items c.self.inside.names ++ row_of c.args.kind c.args.name.now ∷ [])) ≤ 256 =
    subst (λ rows. length (sided_rows (rows ++ row_of c.args.kind c.args.name.now ∷ [])) ≤ 256) (sym c.self.view_is) c.requires.few
    in
    rw (c.in_ok-push.ensures.items, c.in_ok-reserve.ensures.items, c.in_ok-add.ensures.ok)
    (table_push kinds.items c.self.inside.names c.self.inside.objective c.self.inside.sided c.self.invariant c.args.kind c.args.name.now _ _ c.len.result
    c.has_sides-has_sides.result (c.has_sides-has_sides.ensures c.args.name.now) (c.len.ensures ∙ kinds.ok.0) (c.or-objective.ensures ∙ ap (λ o. option_or c.self.inside.objective o) c.then_some.ensures)
    (ap (λ n. c.self.inside.sided + n) c.from.ensures) few)

pub returns : goal.returns
returns c =
    ap (λ names. rows_of c.push.new.self.items names) c.in_ok-add.ensures.ok
    ∙ ap (λ kinds. rows_of kinds (c.self.inside.names ++ c.args.name.now ∷ [])) (c.in_ok-push.ensures.items ∙ ap (λ kinds. kinds ++ c.args.kind ∷ []) c.in_ok-reserve.ensures.items)
    ∙ rows_of-push c.self.inside.kinds.items c.self.inside.names c.args.kind c.args.name.now c.self.invariant.paired
    ∙ ap (λ rows. rows ++ row_of c.args.kind c.args.name.now ∷ []) c.self.view_is
