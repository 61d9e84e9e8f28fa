use Rattle.std.proofs.Common.{◌≡◌, ◌≤◌, length, Some, sym, ap, subst, ◌∙◌}
use Rattle.std.specs.Prelude.{option_map}
use Rattle.mps_model.specs.RowFaults.{row_names}
use Rattle.mps_model.specs.FaultRules.{is_among}
use Rattle.mps_model.specs.Sides.{sided_rows}
use Rattle.mps_model.specs.DataLineViews.{row_view}
use Rattle.mps_model.specs.RowKinds.{row_of}
use Rattle.mps_model.proofs.OnTables.RowTableLaws.{table_names, known_row, row_again, row_beyond, row_fine, room_for}
use Rattle.mps_model.proofs.tables.rows.RowTable.add.Goals as goal
use Rattle.mps_model.proofs.tables.rows.RowTable.add.Goals.{In-Some-of, After-is_some}

-- the line is a row of the kind
line_is : (c : In-Some-of) → option_map row_view c.args.line ≡ Some (row_of c.in-Some-of.kind c.in-Some.line.name.now)
line_is c = ap (option_map row_view) c.in-Some.is ∙ ap Some (known_row c.in-Some.line.kind.now c.in-Some.line.name.now c.in-Some-of.kind (sym c.in-Some-of.ensures))

-- the name is known or not
found : (c : After-is_some) → is_among (row_names c.args.self.now) c.in-Some.line.name.now ≡ c.is_some.result
found c =
    ap (λ names. is_among names c.in-Some.line.name.now) (sym (table_names c.self.inside.kinds.items c.self.inside.names c.args.self.now c.self.invariant.paired c.self.view_is))
    ∙ sym c.find.ensures.found ∙ sym c.is_some.ensures

pub returns-then-is_some : goal.returns-then-is_some
returns-then-is_some c = λ above are.
    rw (line_is (goal.at.returns-then-is_some c).In-Some-of)
    (row_again above c.args.self.now c.in-Some-of.kind c.in-Some.line.name.now are (found (goal.at.returns-then-is_some c).After-is_some ∙ c.if-is_some.true))

pub put-requires-clause-fresh : goal.put-requires-clause-fresh
put-requires-clause-fresh c = found (goal.at.put-requires-clause-fresh c).After-is_some ∙ c.if-is_some.false

pub put-requires-clause-few : goal.put-requires-clause-few
put-requires-clause-few c =
    let few : length (sided_rows c.args.self.now) ≤ 256 = subst (λ n. n ≤ 256) (c.self.invariant.counted ∙ ap (λ rows. length (sided_rows rows)) c.self.view_is) c.self.invariant.few in
    room_for c.args.self.now (row_of c.in-Some-of.kind c.in-Some.line.name.now) few (sym (c.is_full_for.ensures c.in-Some.line.name.now) ∙ c.if-is_full_for.false)

pub returns-then-is_full_for : goal.returns-then-is_full_for
returns-then-is_full_for c = λ above are.
    rw (line_is (goal.at.returns-then-is_full_for c).In-Some-of)
    (row_beyond above c.args.self.now c.in-Some-of.kind c.in-Some.line.name.now are
    (found (goal.at.returns-then-is_full_for c).After-is_some ∙ c.if-is_some.false)
    (sym (c.is_full_for.ensures c.in-Some.line.name.now) ∙ c.if-is_full_for.true))

pub returns : goal.returns
returns c = λ above are.
    rw (line_is (goal.at.returns c).In-Some-of) (
      row_fine above c.args.self.now c.in-Some-of.kind c.in-Some.line.name.now are
          (found (goal.at.returns c).After-is_some ∙ c.if-is_some.false)
          (sym (c.is_full_for.ensures c.in-Some.line.name.now) ∙ c.if-is_full_for.false),
      c.in_ok-put.ensures,
    )
