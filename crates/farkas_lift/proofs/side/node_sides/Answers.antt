use Rattle.std.proofs.Common.{◌≡◌, ◌++◌, length, sym, ap, subst, ◌∙◌, arith, All}
use Rattle.farkas_lift.specs.Joined.{joined}
use Rattle.farkas_lift.specs.NodeSides.{row_sides, column_sides, cut_side, node_sides}
use Rattle.farkas_lift.specs.NodeSides.{IsThere}
use Rattle.farkas_lift.proofs.JoinedLaws.{three_parts}
use Rattle.farkas_lift.proofs.SideLaws.{sides-few, sides-there}
use Rattle.farkas_lift.proofs.side.node_sides.Goals as goal

pub returns-clause-value : goal.returns-clause-value
returns-clause-value c =
    let rows = c.args.rows.now in
    three_parts (joined (row_sides rows) (length rows.rows.rows)) (joined column_sides (length rows.rows.box)) (cut_side c.args.has_cut) c.append_rows.new.sides.items c.append_columns.new.sides.items c.append_cut.new.sides.items
    (c.in_ok-append_rows.ensures ∙ ap (λ l. l ++ joined (row_sides rows) (length rows.rows.rows)) c.in_ok-sides.ensures.items)
    (c.in_ok-append_columns.ensures ∙ ap (λ n. c.append_rows.new.sides.items ++ joined column_sides n) c.columns-columns.ensures.count)
    c.in_ok-append_cut.ensures

pub returns-clause-there : goal.returns-clause-there
returns-clause-there c =
    let rows = c.args.rows.now in
    let value : c.append_cut.new.sides.items ≡ node_sides c.args.rows.now c.args.has_cut =
    three_parts (joined (row_sides rows) (length rows.rows.rows)) (joined column_sides (length rows.rows.box)) (cut_side c.args.has_cut) c.append_rows.new.sides.items c.append_columns.new.sides.items c.append_cut.new.sides.items
    (c.in_ok-append_rows.ensures ∙ ap (λ l. l ++ joined (row_sides rows) (length rows.rows.rows)) c.in_ok-sides.ensures.items)
    (c.in_ok-append_columns.ensures ∙ ap (λ n. c.append_rows.new.sides.items ++ joined column_sides n) c.columns-columns.ensures.count)
    c.in_ok-append_cut.ensures in
    subst (All (IsThere rows)) (sym value) (sides-there rows c.args.has_cut)

pub returns-clause-few : goal.returns-clause-few
returns-clause-few c =
    let rows = c.args.rows.now in
    let value : c.append_cut.new.sides.items ≡ node_sides c.args.rows.now c.args.has_cut =
    three_parts (joined (row_sides rows) (length rows.rows.rows)) (joined column_sides (length rows.rows.box)) (cut_side c.args.has_cut) c.append_rows.new.sides.items c.append_columns.new.sides.items c.append_cut.new.sides.items
    (c.in_ok-append_rows.ensures ∙ ap (λ l. l ++ joined (row_sides rows) (length rows.rows.rows)) c.in_ok-sides.ensures.items)
    (c.in_ok-append_columns.ensures ∙ ap (λ n. c.append_rows.new.sides.items ++ joined column_sides n) c.columns-columns.ensures.count)
    c.in_ok-append_cut.ensures in
    omega (arith, ap length value, sides-few rows c.args.has_cut, c.columns-columns.ensures.few, c.rows.ensures.few, c.rows.ensures.count)
