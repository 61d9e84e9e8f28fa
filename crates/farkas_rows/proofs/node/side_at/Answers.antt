use Rattle.std.specs.Prelude.{Some}
use Rattle.std.proofs.Common.{◌+◌, ◌/◌, ◌≤◌, length, sym, ap, ◌∙◌, arith}
use Rattle.farkas_rows.specs.declared.path.Slice.{Slice}
use Rattle.farkas_rows.specs.Sides.{side_of_form}
use Rattle.farkas_rows.specs.Ends.{inequality_of}
use Rattle.farkas_rows.proofs.NumberLemmas.{is_lower, at_row, at_column, at_slice, at_end, at_none}
use Rattle.farkas_rows.proofs.node.side_at.Goals as goal
use Rattle.farkas_rows.proofs.node.side_at.Goals.{else-at-path-2-via-then-at-path-2+else-not-is_lower, else-at-path-2-via-else-at-path-2}

pub returns-then-at-rows-clause-side : goal.returns-then-at-rows-clause-side
returns-then-at-rows-clause-side c =
    c.row_side.ensures.side ∙ sym (at_row c.args.rows.now c.args.path.now (inequality_of c.args.end.now) c.args.number (omega (arith, c.if-at-rows.true, c.rows.ensures.count)))

pub returns-then-at-columns-clause-side : goal.returns-then-at-columns-clause-side
returns-then-at-columns-clause-side c =
    ap Some c.column_side.ensures.side ∙ sym (at_column c.args.rows.now c.args.path.now (inequality_of c.args.end.now) c.args.number _ (omega (arith, c.if-at-rows.false, c.rows.ensures.count)) (omega (arith, c.rows-2.ensures.count)) (omega (arith, c.if-at-columns.true, c.columns.ensures.count)))

pub returns-then-at-path-clause-side : goal.returns-then-at-path-clause-side
returns-then-at-path-clause-side c =
    ap Some (c.slice_side.ensures.side (length c.args.rows.now.box)) ∙ ap (λ (slice : Slice). Some (side_of_form slice.form slice.beta slice.beta (is_lower c.args.number))) c.index-path-at.is
    ∙ sym (at_slice c.args.rows.now c.args.path.now (inequality_of c.args.end.now) c.args.number _ c.index-path-at.result (omega (arith, c.rows.ensures.count, c.rows-2.ensures.count, c.columns.ensures.count, c.columns-2.ensures.count, c.if-at-rows.false, c.if-at-columns.false)) (omega (arith, c.rows-2.ensures.count, c.columns-2.ensures.count)) (omega (arith, c.if-at-path.true)))

pub returns-then-not-is_lower-clause-side : goal.returns-then-not-is_lower-clause-side
returns-then-not-is_lower-clause-side c =
    c.end_side.ensures.side (length c.args.rows.now.box) ∙ sym (at_end c.args.rows.now c.args.path.now (inequality_of c.args.end.now) c.args.number (omega (arith, c.rows.ensures.count, c.rows-2.ensures.count, c.columns.ensures.count, c.columns-2.ensures.count, c.if-at-rows.false, c.if-at-columns.false, c.if-at-path-2.true)) c.if-not-is_lower.true)

pub returns-else-at-path-2-clause-side : goal.returns-else-at-path-2-clause-side
returns-else-at-path-2-clause-side c =
    let past : length c.args.rows.now.rows + length c.args.rows.now.box + length c.args.path.now ≤ c.args.number / 2 = omega (arith, c.rows.ensures.count, c.rows-2.ensures.count, c.columns.ensures.count, c.columns-2.ensures.count, c.if-at-rows.false, c.if-at-columns.false, c.if-at-path.false) in
    sym (at_none c.args.rows.now c.args.path.now (inequality_of c.args.end.now) c.args.number past (elim c.else-at-path-2.branch [
      | else-at-path-2-via-then-at-path-2+else-not-is_lower w ↦ λ e. w.if-not-is_lower.false
      | else-at-path-2-via-else-at-path-2 w ↦ λ e. absurd (w.if-at-path-2.false (omega (arith, c.rows.ensures.count, c.rows-2.ensures.count, c.columns.ensures.count, c.columns-2.ensures.count, c.if-at-rows.false, c.if-at-columns.false, c.if-at-path.false)))
    ]))
