use Rattle.std.proofs.Common.{◌≡◌, ℕ, ap, ap₂, sym, ◌∙◌, refl, arith}
use Rattle.whole_rows.specs.WholeRows.{WholeRow, row_at}
use Rattle.presolve_map.specs.Columns.{kept, open_flags}
use Rattle.presolve_map.specs.ReducedRows.{ReducedRows, reduced_row}
use Rattle.presolve_map.specs.WorkViews.{with_work_row}
use Rattle.presolve_map.proofs.ReduceLaws.{row-is}
use Rattle.presolve_map.proofs.KeptLaws.{length-kept}
use Rattle.presolve_map.proofs.SelectLaws.{span-select}
use Rattle.presolve_map.proofs.reduce.push_reduced.Goals as goal

pub push_row-requires-clause-dense : goal.push_row-requires-clause-dense
push_row-requires-clause-dense c =
    let box = c.args.rows.now.box in
    let gathered : c.append_selected.new.items.items ≡ kept c.args.rows.now.box c.row.result.now = rw (c.clear.ensures.items, c.requires.flags) at c.in_ok-append_selected.ensures in
    rw (c.as_slice.ensures.value, gathered, c.requires.narrowed) (length-kept box c.row.result.now c.row.ensures.dense ∙ sym (length-kept box box refl))

pub push_row-requires-clause-light : goal.push_row-requires-clause-light
push_row-requires-clause-light c =
    let box = c.args.rows.now.box in
    let gathered : c.append_selected.new.items.items ≡ kept c.args.rows.now.box c.row.result.now = rw (c.clear.ensures.items, c.requires.flags) at c.in_ok-append_selected.ensures in
    rw (c.as_slice.ensures.value, gathered, c.requires.narrowed) (omega (arith, span-select (open_flags box) c.row.result.now box, c.row.ensures.light))

pub returns : goal.returns
returns c =
    let box = c.args.rows.now.box in
    let gathered : c.append_selected.new.items.items ≡ kept c.args.rows.now.box c.row.result.now = rw (c.clear.ensures.items, c.requires.flags) at c.in_ok-append_selected.ensures in
    let row = row-is (reduced_row c.args.rows.now.box (row_at c.args.rows.now c.args.i)) c.as_slice.result.now c.moved_sides-sides.result.low c.moved_sides-sides.result.high (c.as_slice.ensures.value ∙ gathered ∙ ap (kept box) c.row.ensures.factors) c.moved_sides-sides.ensures.low c.moved_sides-sides.ensures.high in
    c.in_ok-push_row.ensures ∙ ap₂ {C = ReducedRows} (λ (r : WholeRow) (n : ℕ). with_work_row c.args.work.now r n) row c.moved_sides-sides.ensures.number
