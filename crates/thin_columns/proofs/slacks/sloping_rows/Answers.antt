use Rattle.std.proofs.Common.{◌≡◌, ◌+◌, ◌<◌, length, get_or, take, [], ap, sym, ◌∙◌, arith}
use Rattle.spaces.specs.Tables.{rows_in}
use Rattle.thin_forms.proofs.RowSteps.{count_is, line_is}
use Rattle.thin_columns.specs.Sizes.{greatest_size, one_if_some, sloping}
use Rattle.thin_columns.proofs.SizeSteps.{one_of_none, one_of_some, sloping_all, sloping_few, sloping_more}
use Rattle.thin_columns.proofs.slacks.sloping_rows.Goals.{then-reach_of-ne0, else-reach_of-ne0}
use Rattle.thin_columns.proofs.slacks.sloping_rows.Goals as goal

pub overflow_add-count : goal.overflow_add-count
overflow_add-count c = omega (arith, c.loop-i.invariant, sloping_few (rows_in c.args.rows.now) c.loop-i.i, c.loop-i-test.true, c.rows-i-end.ensures.bound, c.rows-i-end.ensures.count)

pub loop-i-preserved : goal.loop-i-preserved
loop-i-preserved c =
    let rows = rows_in c.args.rows.now in
    let inside : c.loop-i.i < length rows = omega (arith, count_is c.args.rows.now, c.loop-i-test.true, c.rows-i-end.ensures.count) in
    let size : c.reach_of.result ≡ greatest_size (get_or rows c.loop-i.i []) = c.reach_of.ensures.size ∙ ap greatest_size (c.row.ensures.value ∙ sym (line_is c.args.rows.now c.loop-i.i (omega (arith, inside, count_is c.args.rows.now)))) in
    let more : sloping (take (c.loop-i.i + 1) rows) ≡ sloping (take c.loop-i.i rows) + one_if_some (greatest_size (get_or rows c.loop-i.i [])) = sloping_more rows c.loop-i.i inside in
    let before : c.loop-i.count ≡ sloping (take c.loop-i.i rows) = c.loop-i.invariant in
    let now : c.if-reach_of-ne0.count ≡ sloping (take (c.loop-i.i + 1) rows) =
    elim c.if-reach_of-ne0.branch [
      | then-reach_of-ne0 w ↦ omega (arith, more, before, w.count-is, one_of_some (greatest_size (get_or rows c.loop-i.i [])) (λ none. omega (arith, size, none, w.if-reach_of-ne0)))
      | else-reach_of-ne0 w ↦ omega (arith, more, before, w.count-is, one_of_none (greatest_size (get_or rows c.loop-i.i [])) (omega (arith, size, w.if-reach_of-ne0)))
    ] in
    now

pub returns : goal.returns
returns c = c.loop-i.invariant ∙ sloping_all (rows_in c.args.rows.now) c.loop-i.i (omega (arith, count_is c.args.rows.now, c.loop-i-test.false, c.rows-i-end.ensures.count))
