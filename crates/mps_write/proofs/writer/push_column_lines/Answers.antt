use Rattle.std.proofs.Common.{◌≡◌, ◌+◌, ◌++◌, length, take, map, ap, subst, ◌∙◌, arith}
use Rattle.std.proofs.lemmas.List.{length-take-le}
use Rattle.mps_write.specs.CanonicalText.{all_items, labelled, column_pairs, column_table}
use Rattle.mps_write.proofs.CodeLaws.{table_text, taken, column_table-push, text_more}
use Rattle.mps_write.proofs.writer.push_column_lines.Goals as goal

pub loop-number-preserved : goal.loop-number-preserved
loop-number-preserved c =
    let columns = c.args.columns.now in
    let named = all_items c.args.model.now in
    let place = c.loop-number.number in
    let front = take place columns in
    let at : length front ≡ place = length-take-le place columns (omega arith) in
    text_more c.args.text.now.items c.loop-number.text.items c.push_column.new.text.items
    (column_table named 0 front) (map (labelled c.index-columns-number.result.name) (column_pairs named place)) (column_table named 0 (take (place + 1) columns))
    c.loop-number.invariant
    (subst (λ name. c.push_column.new.text.items ≡ c.loop-number.text.items ++ table_text (map (labelled name) (column_pairs named place))) c.items.ensures c.in_ok-push_column.ensures)
    (ap (column_table named 0) (taken columns place c.index-columns-number.result c.loop-number-test.true c.index-columns-number.is)
    ∙ column_table-push named 0 place front c.index-columns-number.result (omega (arith, at)))
