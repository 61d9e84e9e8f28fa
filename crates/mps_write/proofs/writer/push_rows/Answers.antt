use Rattle.std.proofs.Common.{◌++◌, take_all, map, ap, ◌∙◌, append_assoc}
use Rattle.std.specs.Prelude.{codes}
use Rattle.mps_write.specs.CanonicalText.{row_fields}
use Rattle.mps_write.proofs.CodeLaws.{table_text}
use Rattle.mps_write.proofs.writer.push_rows.Goals as goal

pub returns : goal.returns
returns c =
    c.loop-row.invariant
    ∙ ap (λ rows. c.extend_from_slice.new.self.items ++ table_text (map row_fields rows)) (take_all c.loop-row.row-index c.args.rows.now c.loop-row-test.false)
    ∙ ap (λ text. text ++ table_text (map row_fields c.args.rows.now)) c.in_ok-extend_from_slice.ensures.items
    ∙ append_assoc c.args.text.now.items (codes "ROWS\n N COST\n") (table_text (map row_fields c.args.rows.now))
