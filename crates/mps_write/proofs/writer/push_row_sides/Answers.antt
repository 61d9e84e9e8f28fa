use Rattle.std.proofs.Common.{◌+◌, take, map, filter_map, ap, ◌∙◌}
use Rattle.std.specs.Prelude.{option_to_list}
use Rattle.std.proofs.lemmas.List.{map-append}
use Rattle.mps_write.specs.CanonicalText.{side_pair, unlabelled}
use Rattle.mps_write.proofs.CodeLaws.{taken, filter_map-push, text_more}
use Rattle.mps_write.proofs.writer.push_row_sides.Goals as goal

pub loop-row-preserved : goal.loop-row-preserved
loop-row-preserved c =
    let front = filter_map side_pair (take c.loop-row.row-index c.args.rows.now) in
    text_more c.args.text.now.items c.loop-row.text.items c.push_row_side.new.text.items
    (map unlabelled front) (map unlabelled (option_to_list (side_pair c.row-item.result))) (map unlabelled (filter_map side_pair (take (c.loop-row.row-index + 1) c.args.rows.now)))
    c.loop-row.invariant c.in_ok-push_row_side.ensures
    (ap (λ rows. map unlabelled (filter_map side_pair rows)) (taken c.args.rows.now c.loop-row.row-index c.row-item.result c.loop-row-test.true c.row-item.is)
    ∙ ap (map unlabelled) (filter_map-push side_pair (take c.loop-row.row-index c.args.rows.now) c.row-item.result)
    ∙ map-append unlabelled front (option_to_list (side_pair c.row-item.result)))
