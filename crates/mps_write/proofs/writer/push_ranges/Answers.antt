use Rattle.std.proofs.Common.{◌+◌, ◌++◌, take, take_all, map, ap, sym, ◌∙◌, append-nil}
use Rattle.std.specs.Prelude.{codes, option_to_list}
use Rattle.std.proofs.lemmas.List.{map-append}
use Rattle.mps_write.specs.CanonicalText.{in_lines, section_of_some, range_pair, range_pairs, unlabelled}
use Rattle.mps_write.proofs.CodeLaws.{table_text, taken, filter_map-push, text_more, text_headed, no_ranges, ranges_begun}
use Rattle.mps_write.proofs.writer.push_ranges.Goals as goal

pub returns-then-not-has_ranges : goal.returns-then-not-has_ranges
returns-then-not-has_ranges c =
    sym (ap (λ pairs. c.args.text.now.items ++ in_lines (section_of_some (codes "RANGES") (map unlabelled pairs))) (no_ranges c.args.rows.now (sym c.has_ranges.ensures ∙ c.if-not-has_ranges.true))
    ∙ append-nil c.args.text.now.items)

pub loop-row-preserved : goal.loop-row-preserved
loop-row-preserved c =
    let front = range_pairs (take c.loop-row.row-index c.args.rows.now) in
    text_more c.extend_from_slice.new.self.items c.loop-row.text.items c.push_range.new.text.items
    (map unlabelled front) (map unlabelled (option_to_list (range_pair c.row-item.result))) (map unlabelled (range_pairs (take (c.loop-row.row-index + 1) c.args.rows.now)))
    c.loop-row.invariant c.in_ok-push_range.ensures
    (ap (λ rows. map unlabelled (range_pairs rows)) (taken c.args.rows.now c.loop-row.row-index c.row-item.result c.loop-row-test.true c.row-item.is)
    ∙ ap (map unlabelled) (filter_map-push range_pair (take c.loop-row.row-index c.args.rows.now) c.row-item.result)
    ∙ map-append unlabelled front (option_to_list (range_pair c.row-item.result)))

pub returns : goal.returns
returns c =
    text_headed c.args.text.now.items c.extend_from_slice.new.self.items c.loop-row.text.items (codes "RANGES") (map unlabelled (range_pairs c.args.rows.now))
    c.in_ok-extend_from_slice.ensures.items
    (c.loop-row.invariant
    ∙ ap (λ rows. c.extend_from_slice.new.self.items ++ table_text (map unlabelled (range_pairs rows))) (take_all c.loop-row.row-index c.args.rows.now c.loop-row-test.false))
    ∙ ap (λ lines. c.args.text.now.items ++ in_lines lines) (sym (ranges_begun c.args.rows.now (sym c.has_ranges.ensures ∙ c.if-not-has_ranges.false)))
