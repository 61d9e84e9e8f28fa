use Rattle.std.proofs.Common.{◌++◌, map, filter_map, ap, ◌∙◌}
use Rattle.std.specs.Prelude.{codes, option_to_list, neg_ℤ}
use Rattle.std.proofs.lemmas.List.{map-append}
use Rattle.mps_write.specs.CanonicalText.{objective_name, some_pair, side_pair, side_pairs, unlabelled}
use Rattle.mps_write.proofs.CodeLaws.{table_text, text_more, text_headed, handed_on}
use Rattle.mps_write.proofs.writer.push_sides.Goals as goal

pub returns : goal.returns
returns c =
    let constant = option_to_list (some_pair objective_name (neg_ℤ c.args.model.now.constant.num)) in
    handed_on c.push_row_sides.result
    (λ told.
    text_headed c.args.text.now.items c.extend_from_slice.new.self.items c.push_row_sides.new.text.items (codes "RHS") (map unlabelled (side_pairs c.args.model.now))
    c.in_ok-extend_from_slice.ensures.items
    (text_more c.extend_from_slice.new.self.items c.push_constant.new.text.items c.push_row_sides.new.text.items (map unlabelled constant) (map unlabelled (filter_map side_pair c.args.model.now.rows))
    (map unlabelled (side_pairs c.args.model.now))
    c.in_ok-push_constant.ensures
    (told
    ∙ ap (λ rows. c.push_constant.new.text.items ++ table_text (map unlabelled (filter_map side_pair rows))) c.items.ensures)
    (map-append unlabelled constant (filter_map side_pair c.args.model.now.rows))))
    c.push_row_sides.ensures
