use Rattle.std.proofs.Common.{◌≡◌, ◌≢◌, ◌↔◌, ◌++◌, [], take, map, filter_map}
use Rattle.std.specs.Prelude.{IsTrue}
use Rattle.mps_write.specs.CanonicalText.{in_lines, data_line, labelled, factor_pair, items_of_row}
use Rattle.mps_write.proofs.writer.push_row_factors.Given as goal

-- the lines so far stand behind the text, and it is known whether there are any
abbrev pub invariant-loop-row : goal.invariant-loop-row
invariant-loop-row l = record {
  text_is : l.text.items ≡ l.initial.text.items ++ in_lines (map data_line (map (labelled l.column) (filter_map (factor_pair l.number) (map items_of_row (take l.row-index l.rows)))));
  found_is : IsTrue l.found ↔ (filter_map (factor_pair l.number) (map items_of_row (take l.row-index l.rows)) ≢ []);
}
