use Rattle.std.proofs.Common.{◌≡◌, ◌++◌, take, map, filter_map}
use Rattle.mps_write.specs.CanonicalText.{in_lines, data_line, unlabelled, side_pair}
use Rattle.mps_write.proofs.writer.push_row_sides.Given as goal

-- the lines so far stand behind the text
abbrev pub invariant-loop-row : goal.invariant-loop-row
invariant-loop-row l = l.text.items ≡ l.initial.text.items ++ in_lines (map data_line (map unlabelled (filter_map side_pair (take l.row-index l.rows))))
