use Rattle.std.proofs.Common.{◌≡◌, ◌++◌, take, map}
use Rattle.mps_write.specs.CanonicalText.{in_lines, data_line, all_items, column_table}
use Rattle.mps_write.proofs.writer.push_column_lines.Given as goal

-- the lines so far stand behind the text
abbrev pub invariant-loop-number : goal.invariant-loop-number
invariant-loop-number l = l.text.items ≡ l.initial.text.items ++ in_lines (map data_line (column_table (all_items l.model) 0 (take l.number l.columns)))
