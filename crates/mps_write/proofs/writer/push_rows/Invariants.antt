use Rattle.std.proofs.Common.{◌≡◌, ◌++◌, take, map}
use Rattle.mps_write.specs.CanonicalText.{in_lines, data_line, row_fields}
use Rattle.mps_write.proofs.writer.push_rows.Given as goal

-- the lines so far stand behind the text
abbrev pub invariant-loop-row : goal.invariant-loop-row
invariant-loop-row l = l.text.items ≡ l.initial.text.items ++ in_lines (map data_line (map row_fields (take l.row-index l.rows)))
