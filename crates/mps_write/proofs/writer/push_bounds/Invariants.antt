use Rattle.std.proofs.Common.{◌≡◌, ◌++◌, take, map}
use Rattle.mps_write.specs.CanonicalText.{in_lines, data_line, bound_table}
use Rattle.mps_write.proofs.writer.push_bounds.Given as goal

-- the lines so far stand behind the text
abbrev pub invariant-loop-column : goal.invariant-loop-column
invariant-loop-column l = l.text.items ≡ l.initial.text.items ++ in_lines (map data_line (bound_table (take l.column-index l.columns)))
