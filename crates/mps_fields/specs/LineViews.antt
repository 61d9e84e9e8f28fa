-- The lines of the code, without where they lie in memory.
use Rattle.mps_fields.specs.declared.text_lines.TextLine.{TextLine}
use Rattle.mps_fields.specs.Lines.{Line}

-- a line of the code as a numbered line
abbrev pub line_view : TextLine → Line
line_view line = record { bytes = line.bytes.now; number = line.number }
