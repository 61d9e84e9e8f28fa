-- What is said where there is no line.
use Rattle.std.specs.Prelude.{ℕ, List, codes}
use Rattle.farkas_rows.specs.declared.fracs.LineStop.{LineStop}
use Rattle.farkas_rows.specs.declared.fracs.LineStop.TheVariants.{Heavy, NoMemory}

-- why there is none
abbrev pub line_stop_text : LineStop → List ℕ
line_stop_text Heavy = codes "the line is too heavy"
line_stop_text NoMemory = codes "out of memory"
