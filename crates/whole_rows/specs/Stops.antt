-- What is said where rows are refused.
use Rattle.std.specs.Prelude.{ℕ, List, ◌++◌, codes, decimal}
use Rattle.whole_rows.specs.declared.stops.BoxStop.{BoxStop}
use Rattle.whole_rows.specs.declared.stops.BoxStop.TheVariants as box_stops
use Rattle.whole_rows.specs.declared.stops.RowStop.{RowStop}
use Rattle.whole_rows.specs.declared.stops.RowStop.TheVariants as row_stops

-- why a box is refused
abbrev pub box_stop_text : BoxStop → List ℕ
box_stop_text (box_stops.Heavy j) = codes "column " ++ decimal j ++ codes " is too heavy"
box_stop_text box_stops.NoMemory = codes "out of memory"

-- why a row is refused
abbrev pub row_stop_text : RowStop → List ℕ
row_stop_text row_stops.Heavy = codes "the row is too heavy"
row_stop_text row_stops.NoMemory = codes "out of memory"
