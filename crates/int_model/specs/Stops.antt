-- Why a model has no integer rows: what is answered where a part is refused, and what is said then.
use Rattle.std.specs.Prelude.{ℕ, List, ◌++◌, codes, decimal}
use Rattle.whole_rows.specs.declared.stops.BoxStop.{BoxStop}
use Rattle.whole_rows.specs.declared.stops.BoxStop.TheVariants as box_stops
use Rattle.whole_rows.specs.declared.stops.RowStop.{RowStop}
use Rattle.whole_rows.specs.declared.stops.RowStop.TheVariants as row_stops
use Rattle.int_model.specs.declared.part.Part.TheVariants as parts
use Rattle.int_model.specs.declared.part.PartStop.{PartStop}
use Rattle.int_model.specs.declared.part.PartStop.TheVariants as part_stops
use Rattle.int_model.specs.declared.part.RowsStop.{RowsStop}
use Rattle.int_model.specs.declared.part.RowsStop.TheVariants as stops

-- a heavy row is a large part
abbrev pub part_stop_of : RowStop → PartStop
part_stop_of row_stops.Heavy = part_stops.Large
part_stop_of row_stops.NoMemory = part_stops.NoMemory

-- a heavy column is a large part
abbrev pub rows_stop_of : BoxStop → RowsStop
rows_stop_of (box_stops.Heavy j) = stops.Large (parts.Column j)
rows_stop_of box_stops.NoMemory = stops.NoMemory

-- what is said
abbrev pub stop_text : RowsStop → List ℕ
stop_text (stops.Large (parts.Column j)) = codes "column " ++ decimal j ++ codes " is too large"
stop_text (stops.Large (parts.Row i)) = codes "row " ++ decimal i ++ codes " is too large"
stop_text (stops.Large parts.Objective) = codes "the objective is too large"
stop_text stops.NoMemory = codes "out of memory"
