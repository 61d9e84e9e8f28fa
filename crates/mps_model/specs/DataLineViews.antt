-- What the data lines of the code say, without where their texts lie in memory.
use Rattle.std.specs.Prelude.{ℕ, List, [], ◌∷◌, Option, Some, None, option_map}
use Rattle.mps_model.specs.SixFields.{Fields}
use Rattle.mps_model.specs.Tables.{RowLine, Pair, PairLine, BoundLine, pairs_said}
use Rattle.mps_model.specs.declared.lines.data_line.RowLine.{RowLine as RowSlices}
use Rattle.mps_model.specs.declared.lines.data_line.Pair.{Pair as PairSlices}
use Rattle.mps_model.specs.declared.lines.data_line.PairLine.{PairLine as PairLineSlices}
use Rattle.mps_model.specs.declared.lines.data_line.BoundLine.{BoundLine as BoundSlices}

-- a line of ROWS
abbrev pub row_view : RowSlices → RowLine
row_view line = record { kind = line.kind.now; name = line.name.now }

-- a name and the text of a number
abbrev pub pair_view : PairSlices → Pair
pair_view pair = record { name = pair.name.now; number = pair.number.now }

-- the pairs behind a first one
abbrev pub second_view : Option PairSlices → List Pair
second_view None = []
second_view (Some pair) = pair_view pair ∷ []

-- a line of pairs
abbrev pub pair_line_view : PairLineSlices → PairLine
pair_line_view line = record { at = line.at; label = line.label.now; pairs = pair_view line.first ∷ second_view line.second }

-- a line of BOUNDS
abbrev pub bound_view : BoundSlices → BoundLine
bound_view line = record { kind = line.kind; set = line.set.now; column = line.column.now; value = line.value.now }

-- a line of pairs with this label, whatever its first two fields are
abbrev pub line_with : ℕ → List ℕ → Fields → Option PairLine
line_with at label (first ∷ second ∷ fields) = option_map (λ pairs. record { at = at; label = label; pairs = pairs }) (pairs_said fields)
line_with at label fields = None
