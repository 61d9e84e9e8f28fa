-- The integer rows of a model are made one after another, up to the first large part.
use Rattle.std.proofs.Common.{◌≡◌, ℕ, ◌+◌, ◌<◌, ◌≤◌, List, [], ◌∷◌, ◌++◌, length, map, take, get_or, refl, sym, ap, ap₂, subst, subst₂, ◌∙◌, arith}
use Rattle.std.specs.List.{All}
use Rattle.std.proofs.lemmas.List.{length-map, take_all, map_more}
use Rattle.std.proofs.lemmas.List.Elements.{All-nil, All-get_or, All-more}
use Rattle.exact_math.specs.Rational.{ℚ, ratio}
use Rattle.whole_rows.specs.declared.bounds.Bounds.{Bounds}
use Rattle.whole_rows.specs.WholeRows.{WholeRow, WholeRows, rows_over, with_row, with_cost}
use Rattle.whole_rows.specs.declared.stops.BoxStop.{BoxStop}
use Rattle.whole_rows.specs.declared.stops.BoxStop.TheVariants as box_stops
use Rattle.int_model.specs.declared.part.Part.{Part}
use Rattle.int_model.specs.declared.part.Part.TheVariants as parts
use Rattle.int_model.specs.declared.part.PartStop.{PartStop}
use Rattle.int_model.specs.declared.part.PartStop.TheVariants as part_stops
use Rattle.int_model.specs.declared.part.RowsStop.{RowsStop}
use Rattle.int_model.specs.declared.part.RowsStop.TheVariants as stops
use Rattle.int_model.specs.Stops.{rows_stop_of}
use Rattle.int_model.specs.declared.objective.ValueTerms.{ValueTerms}
use Rattle.int_model.specs.declared.model.Row.{Row}
use Rattle.int_model.specs.declared.model.Model.{Model}
use Rattle.int_model.specs.Scale.{integer_row}
use Rattle.int_model.specs.IntegerRows.{IntegerRows, rounded_bounds, fraction_row, integer_rows, cost, IsDistinctBelow}
use Rattle.int_model.specs.ObjectiveValues.{with_values, MakesValues}
use Rattle.int_model.specs.Large.{IsLargeColumn, IsLargeRow, IsLargeRowOf, IsFirstLarge}
use Rattle.int_model.proofs.LargePartLaws.{below_from_take, row_is_first}

-- the integer row of a row of the model
abbrev pub row_of : Model → Row → WholeRow
row_of model row = integer_row (fraction_row (length model.columns) row)

-- a large part is the one that was named
pub named_part : (stop : PartStop) (answer : RowsStop) (own part : Part) → (stop ≡ part_stops.Large → answer ≡ stops.Large own) → (stop ≡ part_stops.NoMemory → answer ≡ stops.NoMemory) → answer ≡ stops.Large part → (stop ≡ part_stops.Large) × (part ≡ own)
named_part part_stops.Large answer own part large memory is = let here = large refl in (refl, cc)
named_part part_stops.NoMemory answer own part large memory is = let here = memory refl in absurd (cc)

-- only a heavy column is answered as a large part
pub heavy_column : (stop : BoxStop) (part : Part) → rows_stop_of stop ≡ stops.Large part → (j : ℕ) × (stop ≡ box_stops.Heavy j) × (part ≡ parts.Column j)
heavy_column (box_stops.Heavy j) part is = (j, refl, cc)
heavy_column box_stops.NoMemory part is = absurd (cc)

-- the box of the model, and the integer rows of its first i rows, of which none is large
pub record HoldsRows (model : Model) (i : ℕ) (whole : WholeRows) : Type 0 where
  pub box : whole.box ≡ (integer_rows model).whole.box
  pub rows : whole.rows ≡ map (row_of model) (take i model.rows)
  pub small : All (λ row. IsLargeRowOf model row → ⊥) (take i model.rows)

-- the box is as wide as the columns
pub box_wide : (model : Model) (box : List Bounds) → box ≡ (integer_rows model).whole.box → length box ≡ length model.columns
box_wide model box is = ap length is ∙ length-map model.columns rounded_bounds

-- no row yet
pub HoldsRows-none : (model : Model) (box : List Bounds) → box ≡ (integer_rows model).whole.box → HoldsRows model 0 (rows_over box)
HoldsRows-none model box is = record { box = is; rows = refl; small = All-nil (λ row. IsLargeRowOf model row → ⊥) }

-- large over the box that was made is large
large_of : (model : Model) (box : List Bounds) (row : Row) → box ≡ (integer_rows model).whole.box → IsLargeRow box (fraction_row (length box) row) → IsLargeRowOf model row
large_of model box row is large =
    subst₂ (λ b n. IsLargeRow b (fraction_row n row)) is (box_wide model box is) large

large_in : (model : Model) (box : List Bounds) (row : Row) → box ≡ (integer_rows model).whole.box → IsLargeRowOf model row → IsLargeRow box (fraction_row (length box) row)
large_in model box row is large =
    subst₂ (λ b n. IsLargeRow b (fraction_row n row)) (sym is) (sym (box_wide model box is)) large

-- one row more
pub HoldsRows-more : (model : Model) (i : ℕ) (row : Row) (whole next : WholeRows) → i < length model.rows → row ≡ get_or model.rows i row → HoldsRows model i whole → next ≡ with_row whole (integer_row (fraction_row (length whole.box) row)) → (IsLargeRow whole.box (fraction_row (length whole.box) row) → ⊥) → HoldsRows model (i + 1) next
HoldsRows-more model i row whole next h is holds pushed small =
    let own : integer_row (fraction_row (length whole.box) row) ≡ row_of model (get_or model.rows i row) = ap₂ (λ n row. integer_row (fraction_row n row)) (box_wide model whole.box holds.box) is in
    record {
      box = ap (λ (rows : WholeRows). rows.box) pushed ∙ holds.box;
      rows = ap (λ (rows : WholeRows). rows.rows) pushed ∙ ap₂ (λ rows row. rows ++ row ∷ []) holds.rows own ∙ sym (map_more (row_of model) model.rows i row h);
      small = All-more (λ row. IsLargeRowOf model row → ⊥) model.rows i row h holds.small (λ large. small (large_in model whole.box row holds.box (subst (IsLargeRowOf model) (sym is) large)));
    }

-- a large row after rows that are not, where no column is large
pub first_of_rows : (model : Model) (i : ℕ) (row : Row) (whole : WholeRows) → i < length model.rows → row ≡ get_or model.rows i row → HoldsRows model i whole → All (λ column. IsLargeColumn column → ⊥) model.columns → IsLargeRow whole.box (fraction_row (length whole.box) row) → IsFirstLarge model (parts.Row i)
first_of_rows model i row whole h is holds columns large =
    row_is_first model i row h (subst (IsLargeRowOf model) is (large_of model whole.box row holds.box large)) (λ k l found. below_from_take (λ row. IsLargeRowOf model row → ⊥) model.rows i (omega arith) holds.small k row l found) columns

-- after the last row no row is large
pub rows_small : (model : Model) (i : ℕ) (whole : WholeRows) → length model.rows ≤ i → HoldsRows model i whole → All (λ row. IsLargeRowOf model row → ⊥) model.rows
rows_small model i whole h holds =
    subst (All (λ row. IsLargeRowOf model row → ⊥)) (take_all i model.rows h) holds.small

-- and with the costs and the values these are the integer rows of the model
pub integer_rows_are : (model : Model) (i : ℕ) (whole next : WholeRows) (terms : ValueTerms) → length model.rows ≤ i → HoldsRows model i whole → next ≡ with_cost whole (cost model) → MakesValues model terms → with_values next terms ≡ integer_rows model
integer_rows_are model i whole next terms h holds is makes =
    let made : WholeRows → ℚ → ℚ → IntegerRows = λ whole step constant. record { whole = whole; step = step; constant = constant } in
    let dense : List Bounds → List WholeRow → WholeRows = λ box rows. record { box = box; rows = rows; cost = cost model } in
    let step : ratio terms.factor terms.divisor ≡ (integer_rows model).step = makes.step in
    let constant : ratio terms.constant terms.divisor ≡ model.constant = makes.constant in
    let all : next ≡ (integer_rows model).whole = is ∙ ap₂ dense holds.box (holds.rows ∙ ap (map (row_of model)) (take_all i model.rows h)) in
    ap (λ whole. made whole (ratio terms.factor terms.divisor) (ratio terms.constant terms.divisor)) all ∙ ap₂ (made (integer_rows model).whole) step constant

-- the items of one of the model's rows
pub distinct_at : (model : Model) (box : List Bounds) (i : ℕ) (row : Row) → box ≡ (integer_rows model).whole.box → i < length model.rows → row ≡ get_or model.rows i row → All (λ (row : Row). IsDistinctBelow (length model.columns) row.items) model.rows → IsDistinctBelow (length box) row.items
distinct_at model box i row is_box h is distinct =
    subst₂ (λ n (row : Row). IsDistinctBelow n row.items) (sym (box_wide model box is_box)) (sym is) (All-get_or (λ (row : Row). IsDistinctBelow (length model.columns) row.items) model.rows i row h distinct)
