-- Lifting multipliers of a node's system to multipliers of the model's own inequalities.
use Rattle.std.specs.Prelude.{◌≡◌, ◌≢◌, ℕ, ◌+◌, ◌*◌, ◌^◌, ◌<◌, ℤ, pos, ◌-ℤ◌, List, [], ◌∷◌, ◌++◌, length, map, get_or, Option, Some, None, if◌then◌else◌, int_lt, slice_index, ⊤, ◌⊎◌, true, false, take}
use Rattle.std.specs.Ordering.{int_eq}
use Rattle.exact_math.specs.Rational.{ℚ, whole, neg_ℚ, ◌+ℚ◌, ◌*ℚ◌}
use Rattle.exact_math.specs.RationalRing.{rationals}
use Rattle.exact_vectors.specs.Vectors.{dot, add, negate, scale, zeros}
use Rattle.exact_vectors.specs.Matrices.{combination}
use Rattle.spaces.specs.Tables.{rows_in}
use Rattle.frac128.specs.Range.{IsNarrow, ProductInRange, SumInRange}
use Rattle.lp_dict.specs.Systems.{wholes, whole_rows}
use Rattle.whole_rows.specs.WholeRows.{WholeRow, WholeRows, row_at}
use Rattle.row_lifting.specs.Lifting.{none, lifted, LiftStays}
use Rattle.farkas_rows.specs.declared.fracs.FracUse.{FracUse}
use Rattle.farkas_rows.specs.declared.path.Slice.{Slice}
use Rattle.farkas_rows.specs.Inequalities.{Inequality}
use Rattle.reformulate.specs.declared.equality.Equality.{Equality}
use Rattle.reformulate.specs.Substitutions.{Substitution, columns_of, dimension_of}
use Rattle.presolve_map.specs.LiftedLines.{total, factor_in, reduced_limit_in, cost_in}
use Rattle.presolve_map.specs.ReducedRows.{ReducedRows}
use Rattle.farkas_lift.specs.Joined.{joined}
use Rattle.farkas_lift.specs.NodeEqualities.{common_side, node_equalities}
use Rattle.farkas_lift.specs.NodeSides.{node_sides, inequality_of, side_form}
use Rattle.farkas_lift.specs.NodeSystem.{pulled}
use Rattle.farkas_lift.specs.declared.side.NodeSide.{NodeSide}
use Rattle.farkas_lift.specs.declared.place.Place.{Place}
use Rattle.farkas_lift.specs.declared.place.Place.TheVariants as places

-- ---- the sums

abbrev pub side_forms : ReducedRows → List NodeSide → List (List ℤ)
side_forms rows sides = map (side_form rows) sides

-- a row of fractions with a multiple of a form added
abbrev pub with_multiple : List ℚ → ℚ → List ℤ → List ℚ
with_multiple row times form = add rationals row (scale rationals times (wholes form))

-- with multiples of forms added, one after another
abbrev pub with_multiples : List ℚ → List ℚ → List (List ℤ) → List ℚ
with_multiples row [] forms = row
with_multiples row (k ∷ times) [] = row
with_multiples row (k ∷ times) (form ∷ forms) = with_multiples (with_multiple row k form) times forms

-- the weighted sum of forms over the work columns
abbrev pub weighted : Substitution → List (List ℤ) → List ℚ → List ℚ
weighted frame forms weights = with_multiples (zeros rationals (columns_of frame)) weights forms

-- the same in the coordinates of the frame: its product with K
abbrev pub left_side : Substitution → List (List ℤ) → List ℚ → List ℚ
left_side frame forms weights = with_multiples (zeros rationals (dimension_of frame)) (weighted frame forms weights) (rows_in frame.to_work.lines)

-- and the product of that with V
abbrev pub back_form : Substitution → List (List ℤ) → List ℚ → List ℚ
back_form frame forms weights = with_multiples (zeros rationals (columns_of frame)) (left_side frame forms weights) (rows_in frame.back)

-- less the forms, each so many times, one after another
abbrev pub rest_form : Substitution → List (List ℤ) → List ℚ → List ℚ
rest_form frame forms weights = with_multiples (back_form frame forms weights) (negate rationals weights) forms

-- the inequalities that have weights: all of the node's system, with or without the cut
abbrev pub weighted_sides : ReducedRows → List ℚ → List NodeSide
weighted_sides rows weights = take (length weights) (node_sides rows true)

-- there is one weight for each, with or without the cut
abbrev pub HasOneEach : ReducedRows → List ℚ → Type 0
HasOneEach rows weights = (length weights ≡ length (node_sides rows false)) ⊎ (length weights ≡ length (node_sides rows false) + 1)

-- the left sides of the equalities
abbrev pub equality_forms : ReducedRows → List Slice → List (List ℤ)
equality_forms rows path = map (λ (equality : Equality). equality.form) (node_equalities rows path)

-- the multipliers of the equalities
abbrev pub equality_times : Substitution → ReducedRows → List Slice → List ℚ → List ℚ
equality_times frame rows path weights = lifted (equality_forms rows path) (rest_form frame (side_forms rows (weighted_sides rows weights)) weights)

-- ---- the range

-- a multiple is added to an entry in range: where the factor is 0 there is nothing to add
abbrev pub EntryStays : ℚ → ℚ → ℤ → Type 0
EntryStays entry times factor = factor ≢ pos 0 → IsNarrow factor × ProductInRange times (whole factor) × SumInRange entry (times *ℚ whole factor)

-- and to each entry of a row, where the multiplier is not 0
abbrev pub MultipleStays : List ℚ → ℚ → List ℤ → Type 0
MultipleStays row times form = times.num ≢ pos 0 → (j : ℕ) → j < length row → EntryStays (get_or row j none) times (get_or form j (pos 0))

abbrev pub MultiplesStay : List ℚ → List ℚ → List (List ℤ) → Type 0
MultiplesStay row [] forms = ⊤
MultiplesStay row (k ∷ times) [] = ⊤
MultiplesStay row (k ∷ times) (form ∷ forms) = MultipleStays row k form × MultiplesStay (with_multiple row k form) times forms

-- no number on the way to what the equalities sum up to leaves the range, in the order in which they are formed
pub record RestStays (frame : Substitution) (forms : List (List ℤ)) (weights : List ℚ) : Type 0 where
  pub sum : MultiplesStay (zeros rationals (columns_of frame)) weights forms
  pub left : MultiplesStay (zeros rationals (dimension_of frame)) (weighted frame forms weights) (rows_in frame.to_work.lines)
  pub back : MultiplesStay (zeros rationals (columns_of frame)) (left_side frame forms weights) (rows_in frame.back)
  pub rest : MultiplesStay (back_form frame forms weights) (negate rationals weights) forms

-- nor to the multipliers
pub record WeightsStay (frame : Substitution) (rows : ReducedRows) (path : List Slice) (weights : List ℚ) : Type 0 where
  pub rest : RestStays frame (side_forms rows (weighted_sides rows weights)) weights
  pub lifting : LiftStays (equality_forms rows path) (rest_form frame (side_forms rows (weighted_sides rows weights)) weights)

-- ---- the numbers in the model

-- the numbers of an equality are numbers of 32 bits
abbrev pub HasRoom : Place → Type 0
HasRoom (places.Side number) = ⊤
HasRoom (places.Equality number) = number + 1 < 2 ^ 32

-- this place, where there is a value for it
abbrev pub place_with : Place → Option ℤ → List Place
place_with place None = []
place_with place (Some value) = place ∷ []

-- the places of a row with this number in the model
abbrev pub places_unless : Option ℤ → WholeRow → ℕ → List Place
places_unless None row number = place_with (places.Side (2 * number)) row.high ++ place_with (places.Side (2 * number + 1)) row.low
places_unless (Some side) row number = places.Equality (2 * number) ∷ []

abbrev pub row_places : ReducedRows → ℕ → List Place
row_places rows i = let row = row_at rows.rows i in places_unless (common_side row.low row.high) row (slice_index rows.row_numbers i)

-- those of the bounds of a work column, behind those of the rows of the model
abbrev pub column_places : WholeRows → ReducedRows → ℕ → List Place
column_places model rows j = let number = 2 * (length model.rows + slice_index rows.column_numbers j) in places.Side number ∷ places.Side (number + 1) ∷ []

-- that of a slice, behind those of the columns of the model
abbrev pub slice_place : WholeRows → ℕ → List Place
slice_place model k = places.Equality (2 * (length model.rows + length model.box + k)) ∷ []

-- the places of a node in the order of their numbers
abbrev pub node_places : WholeRows → ReducedRows → ℕ → List Place
node_places model rows slices = joined (row_places rows) (length rows.rows.rows) ++ (joined (column_places model rows) (length rows.rows.box) ++ joined (slice_place model) slices)

-- the inequality of this number so many times, where that is not 0
abbrev pub side_use : ℕ → ℚ → List FracUse
side_use number times = if int_eq times.num (pos 0) then [] else record { index = number; times = times } ∷ []

-- an equality so many times: a negative multiplier stands on its lower side, with its size
abbrev pub equality_use : ℕ → ℚ → List FracUse
equality_use number times = if int_lt times.num (pos 0) then record { index = number + 1; times = neg_ℚ times } ∷ [] else side_use number times

-- the places with their multipliers: the next weight at a side, and the next multiplier of an equality at an equality
abbrev pub uses_of : List Place → List ℚ → List ℚ → List FracUse
uses_of [] weights times = []
uses_of (places.Side number ∷ rest) [] times = []
uses_of (places.Side number ∷ rest) (w ∷ weights) times = side_use number w ++ uses_of rest weights times
uses_of (places.Equality number ∷ rest) weights [] = []
uses_of (places.Equality number ∷ rest) weights (t ∷ times) = equality_use number t ++ uses_of rest weights times

-- the items of the lifted multipliers
abbrev pub lifted_uses : WholeRows → Substitution → ReducedRows → List Slice → List ℚ → List FracUse
lifted_uses model frame rows path weights = uses_of (node_places model rows (length path)) weights (equality_times frame rows path weights)

-- those of the equalities of the root, each so many times, without any other inequality
abbrev pub root_uses : WholeRows → ReducedRows → List ℚ → List FracUse
root_uses model rows times = uses_of (node_places model rows 0) (zeros rationals (length (node_sides rows false))) times

-- ---- what they come to

-- the left side g of the weights in the coordinates of the frame
abbrev pub system_left : Substitution → ReducedRows → List ℚ → List ℚ
system_left frame rows weights = combination rationals (dimension_of frame) weights (map (λ side. wholes (pulled frame.to_work (inequality_of rows (pos 0) side)).factors) (weighted_sides rows weights))

-- g V, the form over the work columns
abbrev pub system_form : Substitution → ReducedRows → List ℚ → List ℚ
system_form frame rows weights = combination rationals (columns_of frame) (system_left frame rows weights) (whole_rows (rows_in frame.back))

-- the right side s of the weights, for a cut of this value
abbrev pub system_limit : Substitution → ReducedRows → ℤ → List ℚ → ℚ
system_limit frame rows value weights = dot rationals weights (map (λ side. whole (pulled frame.to_work (inequality_of rows value side)).limit) (weighted_sides rows weights))

-- s + g V x0
abbrev pub lifted_limit : Substitution → ReducedRows → ℤ → List ℚ → ℚ
lifted_limit frame rows value weights = system_limit frame rows value weights +ℚ dot rationals (system_form frame rows weights) (wholes frame.to_work.base)

-- The items, with the cut of this value so many times, come to the form in the work columns, and to the limit, whatever the end
-- of the node.
pub record ComesTo (model : WholeRows) (rows : ReducedRows) (path : List Slice) (end : Option Inequality) (value : ℤ) (cut : ℚ) (items : List FracUse) (form : List ℚ) (limit : ℚ) : Type 0 where
  pub in_columns : (k : ℕ) → k < length rows.rows.box → cut *ℚ cost_in model (slice_index rows.column_numbers k) +ℚ total (factor_in model path end (slice_index rows.column_numbers k)) items ≡ get_or form k none
  pub at_limit : cut *ℚ whole ((value -ℤ pos 1) -ℤ rows.cost_constant) +ℚ total (reduced_limit_in model path end) items ≡ limit
