-- What the parts of the check of a point find: that something holds, and that the numbers of which it is told fit.
use Rattle.std.specs.Prelude.{ℤ, pos, ◌-ℤ◌, ◌*ℤ◌, ◌≤ℤ◌, ◌<ℤ◌, List, Option, Some, None, IfSome, All, FitsSigned}
use Rattle.std.specs.List.{AllZip}
use Rattle.exact_math.specs.Ring.{integers}
use Rattle.exact_vectors.specs.Range.{StaysInRange}
use Rattle.exact_vectors.specs.Vectors.{dot}
use Rattle.whole_rows.specs.declared.bounds.Bounds.{Bounds}
use Rattle.whole_rows.specs.WholeRows.{WholeRow, WholeRows}
use Rattle.farkas_rows.specs.declared.path.Slice.{Slice}
use Rattle.node_point.specs.Ranges.{SideFits}
use mir.Syntax.{w128}

-- a side that may be absent is at most the number over the denominator
abbrev pub TellsLow : ℤ → ℤ → Option ℤ → Type 0
TellsLow denominator value low = IfSome low (λ l. SideFits denominator l × ((l *ℤ denominator) ≤ℤ value))

-- the number over the denominator is at most a side that may be absent
abbrev pub TellsHigh : ℤ → ℤ → Option ℤ → Type 0
TellsHigh denominator value high = IfSome high (λ h. SideFits denominator h × (value ≤ℤ (h *ℤ denominator)))

-- a form's value lies between two sides
pub record TellsForm (denominator : ℤ) (numerators : List ℤ) (form : List ℤ) (low high : Option ℤ) : Type 0 where
  pub sum : StaysInRange (pos 0) form numerators
  pub low_side : TellsLow denominator (dot integers form numerators) low
  pub high_side : TellsHigh denominator (dot integers form numerators) high

-- a column lies between its bounds
pub record TellsColumn (denominator : ℤ) (bounds : Bounds) (value : ℤ) : Type 0 where
  pub low_side : TellsLow denominator value (Some bounds.low)
  pub high_side : TellsHigh denominator value (Some bounds.high)

-- a row's sum lies between its sides
abbrev pub TellsRow : ℤ → List ℤ → WholeRow → Type 0
TellsRow denominator numerators row = TellsForm denominator numerators row.factors row.low row.high

-- a slice's form has its value
abbrev pub TellsSlice : ℤ → List ℤ → Slice → Type 0
TellsSlice denominator numerators slice = TellsForm denominator numerators slice.form (Some slice.beta) (Some slice.beta)

-- the costs come to at most the cut's value less 1
abbrev pub TellsCut : ℤ → List ℤ → List ℤ → Option ℤ → Type 0
TellsCut denominator numerators cost cut = IfSome cut (λ value. FitsSigned w128 (value -ℤ pos 1) × TellsForm denominator numerators cost None (Some (value -ℤ pos 1)))

-- all of a node
pub record TellsPoint (rows : WholeRows) (path : List Slice) (cut : Option ℤ) (denominator : ℤ) (numerators : List ℤ) : Type 0 where
  pub positive : pos 0 <ℤ denominator
  pub in_box : AllZip (TellsColumn denominator) rows.box numerators
  pub in_rows : All (TellsRow denominator numerators) rows.rows
  pub on_path : All (TellsSlice denominator numerators) path
  pub below_cut : TellsCut denominator numerators rows.cost cut
