-- The parts of the check of a point, and the point.
use Rattle.std.proofs.Common.{◌≡◌, ℤ, pos, ◌-ℤ◌, ◌*ℤ◌, ◌≤ℤ◌, List, [], ◌∷◌, subst₂, subst, sym}
use Rattle.std.specs.Prelude.{Option, Some, None, IfSome, All, FitsSigned}
use Rattle.std.specs.List.{AllZip}
use Rattle.std.proofs.lemmas.List.Elements.{All-nil, All-cons, All-head, All-tail, All-weaker}
use Rattle.exact_math.specs.Ring.{integers}
use Rattle.exact_math.specs.IntegerOrder.{le_refl, le_antisym}
use Rattle.exact_vectors.specs.Range.{StaysInRange}
use Rattle.exact_vectors.specs.Vectors.{dot}
use Rattle.whole_rows.specs.declared.bounds.Bounds.{Bounds}
use Rattle.whole_rows.specs.WholeRows.{WholeRow, WholeRows}
use Rattle.farkas_rows.specs.declared.path.Slice.{Slice}
use Rattle.node_point.specs.NodePoints.{Fractions, LiesBetween, IsNodePoint}
use Rattle.node_point.specs.Ranges.{SideFits, StaysWithin}
use Rattle.node_point.specs.Checks.{TellsLow, TellsHigh, TellsForm, TellsColumn, TellsRow, TellsSlice, TellsCut, TellsPoint}
use mir.Syntax.{w128}

-- a row, by its factors and sides as they are read
pub TellsRow-read : (denominator : ℤ) (numerators form : List ℤ) (low high : Option ℤ) (row : WholeRow) → form ≡ row.factors → low ≡ row.low → high ≡ row.high → TellsForm denominator numerators form low high → TellsRow denominator numerators row
TellsRow-read d v form low high row e f g h =
    let at_factors = subst (λ (form : List ℤ). TellsForm d v form low high) e h in
    subst₂ (λ low high. TellsForm d v row.factors low high) f g at_factors

-- a slice, by its form as it is lent
pub TellsSlice-read : (denominator : ℤ) (numerators form : List ℤ) (slice : Slice) → form ≡ slice.form → TellsForm denominator numerators form (Some slice.beta) (Some slice.beta) → TellsSlice denominator numerators slice
TellsSlice-read d v form slice e h = subst (λ (form : List ℤ). TellsForm d v form (Some slice.beta) (Some slice.beta)) e h

-- the bounds of the columns
box-met : (d : ℤ) (box : List Bounds) (v : List ℤ) → AllZip (TellsColumn d) box v → AllZip (λ (bounds : Bounds) value. ((bounds.low *ℤ d) ≤ℤ value) × (value ≤ℤ (bounds.high *ℤ d))) box v
box-met d [] [] h = tt
box-met d [] (x ∷ v) h = absurd h
box-met d (b ∷ box) [] h = absurd h
box-met d (b ∷ box) (x ∷ v) h = ((h.0.low_side.1, h.0.high_side.1), box-met d box v h.1)

box-fits : (d : ℤ) (box : List Bounds) (v : List ℤ) → AllZip (TellsColumn d) box v → All (λ (bounds : Bounds). SideFits d bounds.low × SideFits d bounds.high) box
box-fits d [] [] h = All-nil (λ (bounds : Bounds). SideFits d bounds.low × SideFits d bounds.high)
box-fits d [] (x ∷ v) h = absurd h
box-fits d (b ∷ box) [] h = absurd h
box-fits d (b ∷ box) (x ∷ v) h = All-cons (λ (bounds : Bounds). SideFits d bounds.low × SideFits d bounds.high) b box (h.0.low_side.0, h.0.high_side.0) (box-fits d box v h.1)

box-told : (d : ℤ) (box : List Bounds) (v : List ℤ) → AllZip (λ (bounds : Bounds) value. ((bounds.low *ℤ d) ≤ℤ value) × (value ≤ℤ (bounds.high *ℤ d))) box v → All (λ (bounds : Bounds). SideFits d bounds.low × SideFits d bounds.high) box → AllZip (TellsColumn d) box v
box-told d [] [] h f = tt
box-told d [] (x ∷ v) h f = absurd h
box-told d (b ∷ box) [] h f = absurd h
box-told d (b ∷ box) (x ∷ v) h f =
    let here = All-head (λ (bounds : Bounds). SideFits d bounds.low × SideFits d bounds.high) b box f in
    (record { low_side = (here.0, h.0.0); high_side = (here.1, h.0.1) }, box-told d box v h.1 (All-tail (λ (bounds : Bounds). SideFits d bounds.low × SideFits d bounds.high) b box f))

-- a side that may be absent
low-met : (d value : ℤ) (low : Option ℤ) → TellsLow d value low → IfSome low (SideFits d) × IfSome low (λ l. (l *ℤ d) ≤ℤ value)
low-met d value None h = (tt, tt)
low-met d value (Some l) h = h

low-told : (d value : ℤ) (low : Option ℤ) → IfSome low (SideFits d) → IfSome low (λ l. (l *ℤ d) ≤ℤ value) → TellsLow d value low
low-told d value None h k = tt
low-told d value (Some l) h k = (h, k)

high-met : (d value : ℤ) (high : Option ℤ) → TellsHigh d value high → IfSome high (SideFits d) × IfSome high (λ h. value ≤ℤ (h *ℤ d))
high-met d value None h = (tt, tt)
high-met d value (Some l) h = h

high-told : (d value : ℤ) (high : Option ℤ) → IfSome high (SideFits d) → IfSome high (λ h. value ≤ℤ (h *ℤ d)) → TellsHigh d value high
high-told d value None h k = tt
high-told d value (Some l) h k = (h, k)

-- a row
row-fits : (d : ℤ) (v : List ℤ) (row : WholeRow) → TellsRow d v row → IfSome row.low (SideFits d) × IfSome row.high (SideFits d)
row-fits d v row h = ((low-met d _ row.low h.low_side).0, (high-met d _ row.high h.high_side).0)

row-met : (d : ℤ) (v : List ℤ) (row : WholeRow) → TellsRow d v row → LiesBetween d row.low row.high (dot integers row.factors v)
row-met d v row h = ((low-met d _ row.low h.low_side).1, (high-met d _ row.high h.high_side).1)

-- a slice
slice-met : (d : ℤ) (v : List ℤ) (slice : Slice) → TellsSlice d v slice → dot integers slice.form v ≡ slice.beta *ℤ d
slice-met d v slice h = le_antisym _ _ h.high_side.1 h.low_side.1

slice-told : (d : ℤ) (v : List ℤ) (slice : Slice) → StaysInRange (pos 0) slice.form v → SideFits d slice.beta → dot integers slice.form v ≡ slice.beta *ℤ d → TellsSlice d v slice
slice-told d v slice sum fits e = record { sum = sum; low_side = (fits, subst (λ t. (slice.beta *ℤ d) ≤ℤ t) (sym e) (le_refl _)); high_side = (fits, subst (λ t. t ≤ℤ (slice.beta *ℤ d)) (sym e) (le_refl _)) }

-- the cut
cut-met : (d : ℤ) (v cost : List ℤ) (cut : Option ℤ) → TellsCut d v cost cut → IfSome cut (λ value. dot integers cost v ≤ℤ ((value -ℤ pos 1) *ℤ d)) × IfSome cut (λ value. StaysInRange (pos 0) cost v) × IfSome cut (λ value. FitsSigned w128 (value -ℤ pos 1) × SideFits d (value -ℤ pos 1))
cut-met d v cost None h = (tt, tt, tt)
cut-met d v cost (Some value) h = (h.1.high_side.1, h.1.sum, (h.0, h.1.high_side.0))

cut-told : (d : ℤ) (v cost : List ℤ) (cut : Option ℤ) → IfSome cut (λ value. dot integers cost v ≤ℤ ((value -ℤ pos 1) *ℤ d)) → IfSome cut (λ value. StaysInRange (pos 0) cost v) → IfSome cut (λ value. FitsSigned w128 (value -ℤ pos 1) × SideFits d (value -ℤ pos 1)) → TellsCut d v cost cut
cut-told d v cost None h s f = tt
cut-told d v cost (Some value) h s f = (f.0, record { sum = s; low_side = tt; high_side = (f.1, h) })

-- what the check finds is a point, of which all numbers on the way fit
pub told-point : (rows : WholeRows) (path : List Slice) (cut : Option ℤ) (d : ℤ) (v : List ℤ) → TellsPoint rows path cut d v → IsNodePoint rows path cut (record { numerators = v; denominator = d }) × StaysWithin rows path cut (record { numerators = v; denominator = d })
told-point rows path cut d v h =
    let below = cut-met d v rows.cost cut h.below_cut in
    let x : Fractions = record { numerators = v; denominator = d } in (
      record {
        positive = h.positive;
        in_box = box-met d rows.box v h.in_box;
        in_rows = All-weaker (TellsRow d v) (λ (row : WholeRow). LiesBetween d row.low row.high (dot integers row.factors v)) (row-met d v) rows.rows h.in_rows;
        on_path = All-weaker (TellsSlice d v) (λ (slice : Slice). dot integers slice.form v ≡ slice.beta *ℤ d) (slice-met d v) path h.on_path;
        below_cut = below.0;
      },
      record {
        bounds = box-fits d rows.box v h.in_box;
        row_sums = All-weaker (TellsRow d v) (λ (row : WholeRow). StaysInRange (pos 0) row.factors v) (λ row told. told.sum) rows.rows h.in_rows;
        row_sides = All-weaker (TellsRow d v) (λ (row : WholeRow). IfSome row.low (SideFits d) × IfSome row.high (SideFits d)) (row-fits d v) rows.rows h.in_rows;
        slice_sums = All-weaker (TellsSlice d v) (λ (slice : Slice). StaysInRange (pos 0) slice.form v) (λ slice told. told.sum) path h.on_path;
        slice_sides = All-weaker (TellsSlice d v) (λ (slice : Slice). SideFits d slice.beta) (λ slice told. told.low_side.0) path h.on_path;
        cut_sum = below.1;
        cut_side = below.2;
      },
    )

-- the rows, from three facts of each
rows-told : (d : ℤ) (v : List ℤ) (rows : List WholeRow) → All (λ (row : WholeRow). LiesBetween d row.low row.high (dot integers row.factors v)) rows → All (λ (row : WholeRow). StaysInRange (pos 0) row.factors v) rows → All (λ (row : WholeRow). IfSome row.low (SideFits d) × IfSome row.high (SideFits d)) rows → All (TellsRow d v) rows
rows-told d v rows met sums sides = λ k row lt.
    let here = met k row lt in
    let fits = sides k row lt in
    record { sum = sums k row lt; low_side = low-told d _ _ fits.0 here.0; high_side = high-told d _ _ fits.1 here.1 }

-- the slices
slices-told : (d : ℤ) (v : List ℤ) (path : List Slice) → All (λ (slice : Slice). dot integers slice.form v ≡ slice.beta *ℤ d) path → All (λ (slice : Slice). StaysInRange (pos 0) slice.form v) path → All (λ (slice : Slice). SideFits d slice.beta) path → All (TellsSlice d v) path
slices-told d v path met sums sides = λ k slice lt. slice-told d v _ (sums k slice lt) (sides k slice lt) (met k slice lt)

-- the check finds each point of which all numbers on the way fit
pub point-told : (rows : WholeRows) (path : List Slice) (cut : Option ℤ) (d : ℤ) (v : List ℤ) → IsNodePoint rows path cut (record { numerators = v; denominator = d }) → StaysWithin rows path cut (record { numerators = v; denominator = d }) → TellsPoint rows path cut d v
point-told rows path cut d v h f = record {
  positive = h.positive;
  in_box = box-told d rows.box v h.in_box f.bounds;
  in_rows = rows-told d v rows.rows h.in_rows f.row_sums f.row_sides;
  on_path = slices-told d v path h.on_path f.slice_sums f.slice_sides;
  below_cut = cut-told d v rows.cost cut h.below_cut f.cut_sum f.cut_side;
}
