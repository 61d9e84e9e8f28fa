-- Where a line refutes a node, no list of whole numbers meets the inequalities that it uses.
use Rattle.std.proofs.Common.{◌≡◌, ℕ, zero, suc, ◌+◌, ◌<◌, List, [], ◌∷◌, length, get_or, map, ℤ, pos, ◌≤ℤ◌, ◌<ℤ◌, refl, ap, ◌∙◌, arith, zero-add}
use Rattle.std.specs.Prelude.{Option, Some, None, IsSome, IfSome, All}
use Rattle.std.proofs.lemmas.List.Elements.{All-head, All-tail, All-weaker}
use Rattle.std.proofs.lemmas.List.{length-set}
use Rattle.std.proofs.lemmas.Slice.Zip.{AllZip-long}
use Rattle.exact_math.specs.Ring.{integers}
use Rattle.exact_math.specs.IntegerRing.{linear}
use Rattle.exact_vectors.specs.Vectors.{dot, negate, zeros}
use Rattle.exact_vectors.specs.Matrices.{HasWidth, times_vector}
use Rattle.exact_vectors.specs.Inequalities.{NotNegative, AtMost}
use Rattle.exact_vectors.specs.DotLaws as Dot
use Rattle.exact_vectors.specs.MatrixLaws as Matrices
use Rattle.exact_vectors.specs.InequalityLaws.{farkas}
use Rattle.whole_rows.specs.declared.bounds.Bounds.{Bounds}
use Rattle.whole_rows.specs.WholeRows.{WholeRow, WholeRows, LiesIn, MeetsRow, Meets, IsWithinLimits, cut_value}
use Rattle.farkas_rows.specs.declared.line.Use.{Use}
use Rattle.farkas_rows.specs.declared.line.CutUse.{CutUse}
use Rattle.farkas_rows.specs.declared.line.Line.{Line}
use Rattle.farkas_rows.specs.declared.path.Slice.{Slice}
use Rattle.farkas_rows.specs.Inequalities.{Inequality, IsMetBy, at_most, at_least, unit, row_sides, column_bounds, slice_sides, inequalities, inequality_at, cut_inequality}
use Rattle.farkas_rows.specs.Refutes.{IsMultiplier, multipliers, used, Refutes, HasForms, IsOnPath, IsDense}
use Rattle.farkas_rows.specs.EachInequality.{EachHas, row_sides-each, slice_sides-each, column_bounds-each, inequalities-each, used-each}

-- ---- the forms have a factor for each column

-- a turned form is as long
pub length-negate : (form : List ℤ) → length (negate integers form) ≡ length form
length-negate [] = refl
length-negate (a ∷ form) = ap suc (length-negate form)

-- the form of one column
pub length-unit : (columns column : ℕ) → length (unit columns column) ≡ columns
length-unit columns column = length-set (zeros integers columns) column (pos 1) ∙ Matrices.length-zeros integers columns

-- the sides of a form
sides_dense : (columns : ℕ) (form : List ℤ) (high low : ℤ) → length form ≡ columns → IsDense columns (at_most form high) × IsDense columns (at_least form low)
sides_dense columns form high low e = (e, length-negate form ∙ e)

-- a fact of every value is one of a side
of_side : {X : Type 0} (P : X → Type 0) (side : Option X) → ((x : X) → P x) → IfSome side P
of_side P None h = tt
of_side P (Some x) h = h x

-- all inequalities of a node
pub inequalities-dense : (rows : WholeRows) (path : List Slice) (end : Option Inequality) → IsWithinLimits rows → HasForms (length rows.box) path → IfSome end (IsDense (length rows.box)) → EachHas (IsDense (length rows.box)) (inequalities rows path end)
inequalities-dense rows path end limits forms of_end =
    let n = length rows.box in
    inequalities-each (IsDense n) rows path end
    (All-weaker (λ (row : WholeRow). length row.factors ≡ n) (λ (row : WholeRow). EachHas (IsDense n) (row_sides row)) (λ row e. row_sides-each (IsDense n) row (of_side _ row.high (λ side. (sides_dense n row.factors side side e).0)) (of_side _ row.low (λ side. (sides_dense n row.factors side side e).1))) rows.rows limits.dense)
    (column_bounds-each (IsDense n) n 0 rows.box (record { low = pos 0; high = pos 0 }) (λ k lt. sides_dense n (unit n (0 + k)) (get_or rows.box k (record { low = pos 0; high = pos 0 })).high (get_or rows.box k (record { low = pos 0; high = pos 0 })).low (length-unit n (0 + k))))
    (All-weaker (λ (slice : Slice). length slice.form ≡ n) (λ (slice : Slice). EachHas (IsDense n) (slice_sides slice)) (λ slice e. let dense = sides_dense n slice.form slice.beta slice.beta e in slice_sides-each (IsDense n) slice dense.0 dense.1) path forms)
    of_end

-- ---- the values meet them

-- the form of one column has its value
pub dot-unit : (columns column : ℕ) (x : List ℤ) → length x ≡ columns → column < columns → dot integers (unit columns column) x ≡ get_or x column (pos 0)
dot-unit zero column x e h = absurd (omega arith)
dot-unit (suc n) column [] e h = absurd (omega arith)
dot-unit (suc n) zero (v ∷ x) e h = omega (linear, Dot.dot-zeros_left integers n x)
dot-unit (suc n) (suc j) (v ∷ x) e h = omega (linear, dot-unit n j x (omega arith) (omega arith))

-- a form that is at least a side, turned
pub at_least-met : (form : List ℤ) (side : ℤ) (x : List ℤ) → side ≤ℤ dot integers form x → IsMetBy x (at_least form side)
at_least-met form side x h = omega (linear, Dot.dot-negate_left integers form x)

-- the sides of a row
row_sides-met : (row : WholeRow) (x : List ℤ) → MeetsRow row x → EachHas (IsMetBy x) (row_sides row)
row_sides-met row x met = row_sides-each (IsMetBy x) row met.1 (turned row.low met.0)
  where
    turned : (low : Option ℤ) → IfSome low (λ l. l ≤ℤ dot integers row.factors x) → IfSome low (λ side. IsMetBy x (at_least row.factors side))
    turned None h = tt
    turned (Some side) h = at_least-met row.factors side x h

-- the value of a column lies within its bounds
pub LiesIn-at : (box : List Bounds) (x : List ℤ) (column : ℕ) (b : Bounds) → LiesIn box x → column < length box → ((get_or box column b).low ≤ℤ get_or x column (pos 0)) × (get_or x column (pos 0) ≤ℤ (get_or box column b).high)
LiesIn-at [] x column b lies h = absurd (omega arith)
LiesIn-at (bounds ∷ box) [] column b lies h = absurd lies
LiesIn-at (bounds ∷ box) (v ∷ x) zero b lies h = lies.0
LiesIn-at (bounds ∷ box) (v ∷ x) (suc column) b lies h = LiesIn-at box x column b lies.1 (omega arith)

-- the bounds of the columns
column_bounds-met : (box : List Bounds) (x : List ℤ) → LiesIn box x → EachHas (IsMetBy x) (column_bounds (length box) 0 box)
column_bounds-met box x lies = column_bounds-each (IsMetBy x) (length box) 0 box (record { low = pos 0; high = pos 0 }) (λ k lt. within k lt)
  where
    b : Bounds
    b = record { low = pos 0; high = pos 0 }

    within : (k : ℕ) → k < length box → IsMetBy x (at_most (unit (length box) (0 + k)) (get_or box k b).high) × IsMetBy x (at_least (unit (length box) (0 + k)) (get_or box k b).low)
    within k lt =
        let value : dot integers (unit (length box) (0 + k)) x ≡ get_or x k (pos 0) = rw zero-add (dot-unit (length box) k x (AllZip-long _ _ _ lies) lt) in
        let here = LiesIn-at box x k b lies lt in
        (omega (linear, here.1), at_least-met (unit (length box) (0 + k)) (get_or box k b).low x (omega (linear, here.0)))

-- all inequalities of a node
pub inequalities-met : (rows : WholeRows) (path : List Slice) (end : Option Inequality) (x : List ℤ) → Meets rows x → IsOnPath path x → IfSome end (IsMetBy x) → EachHas (IsMetBy x) (inequalities rows path end)
inequalities-met rows path end x meets on of_end =
    inequalities-each (IsMetBy x) rows path end
    (All-weaker (λ (row : WholeRow). MeetsRow row x) (λ (row : WholeRow). EachHas (IsMetBy x) (row_sides row)) (λ row met. row_sides-met row x met) rows.rows meets.in_rows)
    (column_bounds-met rows.box x meets.in_box)
    (All-weaker (λ (slice : Slice). dot integers slice.form x ≡ slice.beta) (λ (slice : Slice). EachHas (IsMetBy x) (slice_sides slice)) (λ slice e. slice_sides-each (IsMetBy x) slice (omega linear) (at_least-met slice.form slice.beta x (omega linear))) path on)
    of_end

-- ---- a line

-- the factors as a matrix
pub width-of_each : (columns : ℕ) (inequalities : List Inequality) → All (IsDense columns) inequalities → HasWidth columns (map (λ (inequality : Inequality). inequality.factors) inequalities)
width-of_each columns [] h = tt
width-of_each columns (i ∷ rest) h = (All-head (IsDense columns) i rest h, width-of_each columns rest (All-tail (IsDense columns) i rest h))

-- the inequalities as one between vectors
at_most-of_each : (x : List ℤ) (inequalities : List Inequality) → All (IsMetBy x) inequalities → AtMost (times_vector integers (map (λ (inequality : Inequality). inequality.factors) inequalities) x) (map (λ (inequality : Inequality). inequality.limit) inequalities)
at_most-of_each x [] h = tt
at_most-of_each x (i ∷ rest) h = (All-head (IsMetBy x) i rest h, at_most-of_each x rest (All-tail (IsMetBy x) i rest h))

-- each inequality that a line uses has a factor for each column
pub used-dense : (rows : WholeRows) (path : List Slice) (end : Option Inequality) (line : Line) → IsWithinLimits rows → HasForms (length rows.box) path → IfSome end (IsDense (length rows.box)) → All (λ (item : Use). IsSome (inequality_at rows path end item.index)) line.items → All (IsDense (length rows.box)) (used rows path end line)
used-dense rows path end line limits forms dense_end there =
    used-each (IsDense (length rows.box)) rows path end line (of_side (λ (cut : CutUse). IsDense (length rows.box) (cut_inequality rows cut.value)) line.cut (λ cut. limits.priced)) there (inequalities-dense rows path end limits forms dense_end)

-- a fact of the cut
of_cut : (P Q : CutUse → Type 0) (cut : Option CutUse) → ((cut : CutUse) → P cut → Q cut) → IfSome cut P → IfSome cut Q
of_cut P Q None f h = tt
of_cut P Q (Some cut) f h = f cut h

-- The values x of no list meet the rows, lie on the path's slices and on the end, and have a cut value below that of the
-- cut that the line uses, where the line refutes.
pub Refutes-no_point : (rows : WholeRows) (path : List Slice) (end : Option Inequality) (line : Line) (x : List ℤ) → IsWithinLimits rows → HasForms (length rows.box) path → IfSome end (IsDense (length rows.box)) → Refutes rows path end line → Meets rows x → IsOnPath path x → IfSome end (IsMetBy x) → IfSome line.cut (λ (cut : CutUse). cut_value rows x <ℤ cut.value) → ⊥
Refutes-no_point rows path end line x limits forms dense_end refutes meets on on_end better =
    let n = length rows.box in
    let dense : All (IsDense n) (used rows path end line) = used-dense rows path end line limits forms dense_end refutes.there in
    let met : All (IsMetBy x) (used rows path end line) = used-each (IsMetBy x) rows path end line (of_cut (λ (cut : CutUse). cut_value rows x <ℤ cut.value) (λ (cut : CutUse). IsMetBy x (cut_inequality rows cut.value)) line.cut (λ cut h. omega linear) better) refutes.there (inequalities-met rows path end x meets on on_end) in
    let nonneg : NotNegative (multipliers line) = All-weaker IsMultiplier (λ times. pos 0 ≤ℤ times) (λ times h. omega (linear, h.0)) (multipliers line) refutes.in_range in
    farkas n (multipliers line) (map (λ (inequality : Inequality). inequality.factors) (used rows path end line)) x (map (λ (inequality : Inequality). inequality.limit) (used rows path end line)) (width-of_each n (used rows path end line) dense) nonneg refutes.combination.vanishes refutes.combination.negative (at_most-of_each x (used rows path end line) met)
