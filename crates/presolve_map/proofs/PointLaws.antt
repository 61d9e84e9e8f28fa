-- Values of the kept columns and of all columns.
use Rattle.std.proofs.Common.{◌≡◌, ℕ, suc, ◌+◌, ◌<◌, Bool, true, false, not, cond, List, [], ◌∷◌, length, drop, ℤ, pos, ◌+ℤ◌, ◌*ℤ◌, refl, ap, ap₂, sym, subst, ◌∙◌, drop-cons, arith}
use Rattle.std.specs.Ordering.{int_eq}
use Rattle.std.proofs.lemmas.Bool.Decides.{Decides-int_eq}
use Rattle.exact_math.specs.Ring.{integers}
use Rattle.exact_math.specs.IntegerRing.{linear}
use Rattle.exact_vectors.specs.Vectors.{dot, add}
use Rattle.exact_vectors.specs.Matrices.{times_vector}
use Rattle.exact_vectors.specs.DotLaws as Dot
use Rattle.whole_rows.specs.declared.bounds.Bounds.{Bounds}
use Rattle.whole_rows.specs.WholeRows.{LiesIn}
use Rattle.farkas_rows.specs.NodeLaws.{dot-unit}
use Rattle.spaces.specs.Maps.{AffineMap, image}
use Rattle.presolve_map.specs.Selections.{select, positions}
use Rattle.presolve_map.specs.Columns.{is_open, open_flags, kept_columns, removed_value, removed_values, column_lines, IsColumnMap}

-- The flags and the values are those of the box: a column whose flag is not set has one value.
abbrev pub FlagsOf : List Bool → List ℤ → List Bounds → Type 0
FlagsOf [] base box = (base ≡ []) × (box ≡ [])
FlagsOf (flag ∷ flags) [] box = ⊥
FlagsOf (flag ∷ flags) (v ∷ base) [] = ⊥
FlagsOf (true ∷ flags) (v ∷ base) (b ∷ box) = (v ≡ pos 0) × FlagsOf flags base box
FlagsOf (false ∷ flags) (v ∷ base) (b ∷ box) = (v ≡ b.low) × (b.low ≡ b.high) × FlagsOf flags base box

pub flags-of_box : (box : List Bounds) → FlagsOf (open_flags box) (removed_values box) box
flags-of_box [] = (refl, refl)
flags-of_box (b ∷ box) = by_test (flags-of_box box) (int_eq b.low b.high) refl
  where
    by_test : FlagsOf (open_flags box) (removed_values box) box → (t : Bool) → int_eq b.low b.high ≡ t → FlagsOf (is_open b ∷ open_flags box) (removed_value b ∷ removed_values box) (b ∷ box)
    by_test rest true e = subst (λ (t : Bool). FlagsOf (not t ∷ open_flags box) (cond (not t) (pos 0) b.low ∷ removed_values box) (b ∷ box)) (sym e) (refl, (Decides-int_eq b.low b.high).0 e, rest)
    by_test rest false e = subst (λ (t : Bool). FlagsOf (not t ∷ open_flags box) (cond (not t) (pos 0) b.low ∷ removed_values box) (b ∷ box)) (sym e) (refl, rest)

-- the values w in the places of the columns that are kept, and the others' values
abbrev pub spread : List Bool → List ℤ → List ℤ → List ℤ
spread [] base w = []
spread (flag ∷ flags) [] w = []
spread (true ∷ flags) (v ∷ base) [] = v ∷ spread flags base []
spread (true ∷ flags) (v ∷ base) (x ∷ w) = x ∷ spread flags base w
spread (false ∷ flags) (v ∷ base) w = v ∷ spread flags base w

-- ---- the box

pub lies-spread : (flags : List Bool) (base : List ℤ) (box : List Bounds) (w : List ℤ) → FlagsOf flags base box → LiesIn (select flags box) w → LiesIn box (spread flags base w)
lies-spread [] base box w f h = subst (λ (b : List Bounds). LiesIn b []) (sym f.1) tt
lies-spread (flag ∷ flags) [] box w f h = absurd f
lies-spread (flag ∷ flags) (v ∷ base) [] w f h = absurd f
lies-spread (true ∷ flags) (v ∷ base) (b ∷ box) [] f h = absurd h
lies-spread (true ∷ flags) (v ∷ base) (b ∷ box) (x ∷ w) f h = (h.0, lies-spread flags base box w f.1 h.1)
lies-spread (false ∷ flags) (v ∷ base) (b ∷ box) w f h = ((omega (linear, f.0), omega (linear, f.0, f.1)), lies-spread flags base box w f.2 h)

pub select-spread : (flags : List Bool) (base : List ℤ) (box : List Bounds) (w : List ℤ) → FlagsOf flags base box → LiesIn (select flags box) w → select flags (spread flags base w) ≡ w
select-spread [] base box [] f h = refl
select-spread [] base box (x ∷ w) f h = absurd h
select-spread (flag ∷ flags) [] box w f h = absurd f
select-spread (flag ∷ flags) (v ∷ base) [] w f h = absurd f
select-spread (true ∷ flags) (v ∷ base) (b ∷ box) [] f h = absurd h
select-spread (true ∷ flags) (v ∷ base) (b ∷ box) (x ∷ w) f h = ap {B = List ℤ} (λ t. x ∷ t) (select-spread flags base box w f.1 h.1)
select-spread (false ∷ flags) (v ∷ base) (b ∷ box) w f h = select-spread flags base box w f.2 h

pub lies-select : (flags : List Bool) (base : List ℤ) (box : List Bounds) (x : List ℤ) → FlagsOf flags base box → LiesIn box x → LiesIn (select flags box) (select flags x)
lies-select [] base box x f h = tt
lies-select (flag ∷ flags) [] box x f h = absurd f
lies-select (flag ∷ flags) (v ∷ base) [] x f h = absurd f
lies-select (flag ∷ flags) (v ∷ base) (b ∷ box) [] f h = absurd h
lies-select (true ∷ flags) (v ∷ base) (b ∷ box) (y ∷ x) f h = (h.0, lies-select flags base box x f.1 h.1)
lies-select (false ∷ flags) (v ∷ base) (b ∷ box) (y ∷ x) f h = lies-select flags base box x f.2 h.1

pub spread-select : (flags : List Bool) (base : List ℤ) (box : List Bounds) (x : List ℤ) → FlagsOf flags base box → LiesIn box x → spread flags base (select flags x) ≡ x
spread-select [] base box [] f h = refl
spread-select [] base box (y ∷ x) f h = absurd (subst (λ (b : List Bounds). LiesIn b (y ∷ x)) f.1 h)
spread-select (flag ∷ flags) [] box x f h = absurd f
spread-select (flag ∷ flags) (v ∷ base) [] x f h = absurd f
spread-select (flag ∷ flags) (v ∷ base) (b ∷ box) [] f h = absurd h
spread-select (true ∷ flags) (v ∷ base) (b ∷ box) (y ∷ x) f h = ap {B = List ℤ} (λ t. y ∷ t) (spread-select flags base box x f.1 h.1)
spread-select (false ∷ flags) (v ∷ base) (b ∷ box) (y ∷ x) f h =
    let only : v ≡ y = omega (linear, f.0, f.1, h.0.0, h.0.1) in
    ap₂ {A = ℤ} {B = List ℤ} {C = List ℤ} (λ z t. z ∷ t) only (spread-select flags base box x f.2 h.1)

-- ---- sums

pub dot-spread : (flags : List Bool) (base : List ℤ) (box : List Bounds) (factors w : List ℤ) → FlagsOf flags base box → length factors ≡ length box → LiesIn (select flags box) w → dot integers factors (spread flags base w) ≡ dot integers (select flags factors) w +ℤ dot integers factors base
dot-spread [] base box factors w f e h = Dot.dot-nil_right integers factors ∙ subst (λ (b : List ℤ). pos 0 ≡ pos 0 +ℤ dot integers factors b) (sym f.0) (subst (λ (z : ℤ). pos 0 ≡ pos 0 +ℤ z) (sym (Dot.dot-nil_right integers factors)) refl)
dot-spread (flag ∷ flags) [] box factors w f e h = absurd f
dot-spread (flag ∷ flags) (v ∷ base) [] factors w f e h = absurd f
dot-spread (flag ∷ flags) (v ∷ base) (b ∷ box) [] w f e h = absurd (omega arith)
dot-spread (true ∷ flags) (v ∷ base) (b ∷ box) (a ∷ factors) [] f e h = absurd h
dot-spread (true ∷ flags) (v ∷ base) (b ∷ box) (a ∷ factors) (x ∷ w) f e h =
    let none : a *ℤ v ≡ pos 0 = ap (λ z. a *ℤ z) f.0 ∙ omega linear in
    omega (linear, dot-spread flags base box factors w f.1 (omega arith) h.1)
dot-spread (false ∷ flags) (v ∷ base) (b ∷ box) (a ∷ factors) w f e h = omega (linear, dot-spread flags base box factors w f.2 (omega arith) h)

-- ---- the image

add-nil : (x : List ℤ) → add integers x [] ≡ []
add-nil [] = refl
add-nil (a ∷ x) = refl

pub count-any : (flags : List Bool) (j k : ℕ) → length (positions j flags) ≡ length (positions k flags)
count-any [] j k = refl
count-any (true ∷ flags) j k = ap suc (count-any flags (suc j) (suc k))
count-any (false ∷ flags) j k = count-any flags (suc j) (suc k)

placed : (flags : List Bool) (base : List ℤ) (box : List Bounds) (place : ℕ) (u : List ℤ) → FlagsOf flags base box → length u ≡ place + length (positions 0 flags) → add integers base (times_vector integers (column_lines (length u) place flags) u) ≡ spread flags base (drop place u)
placed [] base box place u f e = add-nil base
placed (flag ∷ flags) [] box place u f e = absurd f
placed (flag ∷ flags) (v ∷ base) [] place u f e = absurd f
placed (true ∷ flags) (v ∷ base) (b ∷ box) place u f e =
    let here : place < length u = omega arith in
    let rest : length u ≡ suc place + length (positions 0 flags) = omega (arith, count-any flags 1 0) in
    rw (drop-cons u place (pos 0)) (ap₂ {A = ℤ} {B = List ℤ} {C = List ℤ} (λ z t. z ∷ t) (omega (linear, f.0, dot-unit (length u) place u refl here)) (placed flags base box (suc place) u f.1 rest))
placed (false ∷ flags) (v ∷ base) (b ∷ box) place u f e =
    let rest : length u ≡ place + length (positions 0 flags) = omega (arith, count-any flags 1 0) in
    ap₂ {A = ℤ} {B = List ℤ} {C = List ℤ} (λ z t. z ∷ t) (omega (linear, Dot.dot-zeros_left integers (length u) u)) (placed flags base box place u f.2 rest)

-- The image of values of the kept columns has these values there, and the others' values elsewhere.
pub image-spread : (box : List Bounds) (placing : AffineMap) (w : List ℤ) → IsColumnMap box placing → length w ≡ length (kept_columns box) → image placing w ≡ spread (open_flags box) (removed_values box) w
image-spread box placing w is e =
    ap₂ (λ (base : List ℤ) (lines : List (List ℤ)). add integers base (times_vector integers lines w)) is.base (is.lines ∙ ap (λ n. column_lines n 0 (open_flags box)) (sym e))
    ∙ placed (open_flags box) (removed_values box) box 0 w (flags-of_box box) (omega arith)
