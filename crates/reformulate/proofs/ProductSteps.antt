-- Products that answer whether they fit.
use Rattle.std.proofs.Common.{rules, ◌≡◌, ℕ, zero, suc, ◌+◌, ◌<◌, ◌≤◌, ℤ, pos, ◌+ℤ◌, ◌*ℤ◌, List, [], ◌∷◌, ◌++◌, length, get_or, take, replicate, Result, Ok, Err, FitsSigned, refl, sym, ap, ap₂, subst, ◌∙◌, arith}
use Rattle.std.specs.Prelude.{IfErr, IsErrAnd}
use Rattle.std.proofs.lemmas.List.{take_all, take_more}
use Rattle.exact_math.specs.IntegerLaws as Z
use Rattle.exact_math.specs.Ring.{integers}
use Rattle.exact_vectors.specs.Matrices.{column}
use Rattle.exact_vectors.specs.MatrixLaws as Matrix
use Rattle.exact_vectors.specs.Vectors.{scale}
use Rattle.exact_vectors.specs.Range.{StaysInRange}
use Rattle.spaces.specs.Maps.{AffineMap, CompositionStays}
use Rattle.spaces.specs.Multiples.{with_multiple}
use Rattle.spaces.specs.Stops.{StopsUnless}
use Rattle.spaces.specs.Tables.{Table, row_at, rows_in}
use Rattle.spaces.specs.TableLaws as Tables
use Rattle.spaces.specs.declared.map_stop.MapStop.{MapStop}
use Rattle.spaces.specs.declared.map_stop.MapStop.TheVariants.{Wide, NoMemory}
use Rattle.reformulate.specs.Excuses.{MatricesStay}
use mir.Syntax.{w128}

-- what stops a part stops the whole
pub stops_whole : (Part Whole : Type 0) (stop : MapStop) → (Whole → Part) → StopsUnless Part stop → StopsUnless Whole stop
stops_whole Part Whole Wide f h = λ w. h (f w)
stops_whole Part Whole NoMemory f h = tt

-- the same, handed on
pub stop_handed_on : {A : Type 0} (Part Whole : Type 0) (stop : MapStop) (r : Result A MapStop) → IsErrAnd r (λ e. e ≡ stop) → (Whole → Part) → StopsUnless Part stop → IfErr r (StopsUnless Whole)
stop_handed_on Part Whole stop (Ok x) e f h = tt
stop_handed_on Part Whole stop (Err s) e f h = subst (StopsUnless Whole) (sym e) (stops_whole Part Whole stop f h)

-- products with zeros stay in range
zeros_stay : (row : List ℤ) (k : ℕ) → StaysInRange (pos 0) row (replicate k (pos 0))
zeros_stay [] k = tt
zeros_stay (a ∷ row) zero = tt
zeros_stay (a ∷ row) (suc k) =
    let nothing : a *ℤ pos 0 ≡ pos 0 = Z.mul_zero a in
    let none : pos 0 +ℤ a *ℤ pos 0 ≡ pos 0 = ap (λ z. pos 0 +ℤ z) nothing in
    (subst (FitsSigned w128) (sym nothing) zero_fits, subst (FitsSigned w128) (sym none) zero_fits, subst (λ s. StaysInRange s row (replicate k (pos 0))) (sym none) (zeros_stay row k))
  where
    zero_fits : FitsSigned w128 (pos 0)
    zero_fits = search rules

-- the item of a list of zeros
zero_at : (k i : ℕ) → get_or (replicate k (pos 0)) i (pos 0) ≡ pos 0
zero_at zero i = refl
zero_at (suc k) zero = refl
zero_at (suc k) (suc i) = zero_at k i

-- a composition of maps without bases stays in range where the product of their lines does
pub composition_stays : (first next : AffineMap) (k j : ℕ) → first.base ≡ replicate k (pos 0) → next.base ≡ replicate j (pos 0) → MatricesStay first.lines.width (rows_in next.lines) (rows_in first.lines) → CompositionStays first next
composition_stays first next k j e f stays = (
  λ i lt. subst (λ b. StaysInRange (get_or next.base i (pos 0)) (row_at next.lines i) b) (sym e) (subst (λ s. StaysInRange s (row_at next.lines i) (replicate k (pos 0))) (sym (ap (λ b. get_or b i (pos 0)) f ∙ zero_at j i)) (zeros_stay (row_at next.lines i) k)),
  λ i lt c below.
      let there : i < length (rows_in next.lines) = omega (arith, Tables.length-rows_in next.lines) in
      subst (λ l. StaysInRange (pos 0) l (column integers (rows_in first.lines) c)) (Tables.rows_in-at next.lines i lt) (stays i c there below),
)

-- the same for the matrices in the maps
pub product_stays : (first next : AffineMap) (left right : Table ℤ) (inner outer : List ℤ) (k j : ℕ) → first ≡ record { base = inner; lines = right } → next ≡ record { base = outer; lines = left } → inner ≡ replicate k (pos 0) → outer ≡ replicate j (pos 0)
    → MatricesStay right.width (rows_in left) (rows_in right) → CompositionStays first next
product_stays first next left right inner outer k j e f zeros more stays =
    composition_stays first next k j (ap (λ (m : AffineMap). m.base) e ∙ zeros) (ap (λ (m : AffineMap). m.base) f ∙ more)
    (subst (λ (t : Table ℤ). MatricesStay t.width (rows_in next.lines) (rows_in t)) (sym (ap (λ (m : AffineMap). m.lines) e)) (subst (λ (t : Table ℤ). MatricesStay right.width (rows_in t) (rows_in right)) (sym (ap (λ (m : AffineMap). m.lines) f)) stays))

-- ---- a point that moves by a multiple of a column

-- its item
moved_at : (factor : ℤ) (source base : List ℤ) (i : ℕ) → length base ≡ length source → get_or (with_multiple factor source base) i (pos 0) ≡ get_or base i (pos 0) +ℤ factor *ℤ get_or source i (pos 0)
moved_at factor source base i e = Matrix.add-at integers base (scale integers factor source) i (e ∙ sym (Matrix.length-scale integers factor source)) ∙ ap (λ z. get_or base i (pos 0) +ℤ z) (Matrix.scale-at integers factor source i)

-- how many items it has
moved_length : (factor : ℤ) (source base : List ℤ) → length base ≡ length source → length (with_multiple factor source base) ≡ length base
moved_length factor source base e = Matrix.length-add integers (length base) base (scale integers factor source) refl (Matrix.length-scale integers factor source ∙ sym e)

-- one more item
pub moved_more : (factor : ℤ) (source base items new : List ℤ) (i : ℕ) (item : ℤ) → length base ≡ length source → i < length base → new ≡ items ++ item ∷ [] → item ≡ get_or base i (pos 0) +ℤ factor *ℤ get_or source i (pos 0)
    → items ≡ take i (with_multiple factor source base) → new ≡ take (i + 1) (with_multiple factor source base)
moved_more factor source base items new i item e lt pushed is done =
    let inside : i < length (with_multiple factor source base) = omega (arith, moved_length factor source base e) in
    pushed ∙ ap₂ (λ (l : List ℤ) (x : ℤ). l ++ x ∷ []) done (is ∙ sym (moved_at factor source base i e)) ∙ sym (take_more (with_multiple factor source base) i (pos 0) inside)

-- all items
pub moved_all : (factor : ℤ) (source base items : List ℤ) (i : ℕ) → length base ≡ length source → length base ≤ i → items ≡ take i (with_multiple factor source base) → items ≡ with_multiple factor source base
moved_all factor source base items i e past done = done ∙ take_all i (with_multiple factor source base) (omega (arith, moved_length factor source base e))
