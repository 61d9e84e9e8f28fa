-- Forms on the kept columns at the image of values.
use Rattle.std.proofs.Common.{◌≡◌, ◌≢◌, ◌⊎◌, inl, inr, ℕ, zero, suc, ◌+◌, ◌<◌, ◌≤◌, Bool, true, false, List, [], ◌∷◌, length, drop, get_or, ℤ, pos, ◌+ℤ◌, ◌*ℤ◌, refl, ap, ap₂, sym, subst, ◌∙◌, add-one, drop-cons, arith}
use Rattle.std.proofs.lemmas.List.{get_or-set_other, get_or-set_same, get_or-replicate, length-replicate, drop_all}
use Rattle.std.proofs.lemmas.Bool.{cases_eq}
use Rattle.exact_math.specs.Ring.{integers}
use Rattle.exact_math.specs.IntegerRing.{linear}
use Rattle.exact_vectors.specs.Vectors.{dot, zeros}
use Rattle.exact_vectors.specs.Matrices.{times_vector}
use Rattle.exact_vectors.specs.DotLaws as Dot
use Rattle.whole_rows.specs.declared.bounds.Bounds.{Bounds}
use Rattle.farkas_rows.specs.NodeLaws.{dot-unit}
use Rattle.spaces.specs.Maps.{AffineMap, image}
use Rattle.spaces.specs.Tables.{Table, row_at, rows_in}
use Rattle.spaces.specs.TableLaws as Tables
use Rattle.presolve_map.specs.Selections.{positions}
use Rattle.presolve_map.specs.Columns.{open_flags, kept_columns, removed_values, column_lines, IsColumnMap}
use Rattle.presolve_map.specs.Lifted.{MovesColumns, IsColumnLine, lifted_form}
use Rattle.presolve_map.proofs.PointLaws.{FlagsOf, flags-of_box, spread, count-any, image-spread}

-- ---- a line

-- each line is that of a column
lines-each : (width place : ℕ) (flags : List Bool) (i : ℕ) → i < length flags → place + length (positions 0 flags) ≤ width → IsColumnLine width (get_or (column_lines width place flags) i [])
lines-each width place [] i h e = absurd (omega arith)
lines-each width place (true ∷ flags) zero h e = inr (place, omega arith, refl)
lines-each width place (false ∷ flags) zero h e = inl refl
lines-each width place (true ∷ flags) (suc i) h e = lines-each width (suc place) flags i (omega arith) (omega (arith, count-any flags 1 0))
lines-each width place (false ∷ flags) (suc i) h e = lines-each width place flags i (omega arith) (omega (arith, count-any flags 1 0))

length-lines : (width place : ℕ) (flags : List Bool) → length (column_lines width place flags) ≡ length flags
length-lines width place [] = refl
length-lines width place (true ∷ flags) = ap suc (length-lines width (suc place) flags)
length-lines width place (false ∷ flags) = ap suc (length-lines width place flags)

-- so it is in a map
pub row-is_column : (placing : AffineMap) (i : ℕ) → MovesColumns placing → i < placing.lines.rows → IsColumnLine placing.lines.width (row_at placing.lines i)
row-is_column placing i moves h =
    let is : IsColumnMap moves.0 placing = moves.1 in
    let w : ℕ = length (kept_columns moves.0) in
    let few : i < length (open_flags moves.0) = omega (arith, h, sym (Tables.length-rows_in placing.lines), ap length is.lines, length-lines w 0 (open_flags moves.0)) in
    let line : get_or (column_lines w 0 (open_flags moves.0)) i [] ≡ row_at placing.lines i = ap (λ (l : List (List ℤ)). get_or l i []) (sym is.lines) ∙ Tables.rows_in-at placing.lines i h in
    subst (λ (n : ℕ). IsColumnLine n (row_at placing.lines i)) (sym is.width) (subst (IsColumnLine w) line (lines-each w 0 (open_flags moves.0) i few (omega arith)))

-- the item at a place that is not 0
pub found-item : (n : ℕ) (line form : List ℤ) (k : ℕ) → IsColumnLine n line → length form ≡ n → k < n → get_or line k (pos 0) ≢ pos 0 → get_or form k (pos 0) ≡ dot integers line form
found-item n line form k (inl none) e h other = absurd (other (ap (λ (l : List ℤ). get_or l k (pos 0)) none ∙ get_or-replicate n k (pos 0) (pos 0) h))
found-item n line form k (inr some) e h other = by_place (cases_eq k some.0)
  where
    by_place : (k ≡ some.0) ⊎ (k ≢ some.0) → get_or form k (pos 0) ≡ dot integers line form
    by_place (inl same) = ap (λ (j : ℕ). get_or form j (pos 0)) same ∙ sym (dot-unit n some.0 form e some.1) ∙ ap (λ (l : List ℤ). dot integers l form) (sym some.2)
    by_place (inr apart) = absurd (other (ap (λ (l : List ℤ). get_or l k (pos 0)) some.2 ∙ get_or-set_other (zeros integers n) some.0 k (pos 1) (pos 0) apart ∙ get_or-replicate n k (pos 0) (pos 0) h))

-- no such place
pub none-item : (n : ℕ) (line form : List ℤ) → IsColumnLine n line → length form ≡ n → ((j : ℕ) → j < n → get_or line j (pos 0) ≡ pos 0) → pos 0 ≡ dot integers line form
none-item n line form (inl none) e zero_each = sym (ap (λ (l : List ℤ). dot integers l form) none ∙ Dot.dot-zeros_left integers n form)
none-item n line form (inr some) e zero_each =
    let one : get_or line some.0 (pos 0) ≡ pos 1 = ap (λ (l : List ℤ). get_or l some.0 (pos 0)) some.2 ∙ get_or-set_same (zeros integers n) some.0 (pos 1) (pos 0) (omega (arith, some.1, length-replicate n (pos 0))) in
    absurd (omega (linear, one, zero_each some.0 some.1))

-- ---- the value

moved-dot : (flags : List Bool) (base : List ℤ) (box : List Bounds) (place : ℕ) (form w : List ℤ) → FlagsOf flags base box → length form ≡ place + length (positions 0 flags) → length w ≡ length (positions 0 flags) → dot integers (times_vector integers (column_lines (length form) place flags) form) (spread flags base w) ≡ dot integers (drop place form) w
moved-dot [] base box place form [] f e g = sym (Dot.dot-nil_right integers (drop place form))
moved-dot [] base box place form (x ∷ w) f e g = absurd (omega arith)
moved-dot (flag ∷ flags) [] box place form w f e g = absurd f
moved-dot (flag ∷ flags) (v ∷ base) [] place form w f e g = absurd f
moved-dot (true ∷ flags) (v ∷ base) (b ∷ box) place form [] f e g = absurd (omega arith)
moved-dot (true ∷ flags) (v ∷ base) (b ∷ box) place form (x ∷ w) f e g =
    let here : place < length form = omega arith in
    rw (drop-cons form place (pos 0)) (ap₂ (λ (a : ℤ) (t : ℤ). a *ℤ x +ℤ t) (dot-unit (length form) place form refl here) (moved-dot flags base box (suc place) form w f.1 (omega (arith, count-any flags 1 0)) (omega (arith, count-any flags 1 0))))
moved-dot (false ∷ flags) (v ∷ base) (b ∷ box) place form w f e g =
    let none : dot integers (zeros integers (length form)) form *ℤ v ≡ pos 0 = ap (λ (z : ℤ). z *ℤ v) (Dot.dot-zeros_left integers (length form) form) ∙ omega linear in
    omega (linear, none, moved-dot flags base box place form w f.2 (omega (arith, count-any flags 1 0)) (omega (arith, count-any flags 1 0)))

-- The lifted form has at the image the value that the form has.
pub lifted-value : (placing : AffineMap) (form w : List ℤ) → MovesColumns placing → length form ≡ placing.lines.width → length w ≡ placing.lines.width → dot integers (lifted_form placing form) (image placing w) ≡ dot integers form w
lifted-value placing form w moves e g =
    let is : IsColumnMap moves.0 placing = moves.1 in
    let flags = open_flags moves.0 in
    let long : length form ≡ length (kept_columns moves.0) = e ∙ is.width in
    ap₂ (λ (l : List (List ℤ)) (x : List ℤ). dot integers (times_vector integers l form) x) (is.lines ∙ ap (λ (n : ℕ). column_lines n 0 (open_flags moves.0)) (sym long)) (image-spread moves.0 placing w is (g ∙ is.width))
    ∙ moved-dot (open_flags moves.0) (removed_values moves.0) moves.0 0 form w (flags-of_box moves.0) (omega arith) (g ∙ is.width)

-- ---- item by item

pub item-more : (table : Table ℤ) (form : List ℤ) (i : ℕ) → i < table.rows → times_vector integers (drop i (rows_in table)) form ≡ dot integers (row_at table i) form ∷ times_vector integers (drop (i + 1) (rows_in table)) form
item-more table form i h =
    let long : i < length (rows_in table) = omega (arith, Tables.length-rows_in table) in
    ap (λ (l : List (List ℤ)). times_vector integers l form) (drop-cons (rows_in table) i [] long)
    ∙ ap₂ {A = List ℤ} {B = ℕ} {C = List ℤ} (λ r n. dot integers r form ∷ times_vector integers (drop n (rows_in table)) form) (Tables.rows_in-at table i h) (sym (add-one i))

pub items-end : (table : Table ℤ) (form : List ℤ) (i : ℕ) → table.rows ≤ i → times_vector integers (drop i (rows_in table)) form ≡ []
items-end table form i h = ap (λ (l : List (List ℤ)). times_vector integers l form) (drop_all i (rows_in table) (omega (arith, Tables.length-rows_in table)))
