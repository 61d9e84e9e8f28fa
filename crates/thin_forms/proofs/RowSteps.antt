-- The first row of a unimodular matrix is primitive; rows of tables.
use Rattle.std.proofs.Common.{◌≡◌, ℕ, zero, suc, ◌*◌, ◌<◌, ℤ, pos, nat_abs, int_div, ◌*ℤ◌, List, [], ◌∷◌, length, get_or, drop, refl, sym, ap, ap₂, subst, ◌∙◌, arith}
use Rattle.std.specs.Int.{◌∣◌}
use Rattle.std.specs.Prelude.{All}
use Rattle.std.proofs.Math.Nat.{dvd-mul_right, eq-one_of_dvd-one}
use Rattle.std.proofs.lemmas.List.Elements.{All-drop, All-head, All-tail, All-take}
use Rattle.exact_math.specs.IntegerOrder.{abs_mul}
use Rattle.exact_math.specs.Ring.{integers}
use Rattle.exact_vectors.specs.DotLaws as Dot
use Rattle.exact_vectors.specs.FlatMatrixLaws.{length-rows_of}
use Rattle.exact_vectors.specs.Matrices.{column}
use Rattle.exact_vectors.specs.Vectors.{dot, scale}
use Rattle.form_widths.specs.Widths.{IsPrimitive}
use Rattle.frac128.specs.Range.{IsNarrow}
use Rattle.norm_gauge.specs.Widths.{AreNarrow}
use Rattle.spaces.specs.Tables.{Table, row_at, rows_in}
use Rattle.spaces.specs.TableLaws as Table
use Rattle.unimodular_pair.specs.PairLaws.{identity-same, items_of}
use Rattle.unimodular_pair.specs.Pairs.{AreInverse, Matrices}
use Rattle.thin_forms.proofs.PartSteps.{quotient_exact}

-- factors with a common divisor are its multiples
multiples : (d : ℕ) (v : List ℤ) → All (λ factor. d ∣ nat_abs factor) v → (q : List ℤ) × (v ≡ scale integers (pos d) q)
multiples d [] h = ([], refl)
multiples d (a ∷ v) h =
    let rest = multiples d v (All-tail (λ (factor : ℤ). d ∣ nat_abs factor) a v h) in
    (int_div a (pos d) ∷ rest.0, ap₂ (λ (z : ℤ) (l : List ℤ). z ∷ l) (sym (quotient_exact a d (All-head (λ (factor : ℤ). d ∣ nat_abs factor) a v h))) rest.1)

-- A row has product 1 with a column of the inverse, so that its factors have no common divisor.
pub first_row_primitive : (n : ℕ) (m : Matrices) → 0 < n → AreInverse n m → IsPrimitive (get_or m.u 0 [])
first_row_primitive n m some inverse d divides =
    let row = get_or m.u 0 [] in
    let q = multiples d row divides in
    let first = column integers m.v 0 in
    let product : pos d *ℤ dot integers q.0 first ≡ pos 1 =
    sym (Dot.dot-scale_left integers (pos d) q.0 first) ∙ ap (λ v. dot integers v first) (sym q.1) ∙ items_of n m 0 0 inverse some ∙ identity-same n 0 some in
    let sizes : d * nat_abs (dot integers q.0 first) ≡ 1 = sym (abs_mul (pos d) (dot integers q.0 first)) ∙ ap nat_abs product in
    eq-one_of_dvd-one (subst (λ k. d ∣ k) sizes (dvd-mul_right d (nat_abs (dot integers q.0 first))))

-- ---- the lines

pub line_is : (t : Table ℤ) (j : ℕ) → j < t.rows → get_or (rows_in t) j [] ≡ row_at t j
line_is t j h = Table.rows_in-at t j h

pub line_narrow : (t : Table ℤ) (j : ℕ) → All IsNarrow t.items → All IsNarrow (row_at t j)
line_narrow t j h = All-take IsNarrow t.width (drop (j * t.width) t.items) (All-drop IsNarrow (j * t.width) t.items h)

pub count_is : (t : Table ℤ) → length (rows_in t) ≡ t.rows
count_is t = length-rows_of t.width t.rows t.items

pub lines_narrow : (t : Table ℤ) → All IsNarrow t.items → AreNarrow (rows_in t)
lines_narrow t h = go t.width t.rows t.items h
  where
    go : (n m : ℕ) (flat : List ℤ) → All IsNarrow flat → AreNarrow (rows_in (record { rows = m; width = n; items = flat }))
    go n zero flat h k d lt = absurd (omega arith)
    go n (suc m) flat h zero d lt = All-take IsNarrow n flat h
    go n (suc m) flat h (suc k) d lt = go n m (drop n flat) (All-drop IsNarrow n flat h) k d (omega arith)
