-- A form that is primitive in the coordinates of one frame of equalities is primitive in those of each of their frames.
use Rattle.std.proofs.Common.{◌≡◌, ℕ, ◌<◌, ℤ, pos, nat_abs, int_div, ◌+ℤ◌, ◌-ℤ◌, ◌*ℤ◌, List, [], ◌∷◌, length, get_or, refl, sym, ap, ap₂, subst, ◌∙◌, arith, All}
use Rattle.std.specs.Int.{◌∣◌}
use Rattle.std.proofs.Math.Nat.{dvd-mul_right}
use Rattle.std.proofs.lemmas.List.Elements.{All-from_get_or, All-head, All-nil, All-tail}
use Rattle.exact_math.specs.IntegerOrder.{abs_mul}
use Rattle.exact_math.specs.IntegerRing.{expand, linear}
use Rattle.exact_math.specs.Ring.{integers}
use Rattle.exact_vectors.specs.Vectors.{dot, scale, zeros}
use Rattle.exact_vectors.specs.Matrices.{combination}
use Rattle.exact_vectors.specs.DotLaws as Dot
use Rattle.exact_vectors.specs.MatrixLaws as Matrix
use Rattle.farkas_rows.specs.Inequalities.{unit}
use Rattle.farkas_rows.specs.NodeLaws.{dot-unit, length-unit}
use Rattle.form_widths.specs.Widths.{IsPrimitive}
use Rattle.thin_forms.proofs.PartSteps.{divisor_divides, quotient_exact}
use Rattle.unimodular_pair.specs.Gathering.{common_divisor}
use Rattle.reformulate.proofs.ChartLaws.{IsChart}
use Rattle.reformulate.specs.Charts.{Chart, coordinates_at, point_at}
use Rattle.reformulate.specs.declared.equality.Equality.{Equality}
use Rattle.node_slices.proofs.FrameCharts.{value_at}

-- a primitive form has the greatest common divisor 1
pub lowest : (form : List ℤ) → IsPrimitive form → common_divisor form ≡ 1
lowest form primitive = primitive (common_divisor form) (divisor_divides form)

-- and a factor
pub some_factor : (form : List ℤ) → IsPrimitive form → 0 < length form
some_factor [] primitive = let one : 2 ≡ 1 = primitive 2 (All-nil (λ (factor : ℤ). 2 ∣ nat_abs factor)) in omega (arith, one)
some_factor (a ∷ form) primitive = omega arith

-- factors with a common divisor are its multiples
multiples : (k : ℕ) (form : List ℤ) → All (λ factor. k ∣ nat_abs factor) form → (quotients : List ℤ) × (form ≡ scale integers (pos k) quotients)
multiples k [] h = ([], refl)
multiples k (a ∷ form) h =
    let rest = multiples k form (All-tail (λ (factor : ℤ). k ∣ nat_abs factor) a form h) in
    (int_div a (pos k) ∷ rest.0, ap₂ (λ (z : ℤ) (l : List ℤ). z ∷ l) (sym (quotient_exact a k (All-head (λ (factor : ℤ). k ∣ nat_abs factor) a form h))) rest.1)

module _ (n r q : ℕ) (equalities : List Equality) (c d : Chart) (here : IsChart n r equalities c) (there : IsChart n q equalities d) (w : List ℤ) where
  -- the form on the coordinates of either
  abbrev form : List ℤ
  form = combination integers r w c.pair.v

  abbrev other : List ℤ
  other = combination integers q w d.pair.v

  -- the coordinates of the same point
  abbrev moved : List ℤ → List ℤ
  moved y = coordinates_at c (point_at d y)

  value_moved : (y : List ℤ) → length y ≡ q → dot integers w c.base +ℤ dot integers form (moved y) ≡ dot integers w d.base +ℤ dot integers other y
  value_moved y long = sym (value_at n r equalities c here w (coordinates_at c (point_at d y))) ∙ ap (dot integers w) (here.onto (point_at d y) (there.into y long)) ∙ value_at n q equalities d there w y

  -- The difference of two values of the form is that of two values of the other form.
  difference : (y : List ℤ) → length y ≡ q → dot integers other y ≡ dot integers form (moved y) -ℤ dot integers form (moved (zeros integers q))
  difference y long =
      from_both (dot integers w c.base) (dot integers w d.base) (dot integers other y) (dot integers form (moved y)) (dot integers other (zeros integers q)) (dot integers form (moved (zeros integers q)))
      (value_moved y long) (value_moved (zeros integers q) (Matrix.length-zeros integers q)) (Dot.dot-zeros_right integers q other)
    where
      from_both : (b e oy fy oz fz : ℤ) → b +ℤ fy ≡ e +ℤ oy → b +ℤ fz ≡ e +ℤ oz → oz ≡ pos 0 → oy ≡ fy -ℤ fz
      from_both b e oy fy oz fz h k z = omega (linear, h, k, z)

  factor_is : (j : ℕ) → j < length other → get_or other j (pos 0) ≡ dot integers form (moved (unit q j)) -ℤ dot integers form (moved (zeros integers q))
  factor_is j lt =
      let below : j < q = omega (arith, lt, many) in
      sym (Dot.dot_comm integers other (unit q j) ∙ dot-unit q j other many below) ∙ difference (unit q j) (length-unit q j)
    where
      many : length other ≡ q
      many = Matrix.length-combination integers q w d.pair.v there.pair.width_v

  pub primitive_here : IsPrimitive (combination integers q w d.pair.v) → IsPrimitive (combination integers r w c.pair.v)
  primitive_here primitive k divides =
      let m = multiples k form divides in
      primitive k (All-from_get_or (λ (factor : ℤ). k ∣ nat_abs factor) other (pos 0) (λ j lt. divided k m.0 m.1 j lt))
    where
      divided : (k : ℕ) (quotients : List ℤ) → form ≡ scale integers (pos k) quotients → (j : ℕ) → j < length other → k ∣ nat_abs (get_or other j (pos 0))
      divided k quotients is j lt =
          let at : (y : List ℤ) → dot integers form y ≡ pos k *ℤ dot integers quotients y = λ y. ap (λ (f : List ℤ). dot integers f y) is ∙ Dot.dot-scale_left integers (pos k) quotients y in
          let u : ℤ = dot integers quotients (moved (unit q j)) in
          let v : ℤ = dot integers quotients (moved (zeros integers q)) in
          let product : get_or other j (pos 0) ≡ pos k *ℤ (u -ℤ v) = factor_is j lt ∙ ap₂ (λ a b. a -ℤ b) (at (moved (unit q j))) (at (moved (zeros integers q))) ∙ common (pos k) u v in
          subst (λ z. k ∣ nat_abs z) (sym product) (subst (λ (m : ℕ). k ∣ m) (sym (abs_mul (pos k) (u -ℤ v))) (dvd-mul_right k (nat_abs (u -ℤ v))))
        where
          common : (a u v : ℤ) → (a *ℤ u) -ℤ (a *ℤ v) ≡ a *ℤ (u -ℤ v)
          common a u v = simp expand (omega linear)
