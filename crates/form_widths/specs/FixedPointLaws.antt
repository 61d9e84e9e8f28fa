-- Slacks in fixed point, and differences of points: comparisons of whole numbers.
use Rattle.std.proofs.Common.{◌≡◌, ℕ, ◌<◌, ℤ, pos, negsuc, ◌-ℤ◌, ◌*ℤ◌, ◌≤ℤ◌, ◌<ℤ◌, List, [], ◌∷◌, map, refl, sym, ap, ap₂, ◌∙◌, subst, subst₂}
use Rattle.std.specs.List.{AllZip}
use Rattle.exact_math.specs.IntegerRing.{linear}
use Rattle.exact_math.specs.Ring.{integers}
use Rattle.exact_math.specs.RingLaws as Laws
use Rattle.exact_math.specs.RingSolver.{ring, reads}
use Rattle.exact_math.specs.Rational.{ℚ, whole, inv_ℚ, ◌-ℚ◌, ◌*ℚ◌, ◌/ℚ◌, ◌≤ℚ◌}
use Rattle.exact_math.specs.RationalOrder.{add_le, le_refl, mul_le, mul_nonneg, whole_le}
use Rattle.exact_math.specs.RationalRing.{rationals, mul_add, mul_comm, mul_one, whole_add, whole_mul}
use Rattle.exact_vectors.specs.Vectors.{dot, scale, sum}
use Rattle.exact_vectors.specs.DotLaws as Dot
use Rattle.farkas_rows.specs.Inequalities.{Inequality}
use Rattle.node_point.specs.NodePoints.{Fractions}
use Rattle.node_point.specs.RationalPoints.{coordinates, form_value}
use Rattle.whole_vectors.specs.ClearedLaws.{inverse-mul}
use Rattle.whole_vectors.specs.WholeVectorLaws.{dot-map_whole}
use Rattle.form_widths.specs.Inequalities.{slack}
use Rattle.form_widths.specs.PulledLaws.{whole_sub}
use Rattle.form_widths.specs.RationalOrderLaws.{inverse-nonneg}

-- quotients by one number are multiples of its inverse
over-scale : (d : ℚ) (v : List ℤ) → map (λ n. whole n /ℚ d) v ≡ scale rationals (inv_ℚ d) (map whole v)
over-scale d [] = refl
over-scale d (n ∷ v) = ap₂ (λ (q : ℚ) (l : List ℚ). q ∷ l) (mul_comm (whole n) (inv_ℚ d)) (over-scale d v)

-- a form at numerators over a denominator
pub form_value-coordinates : (form v : List ℤ) (d : ℤ) → form_value form (coordinates (record { numerators = v; denominator = d })) ≡ inv_ℚ (whole d) *ℚ whole (dot integers form v)
form_value-coordinates form v d =
    ap (dot rationals (map whole form)) (over-scale (whole d) v) ∙ Dot.dot-scale_right rationals (inv_ℚ (whole d)) (map whole form) (map whole v) ∙ ap (λ t. inv_ℚ (whole d) *ℚ t) (dot-map_whole form v)

-- the slack times the denominator is a whole number
slack-coordinates : (inequality : Inequality) (v : List ℤ) (n : ℕ) → 0 < n → slack inequality (coordinates (record { numerators = v; denominator = pos n })) ≡ inv_ℚ (whole (pos n)) *ℚ whole ((inequality.limit *ℤ pos n) -ℤ dot integers inequality.factors v)
slack-coordinates inequality v n h =
    let i = inv_ℚ (whole (pos n)) in
    let l = whole inequality.limit in
    let t = whole (dot integers inequality.factors v) in
    ap (λ q. l -ℚ q) (form_value-coordinates inequality.factors v (pos n))
    ∙ ap (λ q. q -ℚ i *ℚ t) (sym (Laws.one_mul rationals l) ∙ ap (λ q. q *ℚ l) (sym (inverse-mul n h)))
    ∙ outside i (whole (pos n)) l t
    ∙ ap (λ q. i *ℚ q) (ap (λ q. q -ℚ t) (sym (whole_mul inequality.limit (pos n))) ∙ sym (whole_sub (inequality.limit *ℤ pos n) (dot integers inequality.factors v)))
  where
    outside : (i d l t : ℚ) → (i *ℚ d) *ℚ l -ℚ i *ℚ t ≡ i *ℚ (l *ℚ d -ℚ t)
    outside i d l t = ring rationals (i ∷ d ∷ l ∷ t ∷ []) (search reads depth 30) (search reads depth 30) refl

-- A whole number that is at most the slack in parts of 1/scale, by a comparison of whole numbers.
pub amount_within : (inequality : Inequality) (x : Fractions) (parts : ℕ) (amount : ℤ) → pos 0 <ℤ x.denominator → (amount *ℤ x.denominator) ≤ℤ (pos parts *ℤ ((inequality.limit *ℤ x.denominator) -ℤ dot integers inequality.factors x.numerators)) → whole amount ≤ℚ (whole (pos parts) *ℚ slack inequality (coordinates x))
amount_within inequality x parts amount positive h = go x.numerators x.denominator positive h
  where
    left : (i a d : ℚ) → (whole (pos 1) *ℚ i) *ℚ (a *ℚ d) ≡ a *ℚ (i *ℚ d)
    left i a d = ring rationals (i ∷ a ∷ d ∷ []) (search reads depth 30) (search reads depth 30) refl

    right : (i p r : ℚ) → (whole (pos 1) *ℚ i) *ℚ (p *ℚ r) ≡ p *ℚ (i *ℚ r)
    right i p r = ring rationals (i ∷ p ∷ r ∷ []) (search reads depth 30) (search reads depth 30) refl

    go : (v : List ℤ) (d : ℤ) → pos 0 <ℤ d → (amount *ℤ d) ≤ℤ (pos parts *ℤ ((inequality.limit *ℤ d) -ℤ dot integers inequality.factors v)) → whole amount ≤ℚ (whole (pos parts) *ℚ slack inequality (coordinates (record { numerators = v; denominator = d })))
    go v (negsuc n) positive h = absurd (omega linear)
    go v (pos n) positive h =
        let some : 0 < n = omega linear in
        let i = inv_ℚ (whole (pos n)) in
        let rest = (inequality.limit *ℤ pos n) -ℤ dot integers inequality.factors v in
        subst₂ ◌≤ℚ◌
        (ap (λ q. (whole (pos 1) *ℚ i) *ℚ q) (whole_mul amount (pos n)) ∙ left i (whole amount) (whole (pos n)) ∙ ap (λ q. whole amount *ℚ q) (inverse-mul n some) ∙ mul_one (whole amount))
        (ap (λ q. (whole (pos 1) *ℚ i) *ℚ q) (whole_mul (pos parts) rest) ∙ right i (whole (pos parts)) (whole rest) ∙ ap (λ q. whole (pos parts) *ℚ q) (sym (slack-coordinates inequality v n some)))
        (mul_le (whole (pos 1) /ℚ whole (pos n)) (whole (amount *ℤ pos n)) (whole (pos parts *ℤ rest)) (inverse-nonneg n some) (whole_le _ _ h))

-- Such numbers of the points add up to one of the sum of the slacks.
pub amounts_within : (parts : ℕ) (inequality : Inequality) (points : List (List ℚ)) (amounts : List ℤ) → AllZip (λ point amount. whole amount ≤ℚ (whole (pos parts) *ℚ slack inequality point)) points amounts → whole (sum integers amounts) ≤ℚ (whole (pos parts) *ℚ sum rationals (map (slack inequality) points))
amounts_within parts inequality [] [] h = subst (λ t. whole (pos 0) ≤ℚ t) (sym (Laws.mul_zero rationals (whole (pos parts)))) (le_refl (whole (pos 0)))
amounts_within parts inequality [] (a ∷ amounts) h = absurd h
amounts_within parts inequality (y ∷ points) [] h = absurd h
amounts_within parts inequality (y ∷ points) (a ∷ amounts) h =
    subst₂ ◌≤ℚ◌ (sym (whole_add a (sum integers amounts))) (sym (mul_add (whole (pos parts)) (slack inequality y) (sum rationals (map (slack inequality) points)))) (add_le _ _ _ _ h.0 (amounts_within parts inequality points amounts h.1))

-- Two points differ in a form by at least a whole number, by a comparison of whole numbers.
pub points_apart : (form : List ℤ) (y z : Fractions) (width : ℤ) → pos 0 <ℤ y.denominator → pos 0 <ℤ z.denominator → (width *ℤ (y.denominator *ℤ z.denominator)) ≤ℤ ((dot integers form y.numerators *ℤ z.denominator) -ℤ (dot integers form z.numerators *ℤ y.denominator)) → whole width ≤ℚ (form_value form (coordinates y) -ℚ form_value form (coordinates z))
points_apart form y z width some_y some_z h = go y.numerators z.numerators y.denominator z.denominator some_y some_z h
  where
    left : (i j w m n : ℚ) → ((whole (pos 1) *ℚ i) *ℚ (whole (pos 1) *ℚ j)) *ℚ (w *ℚ (m *ℚ n)) ≡ (w *ℚ (i *ℚ m)) *ℚ (j *ℚ n)
    left i j w m n = ring rationals (i ∷ j ∷ w ∷ m ∷ n ∷ []) (search reads depth 30) (search reads depth 30) refl

    right : (i j a b m n : ℚ) → ((whole (pos 1) *ℚ i) *ℚ (whole (pos 1) *ℚ j)) *ℚ (a *ℚ n -ℚ b *ℚ m) ≡ (i *ℚ a) *ℚ (j *ℚ n) -ℚ (j *ℚ b) *ℚ (i *ℚ m)
    right i j a b m n = ring rationals (i ∷ j ∷ a ∷ b ∷ m ∷ n ∷ []) (search reads depth 40 fits 20000) (search reads depth 40 fits 20000) refl

    go : (u v : List ℤ) (d e : ℤ) → pos 0 <ℤ d → pos 0 <ℤ e → (width *ℤ (d *ℤ e)) ≤ℤ ((dot integers form u *ℤ e) -ℤ (dot integers form v *ℤ d)) → whole width ≤ℚ (form_value form (coordinates (record { numerators = u; denominator = d })) -ℚ form_value form (coordinates (record { numerators = v; denominator = e })))
    go u v (negsuc m) e some_d some_e h = absurd (omega linear)
    go u v (pos m) (negsuc n) some_d some_e h = absurd (omega linear)
    go u v (pos m) (pos n) some_d some_e h =
        let some_m : 0 < m = omega linear in
        let some_n : 0 < n = omega linear in
        let i = inv_ℚ (whole (pos m)) in
        let j = inv_ℚ (whole (pos n)) in
        let a = dot integers form u in
        let b = dot integers form v in
        let whole_left = whole_mul width (pos m *ℤ pos n) ∙ ap (λ q. whole width *ℚ q) (whole_mul (pos m) (pos n)) in
        let whole_right = whole_sub (a *ℤ pos n) (b *ℤ pos m) ∙ ap₂ (λ (s t : ℚ). s -ℚ t) (whole_mul a (pos n)) (whole_mul b (pos m)) in
        subst₂ ◌≤ℚ◌
        (ap (λ q. ((whole (pos 1) *ℚ i) *ℚ (whole (pos 1) *ℚ j)) *ℚ q) whole_left ∙ left i j (whole width) (whole (pos m)) (whole (pos n)) ∙ ap₂ (λ (s t : ℚ). (whole width *ℚ s) *ℚ t) (inverse-mul m some_m) (inverse-mul n some_n) ∙ mul_one (whole width *ℚ whole (pos 1)) ∙ mul_one (whole width))
        (ap (λ q. ((whole (pos 1) *ℚ i) *ℚ (whole (pos 1) *ℚ j)) *ℚ q) whole_right ∙ right i j (whole a) (whole b) (whole (pos m)) (whole (pos n))
        ∙ ap₂ (λ (s t : ℚ). (i *ℚ whole a) *ℚ s -ℚ (j *ℚ whole b) *ℚ t) (inverse-mul n some_n) (inverse-mul m some_m)
        ∙ ap₂ (λ (s t : ℚ). s -ℚ t) (mul_one (i *ℚ whole a) ∙ sym (form_value-coordinates form u (pos m))) (mul_one (j *ℚ whole b) ∙ sym (form_value-coordinates form v (pos n))))
        (mul_le ((whole (pos 1) *ℚ i) *ℚ (whole (pos 1) *ℚ j)) _ _ (mul_nonneg _ _ (inverse-nonneg m some_m) (inverse-nonneg n some_n)) (whole_le _ _ h))
