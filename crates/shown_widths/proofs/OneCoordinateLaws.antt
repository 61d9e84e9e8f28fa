-- In one coordinate a primitive form is no wider than each other form.
use Rattle.std.proofs.Common.{◌≡◌, ◌≢◌, ⊎_elim, ℕ, zero, suc, ◌*◌, ℤ, pos, negsuc, nat_abs, ◌*ℤ◌, List, [], ◌∷◌, length, refl, sym, ap, ap₂, ◌∙◌, subst, arith}
use Rattle.std.specs.Int.{◌∣◌}
use Rattle.std.proofs.Math.Nat.{dvd-mul_right}
use Rattle.std.proofs.lemmas.List.Elements.{All-nil, All-cons}
use Rattle.exact_math.specs.IntegerRing.{linear}
use Rattle.exact_math.specs.Ring.{integers}
use Rattle.exact_math.specs.RingLaws as Laws
use Rattle.exact_math.specs.RingSolver.{ring, reads}
use Rattle.exact_math.specs.Rational.{ℚ, whole, neg_ℚ, ◌-ℚ◌, ◌*ℚ◌, ◌≤ℚ◌}
use Rattle.exact_math.specs.RationalOrder.{le_of_lt, le_or_lt, le_trans}
use Rattle.exact_math.specs.RationalRing.{rationals}
use Rattle.exact_vectors.specs.Vectors.{scale}
use Rattle.node_point.specs.RationalPoints.{form_value}
use Rattle.whole_vectors.specs.WholeVectorLaws.{whole_neg}
use Rattle.form_widths.specs.FormLaws.{form_value-scale}
use Rattle.form_widths.specs.RationalOrderLaws.{le-multiple}
use Rattle.form_widths.specs.Widths.{IsNoWiderThan, IsNonzero, IsPrimitive}

-- a bound on a multiple of a number and on minus that is one on the number
le_of_factor : (c : ℤ) (d bound : ℚ) → c ≢ pos 0 → whole (pos 0) ≤ℚ bound → (whole c *ℚ d) ≤ℚ bound → (whole c *ℚ neg_ℚ d) ≤ℚ bound → d ≤ℚ bound
le_of_factor c d bound some nonneg up down = ⊎_elim (λ h. forward c some up down h) (λ h. le_trans _ _ _ (le_of_lt d (whole (pos 0)) h) nonneg) (le_or_lt (whole (pos 0)) d)
  where
    turned : (n d : ℚ) → n *ℚ d ≡ d *ℚ n
    turned n d = ring rationals (n ∷ d ∷ []) (search reads depth 30) (search reads depth 30) refl

    both : (n d : ℚ) → neg_ℚ n *ℚ neg_ℚ d ≡ d *ℚ n
    both n d = ring rationals (n ∷ d ∷ []) (search reads depth 30) (search reads depth 30) refl

    forward : (c : ℤ) → c ≢ pos 0 → (whole c *ℚ d) ≤ℚ bound → (whole c *ℚ neg_ℚ d) ≤ℚ bound → whole (pos 0) ≤ℚ d → d ≤ℚ bound
    forward (pos zero) some up down h = absurd (some refl)
    forward (pos (suc n)) some up down h = le_trans _ _ _ (le-multiple d (suc n) h (omega arith)) (subst (λ t. t ≤ℚ bound) (turned (whole (pos (suc n))) d) up)
    forward (negsuc n) some up down h = le_trans _ _ _ (le-multiple d (suc n) h (omega arith)) (subst (λ t. t ≤ℚ bound) (ap (λ t. t *ℚ neg_ℚ d) (whole_neg (pos (suc n))) ∙ both (whole (pos (suc n))) d) down)

-- a number of size 1 undoes itself
undone : (k a : ℤ) → nat_abs a ≡ 1 → k ≡ (k *ℤ a) *ℤ a
undone k (pos n) e = subst (λ (m : ℕ). k ≡ (k *ℤ pos m) *ℤ pos m) (sym e) (omega linear)
undone k (negsuc n) e = subst (λ (m : ℕ). k ≡ (k *ℤ negsuc m) *ℤ negsuc m) (sym (less e)) (omega linear)
  where
    less : suc n ≡ 1 → n ≡ 0
    less e = omega arith

-- the one factor of a primitive form has size 1
unit_size : (a : ℤ) → IsPrimitive (a ∷ []) → nat_abs a ≡ 1
unit_size a primitive =
    primitive (nat_abs a) (All-cons (λ (factor : ℤ). nat_abs a ∣ nat_abs factor) a [] (subst (λ (n : ℕ). nat_abs a ∣ n) (once (nat_abs a)) (dvd-mul_right (nat_abs a) 1)) (All-nil (λ (factor : ℤ). nat_abs a ∣ nat_abs factor)))
  where
    once : (n : ℕ) → n * 1 ≡ n
    once n = omega arith

-- A primitive form in one coordinate is no wider than a multiple of it other than 0.
multiple_is_wider : (region : List ℚ → Type 0) (form : List ℤ) (c : ℤ) (y : List ℚ) → region y → c ≢ pos 0 → IsNoWiderThan 1 region form (scale integers c form)
multiple_is_wider region form c y there some bound within u v in_u in_v =
    subst (λ t. (form_value form u -ℚ form_value form v) ≤ℚ t) (sym (Laws.one_mul rationals bound)) (le_of_factor c (form_value form u -ℚ form_value form v) bound some nonneg (times u v in_u in_v) (subst (λ t. t ≤ℚ bound) (swapped (whole c) (form_value form u) (form_value form v)) (times v u in_v in_u)))
  where
    none : (t : ℚ) → t -ℚ t ≡ whole (pos 0)
    none t = ring rationals (t ∷ []) (search reads depth 30) (search reads depth 30) refl

    nonneg : whole (pos 0) ≤ℚ bound
    nonneg = subst (λ t. t ≤ℚ bound) (none (form_value (scale integers c form) y)) (within y y there there)

    spread : (c p q : ℚ) → c *ℚ p -ℚ c *ℚ q ≡ c *ℚ (p -ℚ q)
    spread c p q = ring rationals (c ∷ p ∷ q ∷ []) (search reads depth 30) (search reads depth 30) refl

    swapped : (c p q : ℚ) → c *ℚ (q -ℚ p) ≡ c *ℚ neg_ℚ (p -ℚ q)
    swapped c p q = ring rationals (c ∷ p ∷ q ∷ []) (search reads depth 30) (search reads depth 30) refl

    times : (u v : List ℚ) → region u → region v → (whole c *ℚ (form_value form u -ℚ form_value form v)) ≤ℚ bound
    times u v in_u in_v = subst (λ t. t ≤ℚ bound) (ap₂ ◌-ℚ◌ (form_value-scale c form u) (form_value-scale c form v) ∙ spread (whole c) (form_value form u) (form_value form v)) (within u v in_u in_v)

-- A primitive form in one coordinate is no wider than each whole form other than 0.
pub one_coordinate : (region : List ℚ → Type 0) (form other : List ℤ) (y : List ℚ) → region y → length form ≡ 1 → IsPrimitive form → length other ≡ 1 → IsNonzero other → IsNoWiderThan 1 region form other
one_coordinate region [] other y there long primitive long_other nonzero = absurd (omega (arith, long))
one_coordinate region (a ∷ b ∷ form) other y there long primitive long_other nonzero = absurd (omega (arith, long))
one_coordinate region (a ∷ []) [] y there long primitive long_other nonzero = absurd (omega (arith, long_other))
one_coordinate region (a ∷ []) (k ∷ l ∷ other) y there long primitive long_other nonzero = absurd (omega (arith, long_other))
one_coordinate region (a ∷ []) (k ∷ []) y there long primitive long_other nonzero =
    let back = undone k a (unit_size a primitive) in
    subst (λ (f : List ℤ). IsNoWiderThan 1 region (a ∷ []) f) (ap {B = List ℤ} (λ (z : ℤ). z ∷ []) (sym back))
    (multiple_is_wider region (a ∷ []) (k *ℤ a) y there (λ e. nonzero (All-cons (λ (factor : ℤ). factor ≡ pos 0) k [] (back ∙ ap (λ (z : ℤ). z *ℤ a) e ∙ omega linear) (All-nil (λ (factor : ℤ). factor ≡ pos 0)))))
