-- Rational values of the kept columns and of all columns.
use Rattle.std.proofs.Common.{◌≡◌, ℕ, Bool, true, false, List, [], ◌∷◌, length, ℤ, pos, neg_ℤ, ◌+ℤ◌, ◌*ℤ◌, ◌≤ℤ◌, map, refl, ap, ap₂, sym, subst, subst₂, ◌∙◌, arith}
use Rattle.std.specs.Prelude.{int_lt}
use Rattle.std.specs.List.{AllZip}
use Rattle.std.proofs.lemmas.Bool.{cond_both}
use Rattle.exact_math.specs.IntegerRing.{linear}
use Rattle.exact_math.specs.Ring.{integers}
use Rattle.exact_math.specs.RingSolver.{ring, reads}
use Rattle.exact_math.specs.Rational.{ℚ, whole, ◌+ℚ◌, neg_ℚ, ◌-ℚ◌, ◌*ℚ◌, ◌≤ℚ◌}
use Rattle.exact_math.specs.RationalOrder.{add_le, le_antisym, le_refl, mul_le, whole_le}
use Rattle.exact_math.specs.RationalRing.{rationals, whole_add, whole_mul}
use Rattle.exact_vectors.specs.Vectors.{dot}
use Rattle.exact_vectors.specs.DotLaws as Dot
use Rattle.whole_rows.specs.declared.bounds.Bounds.{Bounds}
use Rattle.whole_rows.specs.declared.ends.End.TheVariants.{Least, Greatest}
use Rattle.whole_rows.specs.Ends.{value_at, sum_at}
use Rattle.node_point.specs.RationalPoints.{form_value}
use Rattle.whole_vectors.specs.WholeVectorLaws.{whole_neg}
use Rattle.form_widths.specs.NodePointLaws.{IsIn}
use Rattle.form_widths.specs.RationalOrderLaws.{le_by}
use Rattle.presolve_map.specs.Selections.{select}
use Rattle.presolve_map.proofs.PointLaws.{FlagsOf}

-- the values w in the places of the columns that are kept, and the others' values
abbrev pub spread : List Bool → List ℤ → List ℚ → List ℚ
spread [] base w = []
spread (flag ∷ flags) [] w = []
spread (true ∷ flags) (v ∷ base) [] = whole v ∷ spread flags base []
spread (true ∷ flags) (v ∷ base) (q ∷ w) = q ∷ spread flags base w
spread (false ∷ flags) (v ∷ base) w = whole v ∷ spread flags base w

-- ---- the box

-- the only value of a column
at_value : (low v high : ℤ) (q : ℚ) → v ≡ low → low ≡ high → whole low ≤ℚ q → q ≤ℚ whole high → whole v ≡ q
at_value low v high q e f above below = ap whole e ∙ le_antisym (whole low) q above (subst (λ (z : ℤ). q ≤ℚ whole z) (sym f) below)

pub lies-spread : (flags : List Bool) (base : List ℤ) (box : List Bounds) (w : List ℚ) → FlagsOf flags base box → AllZip IsIn (select flags box) w → AllZip IsIn box (spread flags base w)
lies-spread [] base box w f h = subst (λ (b : List Bounds). AllZip IsIn b []) (sym f.1) tt
lies-spread (flag ∷ flags) [] box w f h = absurd f
lies-spread (flag ∷ flags) (v ∷ base) [] w f h = absurd f
lies-spread (true ∷ flags) (v ∷ base) (b ∷ box) [] f h = absurd h
lies-spread (true ∷ flags) (v ∷ base) (b ∷ box) (q ∷ w) f h = (h.0, lies-spread flags base box w f.1 h.1)
lies-spread (false ∷ flags) (v ∷ base) (b ∷ box) w f h = ((whole_le b.low v (omega (linear, f.0)), whole_le v b.high (omega (linear, f.0, f.1))), lies-spread flags base box w f.2 h)

pub select-spread : (flags : List Bool) (base : List ℤ) (box : List Bounds) (w : List ℚ) → FlagsOf flags base box → AllZip IsIn (select flags box) w → select flags (spread flags base w) ≡ w
select-spread [] base box [] f h = refl
select-spread [] base box (q ∷ w) f h = absurd h
select-spread (flag ∷ flags) [] box w f h = absurd f
select-spread (flag ∷ flags) (v ∷ base) [] w f h = absurd f
select-spread (true ∷ flags) (v ∷ base) (b ∷ box) [] f h = absurd h
select-spread (true ∷ flags) (v ∷ base) (b ∷ box) (q ∷ w) f h = ap {B = List ℚ} (λ t. q ∷ t) (select-spread flags base box w f.1 h.1)
select-spread (false ∷ flags) (v ∷ base) (b ∷ box) w f h = select-spread flags base box w f.2 h

pub lies-select : (flags : List Bool) (base : List ℤ) (box : List Bounds) (x : List ℚ) → FlagsOf flags base box → AllZip IsIn box x → AllZip IsIn (select flags box) (select flags x)
lies-select [] base box x f h = tt
lies-select (flag ∷ flags) [] box x f h = absurd f
lies-select (flag ∷ flags) (v ∷ base) [] x f h = absurd f
lies-select (flag ∷ flags) (v ∷ base) (b ∷ box) [] f h = absurd h
lies-select (true ∷ flags) (v ∷ base) (b ∷ box) (q ∷ x) f h = (h.0, lies-select flags base box x f.1 h.1)
lies-select (false ∷ flags) (v ∷ base) (b ∷ box) (q ∷ x) f h = lies-select flags base box x f.2 h.1

-- ---- sums

-- A form is its part in the kept columns and what the others contribute.
pub form_value-kept : (flags : List Bool) (base : List ℤ) (box : List Bounds) (factors : List ℤ) (x : List ℚ) → FlagsOf flags base box → length factors ≡ length box → AllZip IsIn box x → form_value factors x ≡ form_value (select flags factors) (select flags x) +ℚ whole (dot integers factors base)
form_value-kept [] base [] [] [] f e h = none
  where
    none : whole (pos 0) ≡ whole (pos 0) +ℚ whole (pos 0)
    none = whole_add (pos 0) (pos 0)
form_value-kept [] base [] (a ∷ factors) x f e h = absurd (omega arith)
form_value-kept [] base [] [] (q ∷ x) f e h = absurd h
form_value-kept [] base (b ∷ box) factors x f e h = absurd (none (sym f.1))
  where
    none : [] ≡ b ∷ box → ⊥
    none e = cc
form_value-kept (flag ∷ flags) [] box factors x f e h = absurd f
form_value-kept (flag ∷ flags) (v ∷ base) [] factors x f e h = absurd f
form_value-kept (flag ∷ flags) (v ∷ base) (b ∷ box) [] x f e h = absurd (omega arith)
form_value-kept (flag ∷ flags) (v ∷ base) (b ∷ box) (a ∷ factors) [] f e h = absurd h
form_value-kept (true ∷ flags) (v ∷ base) (b ∷ box) (a ∷ factors) (q ∷ x) f e h =
    let nothing : a *ℤ v ≡ pos 0 = ap (λ z. a *ℤ z) f.0 ∙ omega linear in
    let same : dot integers factors base ≡ a *ℤ v +ℤ dot integers factors base = omega (linear, nothing) in
    ap (λ t. whole a *ℚ q +ℚ t) (form_value-kept flags base box factors x f.1 (omega arith) h.1)
    ∙ regrouped (whole a *ℚ q) (form_value (select flags factors) (select flags x)) (whole (dot integers factors base))
    ∙ ap (λ (z : ℤ). (whole a *ℚ q +ℚ form_value (select flags factors) (select flags x)) +ℚ whole z) same
  where
    regrouped : (p s d : ℚ) → p +ℚ (s +ℚ d) ≡ (p +ℚ s) +ℚ d
    regrouped p s d = ring rationals (p ∷ s ∷ d ∷ []) (search reads depth 30) (search reads depth 30) refl
form_value-kept (false ∷ flags) (v ∷ base) (b ∷ box) (a ∷ factors) (q ∷ x) f e h =
    ap₂ (λ (s t : ℚ). whole a *ℚ s +ℚ t) (sym (at_value b.low v b.high q f.0 f.1 h.0.0 h.0.1)) (form_value-kept flags base box factors x f.2 (omega arith) h.1)
    ∙ ap (λ t. t +ℚ (form_value (select flags factors) (select flags x) +ℚ whole (dot integers factors base))) (sym (whole_mul a v))
    ∙ regrouped (whole (a *ℤ v)) (form_value (select flags factors) (select flags x)) (whole (dot integers factors base))
    ∙ ap (λ t. form_value (select flags factors) (select flags x) +ℚ t) (sym (whole_add (a *ℤ v) (dot integers factors base)))
  where
    regrouped : (p s d : ℚ) → p +ℚ (s +ℚ d) ≡ s +ℚ (p +ℚ d)
    regrouped p s d = ring rationals (p ∷ s ∷ d ∷ []) (search reads depth 30) (search reads depth 30) refl

-- ---- the least and the greatest sum over a box

-- a product with a factor that is not negative
rises : (a : ℤ) (p q : ℚ) → pos 0 ≤ℤ a → p ≤ℚ q → (whole a *ℚ p) ≤ℚ (whole a *ℚ q)
rises a p q h le = mul_le (whole a) p q (whole_le (pos 0) a h) le

-- and with one that is not positive
falls : (a : ℤ) (p q : ℚ) → a ≤ℤ pos 0 → p ≤ℚ q → (whole a *ℚ q) ≤ℚ (whole a *ℚ p)
falls a p q h le =
    le_by _ _ _ _ (mul_le (whole (neg_ℤ a)) p q (whole_le (pos 0) (neg_ℤ a) (omega (linear, h))) le)
    (sym (ap (λ k. k *ℚ q -ℚ k *ℚ p) (whole_neg a) ∙ turned (whole a) p q))
  where
    turned : (k p q : ℚ) → neg_ℚ k *ℚ q -ℚ neg_ℚ k *ℚ p ≡ k *ℚ p -ℚ k *ℚ q
    turned k p q = ring rationals (k ∷ p ∷ q ∷ []) (search reads depth 30) (search reads depth 30) refl

least_product : (a : ℤ) (b : Bounds) (q : ℚ) → IsIn b q → (whole a *ℚ whole (value_at Least a b)) ≤ℚ (whole a *ℚ q)
least_product a b q h = cond_both (int_lt a (pos 0)) b.high b.low (λ v. (whole a *ℚ whole v) ≤ℚ (whole a *ℚ q)) (λ e. falls a q (whole b.high) (omega linear) h.1) (λ e. rises a (whole b.low) q (omega linear) h.0)

greatest_product : (a : ℤ) (b : Bounds) (q : ℚ) → IsIn b q → (whole a *ℚ q) ≤ℚ (whole a *ℚ whole (value_at Greatest a b))
greatest_product a b q h = cond_both (int_lt a (pos 0)) b.low b.high (λ v. (whole a *ℚ q) ≤ℚ (whole a *ℚ whole v)) (λ e. falls a (whole b.low) q (omega linear) h.0) (λ e. rises a q (whole b.high) (omega linear) h.1)

pub least_sum : (factors : List ℤ) (box : List Bounds) (x : List ℚ) → AllZip IsIn box x → whole (sum_at Least factors box) ≤ℚ form_value factors x
least_sum [] box x h = le_refl (whole (pos 0))
least_sum (a ∷ factors) [] [] h = le_refl (whole (pos 0))
least_sum (a ∷ factors) [] (q ∷ x) h = absurd h
least_sum (a ∷ factors) (b ∷ box) [] h = absurd h
least_sum (a ∷ factors) (b ∷ box) (q ∷ x) h =
    subst (λ t. t ≤ℚ form_value (a ∷ factors) (q ∷ x)) (ap (λ t. t +ℚ whole (sum_at Least factors box)) (sym (whole_mul a (value_at Least a b))) ∙ sym (whole_add (a *ℤ value_at Least a b) (sum_at Least factors box)))
    (add_le _ _ _ _ (least_product a b q h.0) (least_sum factors box x h.1))

pub greatest_sum : (factors : List ℤ) (box : List Bounds) (x : List ℚ) → AllZip IsIn box x → form_value factors x ≤ℚ whole (sum_at Greatest factors box)
greatest_sum [] box x h = le_refl (whole (pos 0))
greatest_sum (a ∷ factors) [] [] h = le_refl (whole (pos 0))
greatest_sum (a ∷ factors) [] (q ∷ x) h = absurd h
greatest_sum (a ∷ factors) (b ∷ box) [] h = absurd h
greatest_sum (a ∷ factors) (b ∷ box) (q ∷ x) h =
    subst (λ t. form_value (a ∷ factors) (q ∷ x) ≤ℚ t) (ap (λ t. t +ℚ whole (sum_at Greatest factors box)) (sym (whole_mul a (value_at Greatest a b))) ∙ sym (whole_add (a *ℤ value_at Greatest a b) (sum_at Greatest factors box)))
    (add_le _ _ _ _ (greatest_product a b q h.0) (greatest_sum factors box x h.1))
