-- The system of the test has points, and they are bounded.
use Rattle.std.proofs.Common.{◌≡◌, ℕ, zero, suc, ◌+◌, ◌*◌, ◌^◌, ◌<◌, ◌≤◌, ℤ, pos, negsuc, nat_abs, ◌≤ℤ◌, List, [], ◌∷◌, length, refl, sym, ap, subst, ◌∙◌, arith, All}
use Rattle.std.proofs.lemmas.List.Elements.{All-nil, All-cons}
use Rattle.std.proofs.lemmas.Int.{ints}
use Rattle.exact_math.specs.Rational.{ℚ, whole, ◌+ℚ◌, ◌*ℚ◌, neg_ℚ, ◌≤ℚ◌}
use Rattle.exact_math.specs.RationalOrder as Order
use Rattle.exact_math.specs.RationalRing.{rationals, whole_add}
use Rattle.exact_math.specs.RingLaws as Laws
use Rattle.exact_math.specs.RingSolver.{ring, reads}
use Rattle.frac128.specs.Range.{IsNarrow}
use Rattle.spaces.specs.Tables.{Table}
use Rattle.lp_dict.specs.Dictionaries.{none}
use Rattle.lp_dict.specs.Systems.{left_sides, wholes, IsPoint}
use Rattle.norm_gauge.specs.Widths.{Has, HasBound, IsInhabited, polytope_of}
use Rattle.generalised_reduce.specs.DifferenceLaws.{le_as}
use Rattle.generalised_reduce.specs.Ready.{IsReady}
use Rattle.generalised_reduce.specs.ReducedLaws.{half, half_nonneg, two_halves}

-- the sum of the sizes
abbrev total : List ℤ → ℕ
total [] = 0
total (z ∷ zs) = nat_abs z + total zs

all_narrow : (zs : List ℤ) → total zs < 2 ^ 127 → All IsNarrow zs
all_narrow [] h = All-nil IsNarrow
all_narrow (z ∷ zs) h = All-cons IsNarrow z zs (omega (arith, h)) (all_narrow zs (omega (arith, h)))

-- ---- 301 <= 1001x - 1000y <= 699, and both from 0 to 300

abbrev pub strip : Table ℤ
strip = record { rows = 6; width = 2; items = pos 1001 ∷ negsuc 999 ∷ negsuc 1000 ∷ pos 1000 ∷ pos 1 ∷ pos 0 ∷ negsuc 0 ∷ pos 0 ∷ pos 0 ∷ pos 1 ∷ pos 0 ∷ negsuc 0 ∷ [] }

abbrev pub strip_limits : List ℤ
strip_limits = pos 699 ∷ negsuc 300 ∷ pos 300 ∷ pos 0 ∷ pos 300 ∷ pos 0 ∷ []

-- a coordinate between a lower and an upper bound
between : (a upper lower : ℚ) → upper ≡ a → lower ≡ neg_ℚ a → upper ≤ℚ whole (pos 300) → lower ≤ℚ whole (pos 0) → (neg_ℚ (whole (pos 300)) ≤ℚ a) × (a ≤ℚ whole (pos 300))
between a upper lower e f h k =
    let above : neg_ℚ (whole (pos 0)) ≤ℚ neg_ℚ lower = Order.neg_le lower (whole (pos 0)) k in
    let same : neg_ℚ lower ≡ a = rw f (ring rationals (a ∷ []) (search reads depth 30) (search reads depth 30) refl) in
    let far : neg_ℚ (whole (pos 300)) ≤ℚ neg_ℚ (whole (pos 0)) = Order.neg_le (whole (pos 0)) (whole (pos 300)) (Order.whole_le (pos 0) (pos 300) (omega (arith, ints))) in
    (Order.le_trans (neg_ℚ (whole (pos 300))) (neg_ℚ (whole (pos 0))) a far (subst (λ z. neg_ℚ (whole (pos 0)) ≤ℚ z) same above), subst (λ z. z ≤ℚ whole (pos 300)) e h)

first_upper : (a b : ℚ) → whole (pos 1) *ℚ a +ℚ (whole (pos 0) *ℚ b +ℚ none) ≡ a
first_upper a b = ring rationals (a ∷ b ∷ []) (search reads depth 30) (search reads depth 30) refl

first_lower : (a b : ℚ) → whole (negsuc 0) *ℚ a +ℚ (whole (pos 0) *ℚ b +ℚ none) ≡ neg_ℚ a
first_lower a b = ring rationals (a ∷ b ∷ []) (search reads depth 30) (search reads depth 30) refl

second_upper : (a b : ℚ) → whole (pos 0) *ℚ a +ℚ (whole (pos 1) *ℚ b +ℚ none) ≡ b
second_upper a b = ring rationals (a ∷ b ∷ []) (search reads depth 30) (search reads depth 30) refl

second_lower : (a b : ℚ) → whole (pos 0) *ℚ a +ℚ (whole (negsuc 0) *ℚ b +ℚ none) ≡ neg_ℚ b
second_lower a b = ring rationals (a ∷ b ∷ []) (search reads depth 30) (search reads depth 30) refl

abbrev IsNear : ℚ → Type 0
IsNear v = (neg_ℚ (whole (pos 300)) ≤ℚ v) × (v ≤ℚ whole (pos 300))

strip_near : (y : List ℚ) → IsPoint 2 (left_sides strip) (wholes strip_limits) y → All IsNear y
strip_near [] p = absurd (omega (arith, p.coordinates))
strip_near (a ∷ []) p = absurd (omega (arith, p.coordinates))
strip_near (a ∷ (b ∷ [])) p =
    All-cons IsNear a (b ∷ []) (between a _ _ (first_upper a b) (first_lower a b) p.met.1.1.0 p.met.1.1.1.0)
    (All-cons IsNear b [] (between b _ _ (second_upper a b) (second_lower a b) p.met.1.1.1.1.0 p.met.1.1.1.1.1.0) (All-nil IsNear))
strip_near (a ∷ (b ∷ (d ∷ y))) p = absurd (omega (arith, p.coordinates))

strip_bounded : HasBound (polytope_of strip strip_limits)
strip_bounded = record { bound = whole (pos 300); within = strip_near }

-- ---- one half and 0 are a point

-- 1001 times one half
upper_value : (h : ℚ) → whole (pos 1001) *ℚ h +ℚ (whole (negsuc 999) *ℚ whole (pos 0) +ℚ none) ≡ whole (pos 500) *ℚ (h +ℚ h) +ℚ h
upper_value h = ring rationals (h ∷ []) (search reads depth 30) (search reads depth 30) refl

lower_value : (h : ℚ) → whole (negsuc 1000) *ℚ h +ℚ (whole (pos 1000) *ℚ whole (pos 0) +ℚ none) ≡ neg_ℚ (whole (pos 500) *ℚ (h +ℚ h) +ℚ h)
lower_value h = ring rationals (h ∷ []) (search reads depth 30) (search reads depth 30) refl

nothing_upper : (h : ℚ) → whole (pos 0) *ℚ h +ℚ (whole (pos 1) *ℚ whole (pos 0) +ℚ none) ≡ whole (pos 0)
nothing_upper h = ring rationals (h ∷ []) (search reads depth 30) (search reads depth 30) refl

nothing_lower : (h : ℚ) → whole (pos 0) *ℚ h +ℚ (whole (negsuc 0) *ℚ whole (pos 0) +ℚ none) ≡ whole (pos 0)
nothing_lower h = ring rationals (h ∷ []) (search reads depth 30) (search reads depth 30) refl

five_hundred : (h : ℚ) → h +ℚ h ≡ whole (pos 1) → whole (pos 500) *ℚ (h +ℚ h) +ℚ h ≡ whole (pos 500) +ℚ h
five_hundred h e = ap (λ t. whole (pos 500) *ℚ t +ℚ h) e ∙ ap (λ t. t +ℚ h) (rationals.mul_one (whole (pos 500)))

one_more : whole (pos 500) +ℚ whole (pos 1) ≡ whole (pos 501)
one_more = sym (whole_add (pos 500) (pos 1))

le_whole : (m n : ℤ) → m ≤ℤ n → whole m ≤ℚ whole n
le_whole m n h = Order.whole_le m n h

module _ (h : ℚ) (e : h +ℚ h ≡ whole (pos 1)) (low : whole (pos 0) ≤ℚ h) where
  at_most_one : h ≤ℚ whole (pos 1)
  at_most_one = le_as (whole (pos 0) +ℚ h) (h +ℚ h) h (whole (pos 1)) (rationals.add_comm (whole (pos 0)) h ∙ rationals.add_zero h) e (Order.add_le_right (whole (pos 0)) h h low)

  above : (whole (pos 500) +ℚ h) ≤ℚ whole (pos 699)
  above = Order.le_trans (whole (pos 500) +ℚ h) (whole (pos 500) +ℚ whole (pos 1)) (whole (pos 699)) (Order.add_le (whole (pos 500)) (whole (pos 500)) h (whole (pos 1)) (Order.le_refl (whole (pos 500))) at_most_one)
      (subst (λ q. q ≤ℚ whole (pos 699)) (sym one_more) (le_whole (pos 501) (pos 699) (omega (arith, ints))))

  below : neg_ℚ (whole (pos 500) +ℚ h) ≤ℚ whole (negsuc 300)
  below =
      let more : whole (pos 301) ≤ℚ (whole (pos 500) +ℚ h) = Order.le_trans (whole (pos 301)) (whole (pos 500) +ℚ whole (pos 0)) (whole (pos 500) +ℚ h) (subst (λ q. whole (pos 301) ≤ℚ q) (sym (rationals.add_zero (whole (pos 500)))) (le_whole (pos 301) (pos 500) (omega (arith, ints)))) (Order.add_le (whole (pos 500)) (whole (pos 500)) (whole (pos 0)) h (Order.le_refl (whole (pos 500))) low) in
      subst (λ q. neg_ℚ (whole (pos 500) +ℚ h) ≤ℚ q) (sym (Laws.literal_neg rationals (pos 301))) (Order.neg_le (whole (pos 301)) (whole (pos 500) +ℚ h) more)

  at_half : Has (polytope_of strip strip_limits) (h ∷ (whole (pos 0) ∷ []))
  at_half = record {
    coordinates = refl;
    met = (
      subst (λ q. q ≤ℚ whole (pos 699)) (sym (upper_value h ∙ five_hundred h e)) above,
      (
        subst (λ q. q ≤ℚ whole (negsuc 300)) (sym (lower_value h ∙ ap neg_ℚ (five_hundred h e))) below,
        (
          subst (λ q. q ≤ℚ whole (pos 300)) (sym (first_upper h (whole (pos 0)))) (Order.le_trans h (whole (pos 1)) (whole (pos 300)) at_most_one (le_whole (pos 1) (pos 300) (omega (arith, ints)))),
          (
            subst (λ q. q ≤ℚ whole (pos 0)) (sym (first_lower h (whole (pos 0)))) (subst (λ q. neg_ℚ h ≤ℚ q) (Laws.neg_zero rationals) (Order.neg_le (whole (pos 0)) h low)),
            (
              subst (λ q. q ≤ℚ whole (pos 300)) (sym (nothing_upper h)) (le_whole (pos 0) (pos 300) (omega (arith, ints))),
              (subst (λ q. q ≤ℚ whole (pos 0)) (sym (nothing_lower h)) (Order.le_refl (whole (pos 0))), tt),
            ),
          ),
        ),
      ),
    );
  }

strip_ready : IsReady strip strip_limits
strip_ready = record {
  some = omega arith;
  few = omega arith;
  as_many_limits = refl;
  size = λ i lt. omega arith;
  narrow_rows = all_narrow strip.items (omega arith);
  narrow_limits = all_narrow strip_limits (omega arith);
  bounded = strip_bounded;
  inhabited = record { point = half ∷ (whole (pos 0) ∷ []); has = at_half half two_halves half_nonneg };
}

-- the same of a system that is equal to it
pub strip_ready_from : (t : Table ℤ) (limits : List ℤ) → t ≡ strip → limits ≡ strip_limits → IsReady t limits
strip_ready_from t limits e f = rw (e, f) strip_ready
