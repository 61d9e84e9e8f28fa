-- The whole numbers between two ends.
use Rattle.std.proofs.Common.{◌≡◌, [], ◌∷◌, ℤ, pos, ◌+ℤ◌, ◌≤ℤ◌, refl, sym, subst}
use Rattle.exact_math.specs.Rational.{ℚ, whole, floor, ceil, ◌+ℚ◌, ◌-ℚ◌, ◌≤ℚ◌}
use Rattle.exact_math.specs.RationalFloor.{ceil_le, floor_le, le_ceil, lt_floor_next}
use Rattle.exact_math.specs.RationalOrder.{add_le_right, le_from_whole, le_of_lt, le_trans}
use Rattle.exact_math.specs.RationalRing.{rationals, whole_add}
use Rattle.exact_math.specs.RingSolver.{ring, reads}
use Rattle.form_widths.specs.RationalOrderLaws.{le_by}

-- the first one is at most one more than the last one
pub first_by_last : (l h : ℚ) → l ≤ℚ h → ceil l ≤ℤ (floor h +ℤ pos 1)
first_by_last l h le = ceil_le (floor h +ℤ pos 1) l (le_trans l h (whole (floor h +ℤ pos 1)) le (le_of_lt h (whole (floor h +ℤ pos 1)) (lt_floor_next h)))

-- they are no further apart than the ends
pub last_by_first : (l h : ℚ) (w : ℤ) → (h -ℚ l) ≤ℚ whole w → floor h ≤ℤ (ceil l +ℤ w)
last_by_first l h w near =
    le_from_whole (floor h) (ceil l +ℤ w)
    (le_trans (whole (floor h)) h (whole (ceil l +ℤ w)) (floor_le h)
    (le_trans h (l +ℚ whole w) (whole (ceil l +ℤ w)) (le_by h (l +ℚ whole w) (h -ℚ l) (whole w) near (apart l h (whole w)))
    (subst (λ (t : ℚ). (l +ℚ whole w) ≤ℚ t) (sym (whole_add (ceil l) w)) (add_le_right l (whole (ceil l)) (whole w) (le_ceil l)))))
  where
    apart : (l h w : ℚ) → (l +ℚ w) -ℚ h ≡ w -ℚ (h -ℚ l)
    apart l h w = ring rationals (l ∷ h ∷ w ∷ []) (search reads depth 30) (search reads depth 30) refl

-- a bound below the end, and one above it
pub first_above : (l : ℚ) (c z : ℤ) → whole z ≤ℚ (l +ℚ whole c) → z ≤ℤ (ceil l +ℤ c)
first_above l c z h =
    le_from_whole z (ceil l +ℤ c)
    (le_trans (whole z) (l +ℚ whole c) (whole (ceil l +ℤ c)) h (subst (λ (t : ℚ). (l +ℚ whole c) ≤ℚ t) (sym (whole_add (ceil l) c)) (add_le_right l (whole (ceil l)) (whole c) (le_ceil l))))

pub last_below : (h : ℚ) (c z : ℤ) → (h +ℚ whole c) ≤ℚ whole z → (floor h +ℤ c) ≤ℤ z
last_below h c z le =
    le_from_whole (floor h +ℤ c) z
    (le_trans (whole (floor h +ℤ c)) (h +ℚ whole c) (whole z) (subst (λ (t : ℚ). t ≤ℚ (h +ℚ whole c)) (sym (whole_add (floor h) c)) (add_le_right (whole (floor h)) h (whole c) (floor_le h))) le)
