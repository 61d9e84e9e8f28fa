-- Quotients rounded down, up and to the nearest whole number: what they are bounded by, and that no other number is.
use Rattle.std.proofs.Common.{◌≡◌, ℕ, ◌*◌, ◌<◌, ◌≤◌, nat_abs, ℤ, pos, negsuc, ◌+ℤ◌, ◌-ℤ◌, ◌*ℤ◌, neg_ℤ, ◌≤ℤ◌, ◌<ℤ◌, refl, arith, div-add-mod', mod-lt}
use Rattle.exact_math.specs.Quotient.{floor_div, ceil_div, round_div}
use Rattle.exact_math.specs.IntegerRing.{expand, linear, neg_mul}
use Rattle.exact_math.specs.IntegerOrder.{le_antisym, lt_of_mul_lt, abs_le}

-- the next multiple of the divisor
next_multiple : (n q d : ℤ) → n <ℤ (q *ℤ d +ℤ d) → n <ℤ ((q +ℤ pos 1) *ℤ d)
next_multiple n q d h = simp expand (omega linear)

-- the number is below the multiple after that of the floor
floor_next : (n : ℤ) (d : ℕ) → 0 < d → n <ℤ (floor_div n d *ℤ pos d +ℤ pos d)
floor_next (pos a) d some = omega (linear, div-add-mod' a d, mod-lt a some)
floor_next (negsuc a) d some = omega (linear, div-add-mod' a d, mod-lt a some)

-- floor * d <= n
pub floor_div_below : (n : ℤ) (d : ℕ) → 0 < d → (floor_div n d *ℤ pos d) ≤ℤ n
floor_div_below (pos a) d some = omega (linear, div-add-mod' a d, mod-lt a some)
floor_div_below (negsuc a) d some = omega (linear, div-add-mod' a d, mod-lt a some)

-- n < (floor + 1) * d
pub floor_div_above : (n : ℤ) (d : ℕ) → 0 < d → n <ℤ ((floor_div n d +ℤ pos 1) *ℤ pos d)
floor_div_above n d some = next_multiple n (floor_div n d) (pos d) (floor_next n d some)

between : (q r d n : ℤ) → pos 0 <ℤ d → (q *ℤ d) ≤ℤ n → n <ℤ ((r +ℤ pos 1) *ℤ d) → q ≤ℤ r
between q r d n some h k =
    let s : q <ℤ (r +ℤ pos 1) = lt_of_mul_lt d q (r +ℤ pos 1) some (simp expand (omega (linear, simp expand at k))) in
    omega linear

-- a whole number that is at most n/d is at most the floor
pub le_floor_div : (n q : ℤ) (d : ℕ) → 0 < d → (q *ℤ pos d) ≤ℤ n → q ≤ℤ floor_div n d
le_floor_div n q d some h = between q (floor_div n d) (pos d) n (omega linear) h (floor_div_above n d some)

-- the floor is the one number with its two bounds
pub floor_div_is : (n q : ℤ) (d : ℕ) → 0 < d → (q *ℤ pos d) ≤ℤ n → n <ℤ ((q +ℤ pos 1) *ℤ pos d) → floor_div n d ≡ q
floor_div_is n q d some h k =
    let up = le_floor_div n q d some h in
    let down = between (floor_div n d) q (pos d) n (omega linear) (floor_div_below n d some) k in
    le_antisym _ _ down up

-- n <= ceil * d
pub ceil_div_above : (n : ℤ) (d : ℕ) → 0 < d → n ≤ℤ (ceil_div n d *ℤ pos d)
ceil_div_above n d some = omega (linear, floor_div_below (neg_ℤ n) d some, neg_mul (floor_div (neg_ℤ n) d) (pos d))

-- a whole number that is at least n/d is at least the ceiling
pub ceil_div_le : (n q : ℤ) (d : ℕ) → 0 < d → n ≤ℤ (q *ℤ pos d) → ceil_div n d ≤ℤ q
ceil_div_le n q d some h =
    omega (linear, le_floor_div (neg_ℤ n) (neg_ℤ q) d some (omega (linear, neg_mul q (pos d))))

-- (ceil - 1) * d < n
pub ceil_div_below : (n : ℤ) (d : ℕ) → 0 < d → ((ceil_div n d -ℤ pos 1) *ℤ pos d) <ℤ n
ceil_div_below n d some = below n (floor_div (neg_ℤ n) d) (pos d) (floor_div_above (neg_ℤ n) d some)
  where
    below : (n q d : ℤ) → neg_ℤ n <ℤ ((q +ℤ pos 1) *ℤ d) → ((neg_ℤ q -ℤ pos 1) *ℤ d) <ℤ n
    below n q d h = simp expand (omega (linear, simp expand at h))

-- the floor of a whole number
pub floor_div-one : (n : ℤ) → floor_div n 1 ≡ n
floor_div-one n = floor_div_is n n 1 (omega arith) (omega linear) (omega linear)

-- twice the distance to the nearest whole number is at most the divisor
pub round_div_near : (n : ℤ) (d : ℕ) → 0 < d → (nat_abs (pos 2 *ℤ (n -ℤ round_div n d *ℤ pos d)) ≤ d)
round_div_near n d some = near n (round_div n d) (pos d) d refl (floor_div_below (pos 2 *ℤ n +ℤ pos d) (2 * d) (omega arith)) (floor_div_above (pos 2 *ℤ n +ℤ pos d) (2 * d) (omega arith))
  where
    near : (n q e : ℤ) (d : ℕ) → e ≡ pos d → (q *ℤ (pos 2 *ℤ e)) ≤ℤ (pos 2 *ℤ n +ℤ e) → (pos 2 *ℤ n +ℤ e) <ℤ ((q +ℤ pos 1) *ℤ (pos 2 *ℤ e)) → nat_abs (pos 2 *ℤ (n -ℤ q *ℤ e)) ≤ d
    near n q e d is h k =
        abs_le (pos 2 *ℤ (n -ℤ q *ℤ e)) d (simp expand (omega (linear, simp expand at h, simp expand at k, is))) (simp expand (omega (linear, simp expand at h, simp expand at k, is)))
