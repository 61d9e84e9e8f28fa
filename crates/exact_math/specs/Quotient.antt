-- Quotients of whole numbers, rounded to a whole number. The divisor is above 0.
use Rattle.std.specs.Prelude.{ℤ, ℕ, pos, negsuc, neg_ℤ, ◌+ℤ◌, ◌*ℤ◌, ◌/◌, ◌*◌}

-- the greatest whole number that is at most n/d; `negsuc a` is -(a + 1), whose quotient is at least -(a/d + 1)
abbrev pub floor_div : ℤ → ℕ → ℤ
floor_div (pos a) d = pos (a / d)
floor_div (negsuc a) d = negsuc (a / d)

-- the least whole number that is at least n/d
abbrev pub ceil_div : ℤ → ℕ → ℤ
ceil_div n d = neg_ℤ (floor_div (neg_ℤ n) d)

-- the whole number nearest to n/d, and of two the greater
abbrev pub round_div : ℤ → ℕ → ℤ
round_div n d = floor_div (pos 2 *ℤ n +ℤ pos d) (2 * d)
