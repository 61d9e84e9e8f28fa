-- A whole number by its sign and its size.
use Rattle.std.specs.Prelude.{ℕ, ℤ, pos, neg_ℤ, Bool, true, false, not}
use Rattle.std.specs.Bool.{beq}

-- the number of this size, negative where the test holds
abbrev pub with_sign : Bool → ℕ → ℤ
with_sign false size = pos size
with_sign true size = neg_ℤ (pos size)

-- one of two tests holds, and not the other: a product of numbers with these signs is negative
abbrev pub differ : Bool → Bool → Bool
differ s t = not (beq s t)
