-- The parts of a number as slices of its text.
use Rattle.std.specs.Prelude.{◌≡◌, ℕ, ◌+◌, ◌*◌, ◌^◌, List, Bool, true, false, IsTrue, ◌++◌, length, ℤ, pos, ◌-ℤ◌, Option, Some}
use Rattle.std.specs.List.{list_all}
use Rattle.exact_math.specs.Rational.{ℚ}
use Rattle.frac128.specs.Sign.{with_sign}
use Rattle.mps_fields.specs.Decimal.{Sign, unsigned, plus, minus, Exponent, Decimal, is_digit, digits_value, fits_product, scaled, mantissa, power, exponent_value}
use Rattle.mps_fields.specs.Reading.{exponent_of, decimal_of}
use Rattle.mps_fields.specs.declared.decimal_parts.Power.{Power}
use Rattle.mps_fields.specs.declared.decimal_parts.Parts.{Parts}

-- a minus makes a number negative
abbrev pub is_minus : Sign → Bool
is_minus unsigned = false
is_minus plus = false
is_minus minus = true

-- each byte is a digit; there may be none
abbrev pub AllDigits : List ℕ → Type 0
AllDigits bytes = IsTrue (list_all is_digit bytes)

-- the value of the exponent
abbrev pub power_value : Power → ℤ
power_value x = with_sign x.is_negative (digits_value x.digits.now)

-- M
abbrev pub parts_mantissa : Parts → ℤ
parts_mantissa p = with_sign p.is_negative (digits_value (p.whole.now ++ p.fraction.now))

-- e
abbrev pub parts_power : Parts → ℤ
parts_power p = power_value p.power -ℤ pos (length p.fraction.now)

-- the number whose digits are those of another number and then these
abbrev pub whole_of : ℕ → List ℕ → ℕ
whole_of number digits = number * 10 ^ length digits + digits_value digits

-- the number with these parts fits
abbrev pub PartsFit : Parts → Type 0
PartsFit p = IsTrue (fits_product (parts_mantissa p) (parts_power p))

-- what the number with these parts is
abbrev pub parts_value : Parts → ℚ
parts_value p = scaled (parts_mantissa p) (parts_power p)

-- a text is an exponent, or nothing, with these parts
pub record IsPowerOf (x : Power) (text : List ℕ) : Type 0 where
  pub exponent : Option Exponent
  pub found : exponent_of text ≡ Some exponent
  pub value : power_value x ≡ exponent_value exponent
  pub digits : AllDigits x.digits.now

-- the digits of a number's parts are digits
pub record HasDigits (p : Parts) : Type 0 where
  pub whole : AllDigits p.whole.now
  pub fraction : AllDigits p.fraction.now
  pub power : AllDigits p.power.digits.now

-- a text is a number with these parts
pub record ArePartsOf (p : Parts) (text : List ℕ) : Type 0 where
  pub decimal : Decimal
  pub found : decimal_of text ≡ Some decimal
  pub mantissa : parts_mantissa p ≡ mantissa decimal
  pub power : parts_power p ≡ power decimal
  pub digits : HasDigits p
