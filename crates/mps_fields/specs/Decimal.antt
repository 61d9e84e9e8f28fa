-- The numbers of fixed and free MPS (IBM's MPSX and its successors), in this project's profile: how they are written, what they mean, and which fit a fraction of 128-bit numbers.
use Rattle.std.specs.Prelude.{◌≡◌, ℕ, suc, ◌+◌, ◌-◌, ◌*◌, ◌^◌, Bool, true, false, IsTrue, ◌&&◌, ◌||◌, nat_lt, nat_le, ◌==◌, List, [], ◌∷◌, ◌++◌, length, ℤ, pos, negsuc, neg_ℤ, ◌*ℤ◌, ◌-ℤ◌, nat_abs, Option, Some, None}
use Rattle.std.specs.List.{list_all}
use Rattle.exact_math.specs.Rational.{ℚ, whole, frac}

-- the digits 0 to 9 are the bytes 48 to 57
abbrev pub is_digit : ℕ → Bool
is_digit byte = nat_le 48 byte && nat_le byte 57

-- at least one digit, and nothing else
abbrev pub is_digits : List ℕ → Bool
is_digits [] = false
is_digits (byte ∷ bytes) = list_all is_digit (byte ∷ bytes)

-- the value of digits: each counts as often as the power of ten of its place says
unfoldable pub digits_value : List ℕ → ℕ
digits_value [] = 0
digits_value (digit ∷ digits) = (digit - 48) * 10 ^ length digits + digits_value digits

-- a sign, or none
pub data Sign : Type 0 where
  unsigned plus minus : Sign

-- `+` is 43, `-` is 45
abbrev pub sign_text : Sign → List ℕ
sign_text unsigned = []
sign_text plus = 43 ∷ []
sign_text minus = 45 ∷ []

-- the whole number of a sign and a size
abbrev pub signed : Sign → ℕ → ℤ
signed unsigned n = pos n
signed plus n = pos n
signed minus n = neg_ℤ (pos n)

-- an exponent: its letter, its sign and its digits
pub record Exponent : Type 0 where
  pub letter : ℕ
  pub sign : Sign
  pub digits : List ℕ

-- e, E, d and D
abbrev pub is_exponent_letter : ℕ → Bool
is_exponent_letter byte = (byte == 101) || (byte == 69) || (byte == 100) || (byte == 68)

-- an exponent is none, or has one of the letters and at least one digit
abbrev pub is_exponent : Option Exponent → Bool
is_exponent None = true
is_exponent (Some exponent) = is_exponent_letter exponent.letter && is_digits exponent.digits

-- the letter, the sign and the digits
abbrev pub exponent_text : Option Exponent → List ℕ
exponent_text None = []
exponent_text (Some exponent) = exponent.letter ∷ (sign_text exponent.sign ++ exponent.digits)

-- the value of an exponent, 0 where there is none
abbrev pub exponent_value : Option Exponent → ℤ
exponent_value None = pos 0
exponent_value (Some exponent) = signed exponent.sign (digits_value exponent.digits)

-- the parts of a number: its sign, the digits before the point, those after it where there is a point, and the exponent where there is one
pub record Decimal : Type 0 where
  pub sign : Sign
  pub whole : List ℕ
  pub fraction : Option (List ℕ)
  pub exponent : Option Exponent

-- the point (46) and the digits after it
abbrev pub fraction_text : Option (List ℕ) → List ℕ
fraction_text None = []
fraction_text (Some digits) = 46 ∷ digits

-- the digits after the point, none where there is no point
abbrev pub fraction_digits : Option (List ℕ) → List ℕ
fraction_digits None = []
fraction_digits (Some digits) = digits

-- the parts, one after another
abbrev pub decimal_text : Decimal → List ℕ
decimal_text d = sign_text d.sign ++ (d.whole ++ (fraction_text d.fraction ++ exponent_text d.exponent))

-- all digits before the exponent, the point left out
abbrev pub digits_of : Decimal → List ℕ
digits_of d = d.whole ++ fraction_digits d.fraction

-- a text is a number with these parts: before the exponent there is at least one digit, and the exponent has a letter and at least one digit
pub record Spells (d : Decimal) (text : List ℕ) : Type 0 where
  pub parts : decimal_text d ≡ text
  pub digits : IsTrue (is_digits (digits_of d))
  pub exponent : IsTrue (is_exponent d.exponent)

-- a text is a number
abbrev pub IsNumber : List ℕ → Type 0
IsNumber text = (d : Decimal) × Spells d text

-- M, the whole number of all digits before the exponent
abbrev pub mantissa : Decimal → ℤ
mantissa d = signed d.sign (digits_value (digits_of d))

-- e, the exponent less the number of digits after the point
abbrev pub power : Decimal → ℤ
power d = exponent_value d.exponent -ℤ pos (length (fraction_digits d.fraction))

-- m * 10^e
abbrev pub scaled : ℤ → ℤ → ℚ
scaled m (pos k) = whole (m *ℤ pos (10 ^ k))
scaled m (negsuc k) = frac m (10 ^ suc k)

-- the number that is meant, exactly: M * 10^e
abbrev pub means_number : Decimal → ℚ
means_number d = scaled (mantissa d) (power d)

-- for m other than 0: m * 10^e is whole and at most 2^127 - 1 in size, or m is so and -e at most 38
abbrev pub fits_scaled : ℤ → ℤ → Bool
fits_scaled m (pos k) = nat_lt (nat_abs m * 10 ^ k) (2 ^ 127)
fits_scaled m (negsuc k) = nat_lt (nat_abs m) (2 ^ 127) && nat_le (suc k) 38

-- m * 10^e fits where m is 0, whatever e, or where m and e say so
abbrev pub fits_product : ℤ → ℤ → Bool
fits_product m e = (nat_abs m == 0) || fits_scaled m e

-- a number fits
abbrev pub fits : Decimal → Bool
fits d = fits_product (mantissa d) (power d)

-- the same as a fact
abbrev pub Fits : Decimal → Type 0
Fits d = IsTrue (fits d)

-- a text is a number that fits, and means q
pub record MeansNumber (text : List ℕ) (q : ℚ) : Type 0 where
  pub decimal : Decimal
  pub spells : Spells decimal text
  pub fits : Fits decimal
  pub value : means_number decimal ≡ q

-- a text is a number that does not fit
pub record IsWideNumber (text : List ℕ) : Type 0 where
  pub decimal : Decimal
  pub spells : Spells decimal text
  pub wide : fits decimal ≡ false
