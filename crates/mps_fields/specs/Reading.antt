-- The parts of a number of fixed and free MPS (IBM's MPSX and its successors),
-- found from the left of its text: the form of `Decimal.antt` that computes. A text spells one
-- decimal at most, and it is the one found here (`Rattle.mps_fields.specs.ReadingLaws`).
use Rattle.std.specs.Prelude.{ℕ, ◌&&◌, ◌||◌, ◌==◌, if◌then◌else◌, List, [], ◌∷◌, ◌++◌, take, drop, Option, Some, None, Result, Ok, Err}
use Rattle.std.specs.List.{prefix_len}
use Rattle.exact_math.specs.Rational.{ℚ}
use Rattle.mps_fields.specs.declared.numbers.NumberFault.{NumberFault}
use Rattle.mps_fields.specs.declared.numbers.NumberFault.TheVariants.{NotNumber, WideNumber}
use Rattle.mps_fields.specs.Decimal.{Sign, unsigned, plus, minus, Exponent, Decimal, is_digit, is_digits, is_exponent_letter, fraction_digits, fits, means_number}

-- the sign in front of a text
abbrev pub sign_of : List ℕ → Sign
sign_of [] = unsigned
sign_of (byte ∷ bytes) = if byte == 43 then plus else (if byte == 45 then minus else unsigned)

-- the text behind the sign
abbrev pub after_sign : List ℕ → List ℕ
after_sign [] = []
after_sign (byte ∷ bytes) = if (byte == 43) || (byte == 45) then bytes else byte ∷ bytes

-- the digits in front of a text
abbrev pub front_digits : List ℕ → List ℕ
front_digits text = take (prefix_len is_digit text) text

-- the text behind the digits
abbrev pub after_digits : List ℕ → List ℕ
after_digits text = drop (prefix_len is_digit text) text

-- the digits behind a point in front of a text
abbrev pub fraction_of : List ℕ → Option (List ℕ)
fraction_of [] = None
fraction_of (byte ∷ bytes) = if byte == 46 then Some (front_digits bytes) else None

-- the text behind the fraction
abbrev pub after_fraction : List ℕ → List ℕ
after_fraction [] = []
after_fraction (byte ∷ bytes) = if byte == 46 then after_digits bytes else byte ∷ bytes

-- the exponent that is all of a text, and none for no text; no answer where the text is something else
abbrev pub exponent_of : List ℕ → Option (Option Exponent)
exponent_of [] = Some None
exponent_of (letter ∷ text) =
    if is_exponent_letter letter && is_digits (after_sign text) then Some (Some (record { letter = letter; sign = sign_of text; digits = after_sign text })) else None

-- the decimal with these parts, where it has a digit before the exponent
unfoldable pub decimal_with : Sign → List ℕ → Option (List ℕ) → Option (Option Exponent) → Option Decimal
decimal_with sign whole fraction None = None
decimal_with sign whole fraction (Some exponent) =
    if is_digits (whole ++ fraction_digits fraction) then Some (record { sign = sign; whole = whole; fraction = fraction; exponent = exponent }) else None

-- the parts of the number that a text is
unfoldable pub decimal_of : List ℕ → Option Decimal
decimal_of text =
    let rest = after_digits (after_sign text) in
    decimal_with (sign_of text) (front_digits (after_sign text)) (fraction_of rest) (exponent_of (after_fraction rest))

-- the number that these parts mean, where they are there and fit
unfoldable pub value_of : Option Decimal → Result ℚ NumberFault
value_of None = Err NotNumber
value_of (Some d) = if fits d then Ok (means_number d) else Err WideNumber

-- what a field means as a number
abbrev pub number_of : List ℕ → Result ℚ NumberFault
number_of text = value_of (decimal_of text)
