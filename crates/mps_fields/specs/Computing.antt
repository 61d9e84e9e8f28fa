-- What the worked values of lines, fields and numbers are computed with.
use Rattle.exact_math.specs.Gcd.{gcd, gcd_within}
use Rattle.exact_math.specs.Rational.{frac, whole}
use Rattle.mps_fields.specs.Lines.{pieces_of, numbered}
use Rattle.mps_fields.specs.FreeFields.{fields_from}
use Rattle.mps_fields.specs.Decimal.{digits_value}
use Rattle.mps_fields.specs.Reading.{decimal_with, decimal_of, value_of}

-- to unfold this is to unfold all of them
unfoldable pub computed : Unit {0}
unfolding gcd gcd_within frac whole pieces_of numbered fields_from digits_value decimal_with decimal_of value_of
computed = tt
