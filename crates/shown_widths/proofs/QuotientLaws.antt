-- Quotients of whole numbers.
use Rattle.std.proofs.Common.{◌≡◌, ℤ, pos, negsuc, ◌<ℤ◌, sym, subst}
use Rattle.std.specs.Prelude.{IfSome, Result, Ok, Err}
use Rattle.std.specs.Result.{OkIff, result_ok}
use Rattle.exact_math.specs.IntegerRing.{linear}
use Rattle.exact_math.specs.Rational.{ℚ, ratio, whole, ◌/ℚ◌}
use Rattle.form_widths.specs.RationalOrderLaws.{quotient-frac}

-- a quotient of whole numbers
pub quotient_is : (n d : ℤ) → pos 0 <ℤ d → whole n /ℚ whole d ≡ ratio n d
unfolding ratio
quotient_is n (pos d) h = quotient-frac n d (omega linear)
quotient_is n (negsuc d) h = absurd (omega linear)

-- what holds of the value holds of what is there
pub holds_of : {E : Type 0} (Q : ℚ → Type 0) (result : Result ℚ E) (P : Type 0) (value : ℚ) → OkIff result P value → Q value → IfSome (result_ok result) Q
holds_of Q (Ok found) P value h q = subst Q (sym h.1) q
holds_of Q (Err error) P value h q = tt
