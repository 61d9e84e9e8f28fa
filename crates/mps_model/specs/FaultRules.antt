-- How a list of rules gives the kind of a fault, by this project's profile of fixed and free MPS (IBM's MPSX and its
-- successors): the first rule that holds. And when a field is no number, or one that is too wide.
use Rattle.std.specs.Prelude.{ℕ, Bool, true, false, List, find, Option, Result, Err, option_map, bytes_eq}
use Rattle.std.specs.List.{list_any}
use Rattle.exact_math.specs.Rational.{ℚ}
use Rattle.mps_fields.specs.declared.numbers.NumberFault.{NumberFault}
use Rattle.mps_fields.specs.declared.numbers.NumberFault.TheVariants as numbers
use Rattle.mps_model.specs.declared.fault.FaultKind.{FaultKind}

-- the first of the rules that holds gives the kind
abbrev pub first_holding : List (Bool × FaultKind) → Option FaultKind
first_holding rules = option_map (λ rule. rule.1) (find (λ rule. rule.0) rules)

abbrev pub is_among : List (List ℕ) → List ℕ → Bool
is_among names name = list_any (bytes_eq name) names

abbrev pub is_not_number : Result ℚ NumberFault → Bool
is_not_number (Err numbers.NotNumber) = true
is_not_number _ = false

abbrev pub is_wide_number : Result ℚ NumberFault → Bool
is_wide_number (Err numbers.WideNumber) = true
is_wide_number _ = false
