-- What a call that judges a line, or a part of one, answers.
use Rattle.std.specs.Prelude.{◌≡◌, ⊤, Option, Some, None, Result, Ok, Err}
use Rattle.mps_fields.specs.declared.numbers.NumberFault.{NumberFault}
use Rattle.mps_fields.specs.declared.numbers.NumberFault.TheVariants as numbers
use Rattle.mps_model.specs.declared.fault.FaultKind.{FaultKind}
use Rattle.mps_model.specs.declared.fault.FaultKind.TheVariants as faults
use Rattle.mps_model.specs.declared.line_stop.LineStop.{LineStop}
use Rattle.mps_model.specs.declared.line_stop.LineStop.TheVariants.{Fault, NoMemory}

-- the line is refused with its fault, or, where it has none, taken; where it is taken this holds
abbrev pub Judges : {A : Type 0} → Option FaultKind → Type 0 → Result A LineStop → Type 0
Judges fault taken (Ok _) = (fault ≡ None) × taken
Judges fault taken (Err (Fault kind)) = fault ≡ Some kind
Judges fault taken (Err NoMemory) = ⊤

-- the fault of a line with a field that is to be a number
abbrev pub kind_of : NumberFault → FaultKind
kind_of numbers.NotNumber = faults.NotNumber
kind_of numbers.WideNumber = faults.WideNumber
