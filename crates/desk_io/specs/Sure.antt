-- What a desk in memory that never fails holds.
use Rattle.std.specs.Prelude.{ℕ, List, [], Option, Some, None, unwrap_or}
use Rattle.desk_io.specs.Desk.{Fault}
use Rattle.desk_io.specs.Memory as memory
use Rattle.desk_io.specs.declared.sure.SureDesk.{SureDesk}

-- what is left of the input of this name; a name without an input is an empty one
abbrev pub input_of : SureDesk → List ℕ → List ℕ
input_of sure name = unwrap_or (memory.input_of sure.desk name) []

-- what was put into the output of this name
abbrev pub output_of : SureDesk → List ℕ → List ℕ
output_of sure name = memory.output_of sure.desk name

-- what was said
abbrev pub report_of : SureDesk → List ℕ
report_of sure = memory.report_of sure.desk

-- it tells each input, each output and its report
abbrev pub told_input : SureDesk → List ℕ → Option (List ℕ)
told_input sure name = Some (input_of sure name)

abbrev pub told_output : SureDesk → List ℕ → Option (List ℕ)
told_output sure name = Some (output_of sure name)

abbrev pub told_report : SureDesk → Option (List ℕ)
told_report sure = Some (report_of sure)

-- no call fails
abbrev pub no_faults : SureDesk → ℕ
no_faults sure = 0

abbrev pub no_fault : SureDesk → Option Fault
no_fault sure = None
