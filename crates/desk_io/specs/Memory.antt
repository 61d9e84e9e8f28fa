-- What a desk in memory holds.
use Rattle.std.specs.Prelude.{◌≡◌, ℕ, List, [], Option, Some, Contains}
use Rattle.std.specs.Option.{option_map_or}
use Rattle.std.specs.BTreeMap.{get_by_text}
use Rattle.desk_io.specs.Counts.{one_more}
use Rattle.desk_io.specs.Desk.{Fault}
use Rattle.desk_io.specs.declared.memory.MemDesk.{MemDesk}

-- what is left of the input of this name, where it has one
abbrev pub input_of : MemDesk → List ℕ → Option (List ℕ)
input_of desk name = get_by_text desk.inputs name

-- what was put into the output of this name
abbrev pub output_of : MemDesk → List ℕ → List ℕ
output_of desk name = option_map_or (λ output. output.items) (get_by_text desk.outputs name) []

-- what was said
abbrev pub report_of : MemDesk → List ℕ
report_of desk = desk.said.items

-- how many calls were made, up to 2^64-1
abbrev pub calls_made : MemDesk → ℕ
calls_made desk = desk.calls

-- the numbers of the calls that are to fail
abbrev pub failing_calls : MemDesk → List ℕ
failing_calls desk = desk.failing.items

-- how many calls failed, up to 2^64-1
abbrev pub fault_count : MemDesk → ℕ
fault_count desk = desk.faults.count

-- the last call that failed
abbrev pub last_fault : MemDesk → Option Fault
last_fault desk = desk.faults.last

-- the number of the next call is one of those that are to fail
abbrev pub FailsNext : MemDesk → Type 0
FailsNext desk = Contains (failing_calls desk) (one_more (calls_made desk))

-- a desk in memory tells each output
abbrev pub written_to : MemDesk → List ℕ → Option (List ℕ)
written_to desk name = Some (output_of desk name)

-- and its report
abbrev pub told_report : MemDesk → Option (List ℕ)
told_report desk = Some (report_of desk)

-- the same outputs and the same report
pub record SameOutputs (old new : MemDesk) : Type 0 where
  pub outputs : (name : List ℕ) → output_of new name ≡ output_of old name
  pub report : report_of new ≡ report_of old

-- the same count of faults and the same last one
pub record SameFaults (old new : MemDesk) : Type 0 where
  pub count : fault_count new ≡ fault_count old
  pub last : last_fault new ≡ last_fault old
