-- What the reader answers.
use Rattle.std.specs.Prelude.{◌≡◌, ⊤, ℕ, Result, Ok, Err}
use Rattle.int_model.specs.declared.model.Model.{Model}
use Rattle.mps_model.specs.declared.fault.TextFault.{TextFault}
use Rattle.mps_model.specs.declared.line_stop.LineStop.{LineStop}
use Rattle.mps_model.specs.declared.line_stop.LineStop.TheVariants as lines
use Rattle.mps_model.specs.declared.read_stop.ReadStop.{ReadStop}
use Rattle.mps_model.specs.declared.read_stop.ReadStop.TheVariants as reads
use Rattle.mps_model.specs.Meaning.{fault_on}
use Rattle.mps_model.specs.ModelLimits.{KeepsLimits}

-- the answer is the model that is meant, which keeps its limits, or the fault; or memory ran out
abbrev pub Answers : Result Model TextFault → Result Model ReadStop → Type 0
Answers meant (Ok model) = (meant ≡ Ok model) × KeepsLimits model
Answers meant (Err (reads.Fault fault)) = meant ≡ Err fault
Answers meant (Err reads.NoMemory) = ⊤

-- a stop at the line of this number
abbrev pub stop_on : ℕ → LineStop → ReadStop
stop_on line (lines.Fault kind) = reads.Fault (fault_on line kind)
stop_on line lines.NoMemory = reads.NoMemory
