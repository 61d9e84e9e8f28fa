-- What taking a whole input says of the desk's faults.
use Rattle.std.specs.Prelude.{◌≡◌, ℕ, List, Option, Some, Result, Ok, Err}
use Rattle.std.specs.Global.{Vec}
use Rattle.desk_io.specs.Desk.{Fault, fault, Rose}
use Rattle.desk_io.specs.declared.desk.Call.TheVariants.{Take}
use Rattle.solve_cli.specs.declared.take.TakeStop.{TakeStop}
use Rattle.solve_cli.specs.declared.take.TakeStop.TheVariants.{Failed, NoMemory}

-- Failed comes only where the faults rose, and the last is a take of this name
abbrev pub IsReadFault : List ℕ → ℕ → ℕ → Option Fault → Result (Vec ℕ) TakeStop → Type 0
IsReadFault name before now last (Err Failed) = Rose before now × (last ≡ Some (fault Take name))
IsReadFault name before now last (Err NoMemory) = Unit {0}
IsReadFault name before now last (Ok text) = Unit {0}

-- any other answer leaves the faults as they were
abbrev pub IsUnmoved : ℕ → ℕ → Option Fault → Option Fault → Result (Vec ℕ) TakeStop → Type 0
IsUnmoved before now last_before last_now (Err Failed) = Unit {0}
IsUnmoved before now last_before last_now (Err NoMemory) = (now ≡ before) × (last_now ≡ last_before)
IsUnmoved before now last_before last_now (Ok text) = (now ≡ before) × (last_now ≡ last_before)
