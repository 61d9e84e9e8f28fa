-- Counts that stand still at the greatest number of 64 bits, and a count of faults with the last of them.
use Rattle.std.specs.Prelude.{ℕ, ◌+◌, ◌-◌, ◌^◌, min, Option}
use Rattle.desk_io.specs.Desk.{Fault}

-- the next number, or the same at 2^64-1
abbrev pub one_more : ℕ → ℕ
one_more n = min (n + 1) (2 ^ 64 - 1)

-- how many faults there were, and the last of them
pub record FaultLog : Type 0 where
  pub count : ℕ
  pub last : Option Fault
