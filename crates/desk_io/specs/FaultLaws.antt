-- A count of faults over several calls.
use Rattle.std.proofs.Common.{◌≤◌, ℕ, arith}
use Rattle.desk_io.specs.Desk.{Rose}

-- what rises last has risen from before on
pub rose_after : (before between now : ℕ) → before ≤ between → Rose between now → Rose before now
rose_after before between now earlier rose = grind (arith, earlier, rose)
