-- The number with which the program ends, for each status.
use Rattle.std.specs.Prelude.{ℕ}
use Rattle.solve_cli.specs.declared.status.Status.{Status}
use Rattle.solve_cli.specs.declared.status.Status.TheVariants.{Optimal, Infeasible, Accepted, Spent, Words, Text, TooLong, Large, ReadFault, WriteFault, NoMemory, Rejected}

abbrev pub code_of : Status → ℕ
code_of Optimal = 0
code_of Accepted = 0
code_of Infeasible = 1
code_of Spent = 2
code_of Words = 3
code_of (Text fault) = 4
code_of (TooLong input) = 5
code_of (Large part) = 5
code_of ReadFault = 6
code_of WriteFault = 7
code_of NoMemory = 8
code_of (Rejected reject) = 9
