-- Why a reduction halts.
use Rattle.std.specs.Prelude.{◌≡◌, ℕ, ◌*◌, List, ⊤}
use Rattle.exact_math.specs.Rational.{ℚ}
use Rattle.lp_solve.specs.declared.answer.LpStop.{LpStop}
use Rattle.lp_solve.specs.declared.answer.LpStop.TheVariants as stops
use Rattle.norm_gauge.specs.Widths.{Polytope}
use Rattle.unimodular_pair.specs.Gathering.{unit_vectors}
use Rattle.unimodular_pair.specs.Pairs.{Matrices}
use Rattle.unimodular_pair.specs.declared.step.Step.{Step}
use Rattle.generalised_reduce.specs.Moves.{IsSwap, Leads, NumberLeaves, TestStops, swaps_in}
use Rattle.generalised_reduce.specs.Reduced.{forms_of}
use Rattle.generalised_reduce.specs.declared.answer.ThinExcuse.TheVariants as excuses
use Rattle.generalised_reduce.specs.declared.answer.ThinStop.{ThinStop}
use Rattle.generalised_reduce.specs.declared.answer.ThinStop.TheVariants as thin_stops
use Rattle.generalised_reduce.specs.declared.halt.Halt.{Halt}
use Rattle.generalised_reduce.specs.declared.halt.Halt.TheVariants as halts

-- where a width stops, the reduction does
abbrev pub halt_of : LpStop → Halt
halt_of (stops.Excuse excuse) = halts.Lp excuse
halt_of stops.NoMemory = halts.NoMemory

-- a halt for want of memory, or because a number leaves its range
abbrev pub WhereWide : Type 0 → Halt → Type 0
WhereWide P halts.Wide = P
WhereWide P halts.NoMemory = ⊤
WhereWide P halts.ManySwaps = ⊥
WhereWide P (halts.Lp excuse) = ⊥

-- a width test stops, or a number of the form of the next test or of the next move leaves its range
abbrev pub SearchHalts : Polytope → Matrices → Halt → Type 0
SearchHalts p m (halts.Lp excuse) = TestStops p (forms_of m) excuse
SearchHalts p m halts.Wide = NumberLeaves p m
SearchHalts p m halts.ManySwaps = ⊥
SearchHalts p m halts.NoMemory = ⊤

-- how many swaps are made at most in a basis of `n` forms
abbrev pub most_swaps : ℕ → ℕ
most_swaps n = 64 * n * n

-- legal moves lead from the identity to the pair
abbrev pub AreMade : Polytope → List Step → Matrices → Type 0
AreMade p moves m = Leads p (unit_vectors p.coordinates) moves m

-- a swap is due
abbrev pub IsSwapDue : Polytope → List (List ℚ) → Type 0
IsSwapDue p rows = (i : ℕ) × IsSwap p rows i

-- at these moves, which are legal and lead to the pair, the reduction halts
abbrev pub HaltsAt : Polytope → List Step → Matrices → Halt → Type 0
HaltsAt p moves m (halts.Lp excuse) = AreMade p moves m × TestStops p (forms_of m) excuse
HaltsAt p moves m halts.Wide = AreMade p moves m × NumberLeaves p m
HaltsAt p moves m halts.ManySwaps = AreMade p moves m × (swaps_in moves ≡ most_swaps p.coordinates) × IsSwapDue p (forms_of m)
HaltsAt p moves m halts.NoMemory = ⊤

-- the answer of a halt after these moves
abbrev pub stop_of : Halt → List Step → ThinStop
stop_of (halts.Lp excuse) moves = thin_stops.Excuse (excuses.Lp moves excuse)
stop_of halts.Wide moves = thin_stops.Excuse (excuses.Wide moves)
stop_of halts.ManySwaps moves = thin_stops.Excuse (excuses.ManySwaps moves)
stop_of halts.NoMemory moves = thin_stops.NoMemory

-- Why there is no reduced basis: the moves are legal, and after them the next linear program stops, or its gauge; or as many swaps were made as are made at
-- most, and another is due; or a product or entry of the form of the next width test, or of the next legal move, leaves its range. Want of memory needs no cause.
abbrev pub ThinStopIs : Polytope → ThinStop → Type 0
ThinStopIs p (thin_stops.Excuse (excuses.Lp moves excuse)) = (end : Matrices) × AreMade p moves end × TestStops p (forms_of end) excuse
ThinStopIs p (thin_stops.Excuse (excuses.ManySwaps moves)) = (end : Matrices) × AreMade p moves end × (swaps_in moves ≡ most_swaps p.coordinates) × IsSwapDue p (forms_of end)
ThinStopIs p (thin_stops.Excuse (excuses.Wide moves)) = (end : Matrices) × AreMade p moves end × NumberLeaves p end
ThinStopIs p thin_stops.NoMemory = ⊤
