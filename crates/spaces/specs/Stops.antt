-- Why a map is not taken.
use Rattle.spaces.specs.declared.map_stop.MapStop.{MapStop}
use Rattle.spaces.specs.declared.map_stop.MapStop.TheVariants.{Wide, NoMemory}

-- `Wide` is answered only where the numbers do not stay in range, as `Stays` says
abbrev pub StopsUnless : Type 0 → MapStop → Type 0
StopsUnless Stays Wide = ¬ Stays
StopsUnless Stays NoMemory = Unit {0}
