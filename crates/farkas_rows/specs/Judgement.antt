-- What is said of a line's weight.
use Rattle.std.specs.Prelude.{◌≡◌, ◌^◌, ℤ, pos, ◌≤ℤ◌, ◌<ℤ◌}
use Rattle.farkas_rows.specs.declared.line.Weight.{Weight}
use Rattle.farkas_rows.specs.declared.line.Weight.TheVariants.{Within, Above}

-- a weight is told where it is at most 2 to the power 126, and else that it is above
abbrev pub IsWeight : ℤ → Weight → Type 0
IsWeight weight (Within told) = (told ≡ weight) × (weight ≤ℤ pos (2 ^ 126))
IsWeight weight Above = pos (2 ^ 126) <ℤ weight
