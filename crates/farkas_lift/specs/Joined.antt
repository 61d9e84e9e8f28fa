-- Lists that are joined by the numbers of their parts.
use Rattle.std.specs.Prelude.{ℕ, zero, suc, List, [], ◌++◌}

-- what `part` gives for the numbers below `count`, one after another
abbrev pub joined : {A : Type 0} → (ℕ → List A) → ℕ → List A
joined part zero = []
joined part (suc count) = joined part count ++ part count
