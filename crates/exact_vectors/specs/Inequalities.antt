-- Inequalities between vectors, item by item: in any order `Le` that goes with a ring, and over the whole numbers.
use Rattle.std.specs.Prelude.{ℤ, pos, ◌≤ℤ◌, List}
use Rattle.std.specs.List.{All, AllZip}
use Rattle.exact_math.specs.Ring.{Ring}

-- no item is negative, in the order `Le`
abbrev pub NotNegativeBy : {A : Type 0} → Ring A → (A → A → Type 0) → List A → Type 0
NotNegativeBy r Le v = All (λ a. Le (r.literal (pos 0)) a) v

-- no item is negative
abbrev pub NotNegative : List ℤ → Type 0
NotNegative v = All (λ a. pos 0 ≤ℤ a) v

-- the two have one length, and each item of the first is at most that of the second
abbrev pub AtMost : List ℤ → List ℤ → Type 0
AtMost v w = AllZip ◌≤ℤ◌ v w
