-- The integer solutions of linear equalities.
use Rattle.std.specs.Prelude.{◌≡◌, ℕ, ℤ, List, length, All}
use Rattle.exact_math.specs.Ring.{integers}
use Rattle.exact_vectors.specs.Vectors.{dot}
use Rattle.reformulate.specs.declared.equality.Equality.{Equality}

-- the form has the value of the side at x
abbrev pub Meets : List ℤ → Equality → Type 0
Meets x equality = dot integers equality.form x ≡ equality.side

-- x has n items and meets each equality
pub record Solves (n : ℕ) (equalities : List Equality) (x : List ℤ) : Type 0 where
  pub size : length x ≡ n
  pub meets : All (Meets x) equalities
