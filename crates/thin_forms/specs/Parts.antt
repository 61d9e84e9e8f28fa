-- Primitive parts of forms.
use Rattle.std.specs.Prelude.{◌≡◌, ℕ, ◌<◌, ℤ, pos, nat_abs, List}
use Rattle.std.specs.Int.{◌∣◌}
use Rattle.std.specs.List.{All}
use Rattle.exact_math.specs.Ring.{integers}
use Rattle.exact_vectors.specs.Vectors.{scale}

-- the form is the other one over the greatest common divisor of its factors, which is above 0
pub record IsPrimitivePart (factors form : List ℤ) : Type 0 where
  pub divisor : ℕ
  pub positive : 0 < divisor
  pub multiple : factors ≡ scale integers (pos divisor) form
  pub greatest : (e : ℕ) → All (λ factor. e ∣ nat_abs factor) factors → e ∣ divisor
