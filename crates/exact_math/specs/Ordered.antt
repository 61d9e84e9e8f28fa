-- Orders that go with a commutative ring.
use Rattle.std.specs.Prelude.{pos}
use Rattle.exact_math.specs.Ring.{Ring}

-- `Le` is a reflexive and transitive relation of the ring's numbers that sums keep; products of numbers that are not negative are not negative
pub record IsOrdered {A : Type 0} (r : Ring A) (Le : A → A → Type 0) : Type 0 where
  pub le_refl : (a : A) → Le a a
  pub le_trans : (a b c : A) → Le a b → Le b c → Le a c
  pub add_le : (a b c d : A) → Le a b → Le c d → Le (r.add a c) (r.add b d)
  pub mul_nonneg : (a b : A) → Le (r.literal (pos 0)) a → Le (r.literal (pos 0)) b → Le (r.literal (pos 0)) (r.mul a b)
