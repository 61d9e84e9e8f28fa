-- Commutative rings, with their whole-number literals, and the ring of the whole numbers.
use Rattle.std.specs.Prelude.{◌≡◌, ℤ, pos, ◌+ℤ◌, ◌*ℤ◌, neg_ℤ, refl}
use Rattle.exact_math.specs.IntegerLaws.{mul_assoc, mul_add, mul_one, add_neg, add_assoc, add_comm, add_zero, mul_comm}

-- a commutative ring on `A`: `literal` is the one map of rings from ℤ, so that zero is `literal (pos 0)` and one `literal (pos 1)`
pub record Ring (A : Type 0) : Type 0 where
  pub add : A → A → A
  pub mul : A → A → A
  pub neg : A → A
  pub literal : ℤ → A
  pub add_comm : (a b : A) → add a b ≡ add b a
  pub add_assoc : (a b c : A) → add (add a b) c ≡ add a (add b c)
  pub add_zero : (a : A) → add a (literal (pos 0)) ≡ a
  pub add_neg : (a : A) → add a (neg a) ≡ literal (pos 0)
  pub mul_comm : (a b : A) → mul a b ≡ mul b a
  pub mul_assoc : (a b c : A) → mul (mul a b) c ≡ mul a (mul b c)
  pub mul_one : (a : A) → mul a (literal (pos 1)) ≡ a
  pub mul_add : (a b c : A) → mul a (add b c) ≡ add (mul a b) (mul a c)
  pub literal_add : (m n : ℤ) → literal (m +ℤ n) ≡ add (literal m) (literal n)
  pub literal_mul : (m n : ℤ) → literal (m *ℤ n) ≡ mul (literal m) (literal n)

-- the whole numbers: each operation is std's own, and a literal is itself
abbrev pub integers : Ring ℤ
integers = record {
  add = ◌+ℤ◌;
  mul = ◌*ℤ◌;
  neg = neg_ℤ;
  literal = λ n. n;
  add_comm = add_comm;
  add_assoc = add_assoc;
  add_zero = add_zero;
  add_neg = add_neg;
  mul_comm = mul_comm;
  mul_assoc = mul_assoc;
  mul_one = mul_one;
  mul_add = mul_add;
  literal_add = λ m n. refl;
  literal_mul = λ m n. refl;
}
