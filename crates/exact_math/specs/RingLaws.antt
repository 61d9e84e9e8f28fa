-- The laws of any commutative ring that follow from those of the record `Ring`.
use Rattle.std.proofs.Common.{◌≡◌, ℤ, pos, negsuc, neg_ℤ, sym, ap, ◌∙◌}
use Rattle.exact_math.specs.Ring.{Ring}
use Rattle.exact_math.specs.IntegerLaws as Z

module _ {A : Type 0} (r : Ring A) where
  -- zero is neutral on the left
  pub zero_add : (a : A) → r.add (r.literal (pos 0)) a ≡ a
  zero_add a = r.add_comm (r.literal (pos 0)) a ∙ r.add_zero a

  -- a number cancels its negation on the left
  pub neg_add_self : (a : A) → r.add (r.neg a) a ≡ r.literal (pos 0)
  neg_add_self a = r.add_comm (r.neg a) a ∙ r.add_neg a

  -- two summands change places before a third
  pub add_left_comm : (a b c : A) → r.add a (r.add b c) ≡ r.add b (r.add a c)
  add_left_comm a b c = sym (r.add_assoc a b c) ∙ ap (λ x. r.add x c) (r.add_comm a b) ∙ r.add_assoc b a c

  -- two factors change places before a third
  pub mul_left_comm : (a b c : A) → r.mul a (r.mul b c) ≡ r.mul b (r.mul a c)
  mul_left_comm a b c = sym (r.mul_assoc a b c) ∙ ap (λ x. r.mul x c) (r.mul_comm a b) ∙ r.mul_assoc b a c

  -- one is neutral on the left
  pub one_mul : (a : A) → r.mul (r.literal (pos 1)) a ≡ a
  one_mul a = r.mul_comm (r.literal (pos 1)) a ∙ r.mul_one a

  -- a factor on the right goes into a sum
  pub add_mul : (a b c : A) → r.mul (r.add a b) c ≡ r.add (r.mul a c) (r.mul b c)
  add_mul a b c = simp (r.mul_comm (r.add a b) c, r.mul_add c a b, r.mul_comm c a, r.mul_comm c b)

  -- an equal summand on the left is cancelled
  pub add_cancel : (a b c : A) → r.add a b ≡ r.add a c → b ≡ c
  add_cancel a b c e =
      let drop_it = λ (x : A). sym (zero_add x) ∙ ap (λ z. r.add z x) (sym (neg_add_self a)) ∙ r.add_assoc (r.neg a) a x in
      drop_it b ∙ ap (r.add (r.neg a)) e ∙ sym (drop_it c)

  -- what cancels a number is its negation
  pub neg_unique : (a b : A) → r.add a b ≡ r.literal (pos 0) → b ≡ r.neg a
  neg_unique a b e = add_cancel a b (r.neg a) (e ∙ sym (r.add_neg a))

  -- a number times zero is zero
  pub mul_zero : (a : A) → r.mul a (r.literal (pos 0)) ≡ r.literal (pos 0)
  mul_zero a =
      let o = r.literal (pos 0) in
      add_cancel (r.mul a o) (r.mul a o) o (sym (r.mul_add a o o) ∙ ap (r.mul a) (r.add_zero o) ∙ sym (r.add_zero (r.mul a o)))

  -- zero times a number is zero
  pub zero_mul : (a : A) → r.mul (r.literal (pos 0)) a ≡ r.literal (pos 0)
  zero_mul a = r.mul_comm (r.literal (pos 0)) a ∙ mul_zero a

  -- a sign on the right factor is the product's
  pub mul_neg : (a b : A) → r.mul a (r.neg b) ≡ r.neg (r.mul a b)
  mul_neg a b = neg_unique (r.mul a b) (r.mul a (r.neg b)) (sym (r.mul_add a b (r.neg b)) ∙ ap (r.mul a) (r.add_neg b) ∙ mul_zero a)

  -- a sign on the left factor is the product's
  pub neg_mul : (a b : A) → r.mul (r.neg a) b ≡ r.neg (r.mul a b)
  neg_mul a b = r.mul_comm (r.neg a) b ∙ mul_neg b a ∙ ap r.neg (r.mul_comm b a)

  -- two signs cancel
  pub neg_neg : (a : A) → r.neg (r.neg a) ≡ a
  neg_neg a = sym (neg_unique (r.neg a) a (neg_add_self a))

  -- a sign goes into a sum
  pub neg_add : (a b : A) → r.neg (r.add a b) ≡ r.add (r.neg a) (r.neg b)
  neg_add a b =
      sym (neg_unique (r.add a b) (r.add (r.neg a) (r.neg b)) (r.add_assoc a b _ ∙ ap (r.add a) (add_left_comm b (r.neg a) (r.neg b) ∙ ap (r.add (r.neg a)) (r.add_neg b) ∙ r.add_zero (r.neg a)) ∙ r.add_neg a))

  -- the negation of zero is zero
  pub neg_zero : r.neg (r.literal (pos 0)) ≡ r.literal (pos 0)
  neg_zero = sym (neg_unique (r.literal (pos 0)) (r.literal (pos 0)) (r.add_zero (r.literal (pos 0))))

  -- a literal's negation
  pub literal_neg : (n : ℤ) → r.literal (neg_ℤ n) ≡ r.neg (r.literal n)
  literal_neg n = neg_unique (r.literal n) (r.literal (neg_ℤ n)) (sym (r.literal_add n (neg_ℤ n)) ∙ ap r.literal (Z.add_neg n))

  -- minus one times a number is its negation
  pub minus_one_mul : (a : A) → r.mul (r.literal (negsuc 0)) a ≡ r.neg a
  minus_one_mul a = ap (λ x. r.mul x a) (literal_neg (pos 1)) ∙ neg_mul (r.literal (pos 1)) a ∙ ap r.neg (one_mul a)
