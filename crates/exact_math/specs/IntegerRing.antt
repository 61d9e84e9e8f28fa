-- Ring and linear arithmetic over the whole numbers ℤ by two rulesets: `simp expand` multiplies out and sorts the factors of each monomial, and `omega linear` decides what is linear in the monomials. An identity is `simp expand (omega linear)`; a hypothesis goes in multiplied and expanded, as `omega (linear, simp expand at (ap (λ t. d *ℤ t) h))`. The ring laws are passed on from `specs/IntegerLaws.antt`.
pub use Rattle.exact_math.specs.IntegerLaws.{add_assoc, add_comm, add_left_comm, add_zero, zero_add, add_neg, mul_assoc, mul_comm, mul_left_comm, mul_one, one_mul, mul_zero, zero_mul, minus_one_mul, mul_add, add_mul, mul_neg, neg_mul, neg_add, neg_neg}
use Rattle.std.proofs.Common.{◌≡◌, ℕ, suc, zero, ◌+◌, ◌*◌, ℤ, pos, negsuc, ◌+ℤ◌, ◌-ℤ◌, ◌*ℤ◌, neg_ℤ, refl, sym, ap, ◌∙◌, arith}
use borrow.Author.Differences.{up, down, same_out, same_in, Apart-out, lt_T, le_T, lt_not, le_not, lt-true, lt-false, le-true, le-false, true-lt, false-lt, true-le, false-le, not_negative_out, lt_out, le_out, lt_in, le_in, below_in, at_most_in, not_negative_in, true_is_lt, false_is_lt, true_is_le, false_is_le, sum_is_lem, neg_is, product_is, abs_is}

-- a natural number times a monomial, kept apart from the products of unknowns
unfoldable pub times : ℕ → ℤ → ℤ
times k z = pos k *ℤ z

-- a natural number as the left factor is taken out
pub times_left : (k : ℕ) (z : ℤ) → pos k *ℤ z ≡ times k z
unfolding times
times_left k z = refl

-- a natural number as the right factor is taken out
pub times_right : (z : ℤ) (k : ℕ) → z *ℤ pos k ≡ times k z
unfolding times
times_right z k = mul_comm z (pos k)

-- a negative left factor is taken out
pub times_left_negative : (k : ℕ) (z : ℤ) → negsuc k *ℤ z ≡ neg_ℤ (times (suc k) z)
unfolding times
times_left_negative k z = neg_mul (pos (suc k)) z

-- a negative right factor is taken out
pub times_right_negative : (z : ℤ) (k : ℕ) → z *ℤ negsuc k ≡ neg_ℤ (times (suc k) z)
unfolding times
times_right_negative z k = mul_comm z (negsuc k) ∙ neg_mul (pos (suc k)) z

-- a literal leaves the left factor of a product
pub times-mul : (k : ℕ) (a b : ℤ) → times k a *ℤ b ≡ times k (a *ℤ b)
unfolding times
times-mul k a b = mul_assoc (pos k) a b

-- a literal leaves the right factor of a product
pub mul-times : (k : ℕ) (a b : ℤ) → a *ℤ times k b ≡ times k (a *ℤ b)
unfolding times
mul-times k a b = mul_left_comm a (pos k) b

-- a literal goes into a sum
pub times-add : (k : ℕ) (a b : ℤ) → times k (a +ℤ b) ≡ times k a +ℤ times k b
unfolding times
times-add k a b = mul_add (pos k) a b

-- a sign leaves a literal's multiple
pub times-neg : (k : ℕ) (a : ℤ) → times k (neg_ℤ a) ≡ neg_ℤ (times k a)
unfolding times
times-neg k a = mul_neg (pos k) a

-- two literals are one
pub times-times : (j k : ℕ) (a : ℤ) → times j (times k a) ≡ times (j * k) a
unfolding times
times-times j k a = sym (mul_assoc (pos j) (pos k) a)

-- a literal's multiple of a natural number
pub times-pos : (k n : ℕ) → times k (pos n) ≡ pos (k * n)
unfolding times
times-pos k n = refl

-- a literal's multiple of a negative number
pub times-negsuc : (k n : ℕ) → times k (negsuc n) ≡ neg_ℤ (pos (k * suc n))
unfolding times
times-negsuc k n = refl

-- the two parts of a literal's multiple, for `omega`
pub times_is : (k : ℕ) (z : ℤ) → (up (times k z) ≡ k * up z) × (down (times k z) ≡ k * down z)
unfolding times
times_is k z = omega (arith, product_is (pos k) z)

-- what a natural number as a factor does to the two parts of a number
pub literal_left : (k : ℕ) (z : ℤ) → (up (pos k *ℤ z) ≡ k * up z) × (down (pos k *ℤ z) ≡ k * down z)
literal_left k z = omega (arith, product_is (pos k) z)

-- the same on the right
pub literal_right : (k : ℕ) (z : ℤ) → (up (z *ℤ pos k) ≡ k * up z) × (down (z *ℤ pos k) ≡ k * down z)
literal_right k z = omega (arith, product_is z (pos k))

-- the same for a negative factor
pub negative_left : (k : ℕ) (z : ℤ) → (up (negsuc k *ℤ z) ≡ (k + 1) * down z) × (down (negsuc k *ℤ z) ≡ (k + 1) * up z)
negative_left k z = omega (arith, product_is (negsuc k) z)

-- the same on the right
pub negative_right : (k : ℕ) (z : ℤ) → (up (z *ℤ negsuc k) ≡ (k + 1) * down z) × (down (z *ℤ negsuc k) ≡ (k + 1) * up z)
negative_right k z = omega (arith, product_is z (negsuc k))

-- multiplies products out, and sorts the factors of each monomial, its literal in front as `times`
pub ruleset expand = (times_left, times_right, times_left_negative, times_right_negative, times-mul, mul-times, times-add, times-neg, times-times, times-pos, times-negsuc, mul_add, add_mul, mul_neg, neg_mul, neg_add, neg_neg, mul_assoc, mul_comm, mul_left_comm)

-- linear arithmetic over ℤ: each product is an unknown, but for literal factors
pub ruleset linear = (arith, same_out, Apart-out, lt_T, le_T, lt_not, le_not, lt-true, lt-false, le-true, le-false, true-lt, false-lt, true-le, false-le, not_negative_out, lt_out, le_out, same_in, lt_in, le_in, below_in, at_most_in, not_negative_in, true_is_lt, false_is_lt, true_is_le, false_is_le, sum_is_lem, neg_is, abs_is, times_is, literal_left, literal_right, negative_left, negative_right)

-- worked use: (x + y)²
pub square_of_sum : (x y : ℤ) → (x +ℤ y) *ℤ (x +ℤ y) ≡ x *ℤ x +ℤ pos 2 *ℤ (x *ℤ y) +ℤ y *ℤ y
square_of_sum x y = simp expand (omega linear)

-- worked use: (x - y)³
pub cube_of_difference : (x y : ℤ) → (x -ℤ y) *ℤ (x -ℤ y) *ℤ (x -ℤ y) ≡ x *ℤ x *ℤ x -ℤ pos 3 *ℤ (x *ℤ x *ℤ y) +ℤ pos 3 *ℤ (x *ℤ y *ℤ y) -ℤ y *ℤ y *ℤ y
cube_of_difference x y = simp expand (omega linear)

-- worked use: literals of either sign, in the midst of a product
pub literals_gather : (a b x y : ℤ) → (x *ℤ pos 3) *ℤ (a +ℤ negsuc 1 *ℤ b) *ℤ (pos 5 *ℤ y) ≡ pos 15 *ℤ (x *ℤ a *ℤ y) -ℤ pos 30 *ℤ (b *ℤ x *ℤ y)
literals_gather a b x y = simp expand (omega linear)
