-- The order of the whole numbers under products. `omega linear` finds the linear combination once the products are given, as the two worked uses at the end show.
use Rattle.std.proofs.Common.{◌≡◌, ℕ, suc, zero, ◌+◌, ◌*◌, ◌≤◌, ◌⊎◌, ℤ, pos, negsuc, ◌+ℤ◌, ◌-ℤ◌, ◌*ℤ◌, ◌≤ℤ◌, ◌<ℤ◌, neg_ℤ, nat_abs, refl, arith, ⊎_elim, mul-le-mul}
use Rattle.std.proofs.lemmas.Int.{unsigned_abs-mul}
use Rattle.exact_math.specs.Ordered.{IsOrdered}
use Rattle.exact_math.specs.Ring.{integers}
use Rattle.exact_math.specs.IntegerRing.{expand, linear, mul_comm, mul_neg, neg_mul}

-- a number is at most itself
pub le_refl : (a : ℤ) → a ≤ℤ a
le_refl a = omega linear

-- the order is transitive
pub le_trans : (a b c : ℤ) → a ≤ℤ b → b ≤ℤ c → a ≤ℤ c
le_trans a b c h k = omega linear

-- two numbers that are at most each other are equal
pub le_antisym : (a b : ℤ) → a ≤ℤ b → b ≤ℤ a → a ≡ b
le_antisym a b h k = omega linear

-- of two numbers one is at most the other, or above it
pub le_or_lt : (a b : ℤ) → (a ≤ℤ b) ⊎ (b <ℤ a)
le_or_lt a b = grind linear

-- inequalities are added
pub add_le : (a b c d : ℤ) → a ≤ℤ b → c ≤ℤ d → (a +ℤ c) ≤ℤ (b +ℤ d)
add_le a b c d h k = omega linear

-- a sign turns an inequality round
pub neg_le : (a b : ℤ) → a ≤ℤ b → neg_ℤ b ≤ℤ neg_ℤ a
neg_le a b h = omega linear

-- a product of numbers that are not negative is not negative
pub mul_nonneg : (a b : ℤ) → pos 0 ≤ℤ a → pos 0 ≤ℤ b → pos 0 ≤ℤ (a *ℤ b)
mul_nonneg (pos a) (pos b) h k = omega linear
mul_nonneg (pos a) (negsuc b) h k = absurd (omega linear)
mul_nonneg (negsuc a) b h k = absurd (omega linear)

-- a product of positive numbers is positive
pub mul_pos : (a b : ℤ) → pos 0 <ℤ a → pos 0 <ℤ b → pos 0 <ℤ (a *ℤ b)
mul_pos (pos (suc a)) (pos (suc b)) h k = omega linear
mul_pos (pos zero) b h k = absurd (omega linear)
mul_pos (pos (suc a)) (pos zero) h k = absurd (omega linear)
mul_pos (pos (suc a)) (negsuc b) h k = absurd (omega linear)
mul_pos (negsuc a) b h k = absurd (omega linear)

-- a square is not negative
pub square_nonneg : (a : ℤ) → pos 0 ≤ℤ (a *ℤ a)
square_nonneg (pos a) = omega linear
square_nonneg (negsuc a) = omega linear

-- the square of a number other than zero is positive
pub square_pos : (a : ℤ) → ¬ (a ≡ pos 0) → pos 0 <ℤ (a *ℤ a)
square_pos (pos zero) n = absurd (n refl)
square_pos (pos (suc a)) n = omega linear
square_pos (negsuc a) n = omega linear

-- an inequality is multiplied by a number that is not negative
pub mul_le : (a x y : ℤ) → pos 0 ≤ℤ a → x ≤ℤ y → (a *ℤ x) ≤ℤ (a *ℤ y)
mul_le a x y h k =
    let d : pos 0 ≤ℤ (y -ℤ x) = omega linear in
    omega (linear, simp expand at (mul_nonneg a (y -ℤ x) h d), mul_comm a x, mul_comm a y)

-- the same on the right
pub mul_le_right : (a x y : ℤ) → pos 0 ≤ℤ a → x ≤ℤ y → (x *ℤ a) ≤ℤ (y *ℤ a)
mul_le_right a x y h k = omega (linear, mul_le a x y h k, mul_comm a x, mul_comm a y)

-- an inequality is turned round by a factor that is not positive
pub mul_le_reversed : (a x y : ℤ) → a ≤ℤ pos 0 → x ≤ℤ y → (a *ℤ y) ≤ℤ (a *ℤ x)
mul_le_reversed a x y h k =
    let n : pos 0 ≤ℤ neg_ℤ a = omega linear in
    omega (linear, mul_le (neg_ℤ a) x y n k, neg_mul a x, neg_mul a y)

-- a strict inequality is multiplied by a positive number
pub mul_lt : (a x y : ℤ) → pos 0 <ℤ a → x <ℤ y → (a *ℤ x) <ℤ (a *ℤ y)
mul_lt a x y h k =
    let d : pos 0 <ℤ (y -ℤ x) = omega linear in
    omega (linear, simp expand at (mul_pos a (y -ℤ x) h d), mul_comm a x, mul_comm a y)

-- both factors grow, and none is negative
pub mul_le_mul : (a b x y : ℤ) → pos 0 ≤ℤ a → a ≤ℤ b → pos 0 ≤ℤ x → x ≤ℤ y → (a *ℤ x) ≤ℤ (b *ℤ y)
mul_le_mul a b x y ha h hx k =
    let hb : pos 0 ≤ℤ b = omega linear in
    le_trans (a *ℤ x) (b *ℤ x) (b *ℤ y) (mul_le_right x a b hx h) (mul_le b x y hb k)

-- a product of a number that is not negative and one that is not positive is not positive
pub mul_nonpos : (a b : ℤ) → pos 0 ≤ℤ a → b ≤ℤ pos 0 → (a *ℤ b) ≤ℤ pos 0
mul_nonpos a b h k =
    let n : pos 0 ≤ℤ neg_ℤ b = omega linear in
    omega (linear, mul_nonneg a (neg_ℤ b) h n, mul_neg a b)

-- a positive factor is cancelled from an inequality
pub le_of_mul_le : (a x y : ℤ) → pos 0 <ℤ a → (a *ℤ x) ≤ℤ (a *ℤ y) → x ≤ℤ y
le_of_mul_le a x y h k = ⊎_elim (λ s. s) (λ s. absurd (omega (linear, mul_lt a y x h s))) (le_or_lt x y)

-- a positive factor is cancelled from a strict inequality
pub lt_of_mul_lt : (a x y : ℤ) → pos 0 <ℤ a → (a *ℤ x) <ℤ (a *ℤ y) → x <ℤ y
lt_of_mul_lt a x y h k =
    let p : pos 0 ≤ℤ a = omega linear in
    ⊎_elim (λ s. absurd (omega (linear, mul_le a y x p s))) (λ s. s) (le_or_lt y x)

-- a number of which a positive multiple is not negative is not negative
pub nonneg_of_mul : (a x : ℤ) → pos 0 <ℤ a → pos 0 ≤ℤ (a *ℤ x) → pos 0 ≤ℤ x
nonneg_of_mul a x h k = le_of_mul_le a (pos 0) x h (omega linear)

-- a product is zero only where a factor is
pub zero_of_mul : (a x : ℤ) → ¬ (a ≡ pos 0) → a *ℤ x ≡ pos 0 → x ≡ pos 0
zero_of_mul (pos zero) x n e = absurd (n refl)
zero_of_mul (pos (suc a)) (pos zero) n e = refl
zero_of_mul (pos (suc a)) (pos (suc x)) n e = omega linear
zero_of_mul (pos (suc a)) (negsuc x) n e = omega linear
zero_of_mul (negsuc a) (pos zero) n e = refl
zero_of_mul (negsuc a) (pos (suc x)) n e = omega linear
zero_of_mul (negsuc a) (negsuc x) n e = omega linear

-- a factor other than zero is cancelled from an equation
pub mul_cancel : (a x y : ℤ) → ¬ (a ≡ pos 0) → a *ℤ x ≡ a *ℤ y → x ≡ y
mul_cancel a x y n e =
    let z : a *ℤ (x -ℤ y) ≡ pos 0 = simp expand (omega (linear, e, mul_comm a x, mul_comm a y)) in
    omega (linear, zero_of_mul a (x -ℤ y) n z)

-- the absolute value of a product
pub abs_mul : (a x : ℤ) → nat_abs (a *ℤ x) ≡ nat_abs a * nat_abs x
abs_mul a x = unsigned_abs-mul a x

-- bounds of two absolute values bound that of the product
pub abs_mul_le : (a x : ℤ) (m n : ℕ) → nat_abs a ≤ m → nat_abs x ≤ n → nat_abs (a *ℤ x) ≤ m * n
abs_mul_le a x m n h k = omega (arith, abs_mul a x, mul-le-mul h k)

-- the absolute value of a sum is at most the sum of the absolute values
pub abs_add_le : (a b : ℤ) → nat_abs (a +ℤ b) ≤ nat_abs a + nat_abs b
abs_add_le a b = omega linear

-- a number lies between its absolute value and minus that
pub abs_bounds : (a : ℤ) → (a ≤ℤ pos (nat_abs a)) × (neg_ℤ (pos (nat_abs a)) ≤ℤ a)
abs_bounds a = omega linear

-- a number between -n and n has an absolute value of at most n
pub abs_le : (a : ℤ) (n : ℕ) → a ≤ℤ pos n → neg_ℤ (pos n) ≤ℤ a → nat_abs a ≤ n
abs_le a n h k = omega linear

-- the whole numbers are ordered
pub integers_ordered : IsOrdered integers ◌≤ℤ◌
integers_ordered = record { le_refl = le_refl; le_trans = le_trans; add_le = add_le; mul_nonneg = mul_nonneg }

-- worked use: weak duality for two rows and two columns
pub weak_duality_of_two : (a b c d p q r s x y u v : ℤ) → pos 0 ≤ℤ x → pos 0 ≤ℤ y → pos 0 ≤ℤ u → pos 0 ≤ℤ v → (a *ℤ x +ℤ b *ℤ y) ≤ℤ p → (c *ℤ x +ℤ d *ℤ y) ≤ℤ q → r ≤ℤ (u *ℤ a +ℤ v *ℤ c) → s ≤ℤ (u *ℤ b +ℤ v *ℤ d) → (r *ℤ x +ℤ s *ℤ y) ≤ℤ (u *ℤ p +ℤ v *ℤ q)
weak_duality_of_two a b c d p q r s x y u v hx hy hu hv row_p row_q column_r column_s =
    simp expand (omega (linear, simp expand at (mul_le u _ _ hu row_p), simp expand at (mul_le v _ _ hv row_q), simp expand at (mul_le x _ _ hx column_r), simp expand at (mul_le y _ _ hy column_s)))

-- worked use: four times a product is at most the square of the sum (arithmetic and geometric mean)
pub geometric_mean_le : (a b : ℤ) → (pos 4 *ℤ (a *ℤ b)) ≤ℤ ((a +ℤ b) *ℤ (a +ℤ b))
geometric_mean_le a b = simp expand (omega (linear, simp expand at (square_nonneg (a -ℤ b))))

-- worked use: the inequality of Cauchy and Schwarz for three products
pub cauchy_schwarz_of_three : (a b c x y z : ℤ) → ((a *ℤ x +ℤ b *ℤ y +ℤ c *ℤ z) *ℤ (a *ℤ x +ℤ b *ℤ y +ℤ c *ℤ z)) ≤ℤ ((a *ℤ a +ℤ b *ℤ b +ℤ c *ℤ c) *ℤ (x *ℤ x +ℤ y *ℤ y +ℤ z *ℤ z))
cauchy_schwarz_of_three a b c x y z =
    simp expand (omega (linear, simp expand at (square_nonneg (a *ℤ y -ℤ b *ℤ x)), simp expand at (square_nonneg (a *ℤ z -ℤ c *ℤ x)), simp expand at (square_nonneg (b *ℤ z -ℤ c *ℤ y))))

-- worked use: fractions a / b ≤ c / d ≤ e / f, compared by their cross products
pub cross_products_trans : (a b c d e f : ℤ) → pos 0 <ℤ b → pos 0 <ℤ d → pos 0 <ℤ f → (a *ℤ d) ≤ℤ (c *ℤ b) → (c *ℤ f) ≤ℤ (e *ℤ d) → (a *ℤ f) ≤ℤ (e *ℤ b)
cross_products_trans a b c d e f hb hd hf h k =
    le_of_mul_le d (a *ℤ f) (e *ℤ b) hd (simp expand (omega (linear, simp expand at (mul_le f _ _ (omega linear) h), simp expand at (mul_le b _ _ (omega linear) k))))

-- worked use: `q` is a / d rounded down, so it is the greatest number with q d ≤ a
pub rounded_down_is_greatest : (a d q s : ℤ) → pos 0 <ℤ d → a <ℤ (q *ℤ d +ℤ d) → (s *ℤ d) ≤ℤ a → s ≤ℤ q
rounded_down_is_greatest a d q s hd h k = ⊎_elim (λ g. g) (λ g. absurd (omega (linear, simp expand at (mul_le d (q +ℤ pos 1) s (omega linear) (omega linear)), mul_comm q d, mul_comm s d))) (le_or_lt s q)
