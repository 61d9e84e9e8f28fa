-- The ring laws of the whole numbers ℤ, each over plain variables. `IntegerRing.antt` passes them on, with the rulesets that use them.
use Rattle.std.specs.Prelude.{◌≡◌, ◌*◌, ℤ, pos, negsuc, ◌+ℤ◌, ◌*ℤ◌, neg_ℤ}
use Rattle.std.proofs.Common.{sym, ap, ◌∙◌, arith}
use Rattle.std.proofs.Math.IntN.{zero-*ℤ, *ℤ-zero, *ℤ_comm, +ℤ_idr, +ℤ_idl, neg_ℤ-+ℤ, neg_ℤ-neg_ℤ}
use borrow.Author.Differences.{up, down, same_in, sum_is_lem, neg_is, product_is}

-- a product of three, bracketed to the right
pub mul_assoc : (a b c : ℤ) → (a *ℤ b) *ℤ c ≡ a *ℤ (b *ℤ c)
mul_assoc a b c =
    let ab = product_is a b in
    let bc = product_is b c in
    same_in ((a *ℤ b) *ℤ c) (a *ℤ (b *ℤ c)) (omega (arith, product_is (a *ℤ b) c, product_is a (b *ℤ c), ap (λ x. x * up c) ab.0, ap (λ x. x * down c) ab.0, ap (λ x. x * up c) ab.1, ap (λ x. x * down c) ab.1, ap (λ x. up a * x) bc.0, ap (λ x. down a * x) bc.0, ap (λ x. up a * x) bc.1, ap (λ x. down a * x) bc.1))

-- a factor on the left goes into a sum
pub mul_add : (a b c : ℤ) → a *ℤ (b +ℤ c) ≡ a *ℤ b +ℤ a *ℤ c
mul_add a b c =
    let s = sum_is_lem b c in
    same_in (a *ℤ (b +ℤ c)) (a *ℤ b +ℤ a *ℤ c) (omega (arith, product_is a (b +ℤ c), product_is a b, product_is a c, sum_is_lem (a *ℤ b) (a *ℤ c), ap (λ x. up a * x) s, ap (λ x. down a * x) s))

-- a factor on the right goes into a sum
pub add_mul : (a b c : ℤ) → (a +ℤ b) *ℤ c ≡ a *ℤ c +ℤ b *ℤ c
add_mul a b c = *ℤ_comm (a +ℤ b) c ∙ mul_add c a b ∙ ap (λ x. x +ℤ c *ℤ b) (*ℤ_comm c a) ∙ ap (λ x. a *ℤ c +ℤ x) (*ℤ_comm c b)

-- a sign on the right factor is the product's
pub mul_neg : (a b : ℤ) → a *ℤ neg_ℤ b ≡ neg_ℤ (a *ℤ b)
mul_neg a b =
    let n = neg_is b in
    same_in (a *ℤ neg_ℤ b) (neg_ℤ (a *ℤ b)) (omega (arith, product_is a (neg_ℤ b), product_is a b, neg_is (a *ℤ b), ap (λ x. up a * x) n.0, ap (λ x. down a * x) n.0, ap (λ x. up a * x) n.1, ap (λ x. down a * x) n.1))

-- a sign on the left factor is the product's
pub neg_mul : (a b : ℤ) → neg_ℤ a *ℤ b ≡ neg_ℤ (a *ℤ b)
neg_mul a b = *ℤ_comm (neg_ℤ a) b ∙ mul_neg b a ∙ ap neg_ℤ (*ℤ_comm b a)

-- two factors change places before a third
pub mul_left_comm : (a b c : ℤ) → a *ℤ (b *ℤ c) ≡ b *ℤ (a *ℤ c)
mul_left_comm a b c = sym (mul_assoc a b c) ∙ ap (λ x. x *ℤ c) (*ℤ_comm a b) ∙ mul_assoc b a c

-- one is neutral on the left
pub one_mul : (a : ℤ) → pos 1 *ℤ a ≡ a
one_mul a = same_in (pos 1 *ℤ a) a (omega (arith, product_is (pos 1) a))

-- one is neutral on the right
pub mul_one : (a : ℤ) → a *ℤ pos 1 ≡ a
mul_one a = *ℤ_comm a (pos 1) ∙ one_mul a

-- zero times a number is zero
pub zero_mul : (a : ℤ) → pos 0 *ℤ a ≡ pos 0
zero_mul a = zero-*ℤ a

-- a number times zero is zero
pub mul_zero : (a : ℤ) → a *ℤ pos 0 ≡ pos 0
mul_zero a = *ℤ-zero a

-- minus one on the left is a sign
pub minus_one_mul : (a : ℤ) → negsuc 0 *ℤ a ≡ neg_ℤ a
minus_one_mul a = neg_mul (pos 1) a ∙ ap neg_ℤ (one_mul a)

-- a number and its negation cancel
pub add_neg : (a : ℤ) → a +ℤ neg_ℤ a ≡ pos 0
add_neg a = same_in (a +ℤ neg_ℤ a) (pos 0) (omega (arith, sum_is_lem a (neg_ℤ a), neg_is a))

-- sums may be bracketed anew
pub add_assoc : (a b c : ℤ) → (a +ℤ b) +ℤ c ≡ a +ℤ (b +ℤ c)
add_assoc a b c = same_in ((a +ℤ b) +ℤ c) (a +ℤ (b +ℤ c)) (omega (arith, sum_is_lem (a +ℤ b) c, sum_is_lem a (b +ℤ c), sum_is_lem a b, sum_is_lem b c))

-- two summands change places
pub add_comm : (a b : ℤ) → a +ℤ b ≡ b +ℤ a
add_comm a b = same_in (a +ℤ b) (b +ℤ a) (omega (arith, sum_is_lem a b, sum_is_lem b a))

-- two summands change places before a third
pub add_left_comm : (a b c : ℤ) → a +ℤ (b +ℤ c) ≡ b +ℤ (a +ℤ c)
add_left_comm a b c = same_in (a +ℤ (b +ℤ c)) (b +ℤ (a +ℤ c)) (omega (arith, sum_is_lem a (b +ℤ c), sum_is_lem b (a +ℤ c), sum_is_lem a c, sum_is_lem b c))

-- zero is neutral on the right
pub add_zero : (a : ℤ) → a +ℤ pos 0 ≡ a
add_zero a = +ℤ_idr a

-- two factors change places
pub mul_comm : (a b : ℤ) → a *ℤ b ≡ b *ℤ a
mul_comm a b = *ℤ_comm a b

-- zero is neutral on the left
pub zero_add : (a : ℤ) → pos 0 +ℤ a ≡ a
zero_add a = +ℤ_idl a

-- a sign goes into a sum
pub neg_add : (a b : ℤ) → neg_ℤ (a +ℤ b) ≡ neg_ℤ a +ℤ neg_ℤ b
neg_add a b = neg_ℤ-+ℤ a b

-- two signs cancel
pub neg_neg : (a : ℤ) → neg_ℤ (neg_ℤ a) ≡ a
neg_neg a = neg_ℤ-neg_ℤ a
