use Rattle.std.proofs.Common.{◌≡◌, ◌≤◌, ◌<◌, ◌-◌, ◌*◌, ◌+◌, ◌^◌, ◌%◌, ℕ, pos, refl, sym, ap, ◌∙◌, arith, to_z}
use Rattle.std.specs.Int.{w128}
use Rattle.std.proofs.lemmas.Int.{to_z_pos}
use Rattle.std.proofs.lemmas.Nat.{mul-pow, pow-add}
use Rattle.std.proofs.Math.Nat.{pow-le-pow_right}
use Rattle.shown_widths.specs.Steps.{width_parts, IsFactorIn}
use Rattle.shown_widths.proofs.room.factor_in.Goals as goal
use Rattle.shown_widths.proofs.room.factor_in.Goals.{then-dimension-gt16, else-dimension-gt16}

-- powers of four rise
power : (i j : ℕ) → i ≤ j → 4 ^ i ≤ 4 ^ j
power i j h = pow-le-pow_right (omega arith) h

-- and are moved by two places
moved : (s : ℕ) → 2 ^ (2 * s) ≡ 4 ^ s
moved s = ap (λ k. 2 ^ k) (twice s) ∙ pow-add 2 s s ∙ sym (mul-pow 2 2 s)
  where
    twice : (s : ℕ) → 2 * s ≡ s + s
    twice s = omega arith

factor : (r s : ℕ) → s ≤ 16 → s ≤ r - 1 → IsFactorIn r (to_z w128 (65536 * 2 ^ (2 * s) % 340282366920938463463374607431768211456))
factor r s few most = record {
  times = 4 ^ s;
  is = ap (to_z w128) (within (2 ^ (2 * s)) (4 ^ s) (moved s) (power s 16 few)) ∙ to_z_pos w128 (65536 * 4 ^ s) (small (4 ^ s) (power s 16 few));
  some = power 0 s (omega arith);
  most = power s (r - 1) most;
}
  where
    within : (a b : ℕ) → a ≡ b → b ≤ 4 ^ 16 → 65536 * a % 340282366920938463463374607431768211456 ≡ 65536 * b
    within a b e h = omega (arith, e, h)

    small : (b : ℕ) → b ≤ 4 ^ 16 → 65536 * b < 2 ^ 127
    small b h = omega (arith, h)

pub returns : goal.returns
returns c =
    elim c.if-dimension-gt16.branch [
      | then-dimension-gt16 w ↦ factor c.args.dimension c.if-dimension-gt16.steps (omega (arith, w.steps-is)) (omega (arith, w.steps-is, w.if-dimension-gt16.true))
      | else-dimension-gt16 w ↦ factor c.args.dimension c.if-dimension-gt16.steps (omega (arith, w.steps-is, w.saturating_sub-steps.ensures, w.if-dimension-gt16.false)) (omega (arith, w.steps-is, w.saturating_sub-steps.ensures))
    ]
