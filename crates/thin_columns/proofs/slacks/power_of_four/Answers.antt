use Rattle.std.proofs.Common.{◌≤◌, ◌-◌, ◌^◌, ℕ, arith}
use Rattle.std.proofs.Math.Nat.{pow-le-pow_right}
use Rattle.thin_columns.proofs.slacks.power_of_four.Goals as goal

-- powers of four rise
power : (i j : ℕ) → i ≤ j → 4 ^ i ≤ 4 ^ j
power i j h = pow-le-pow_right (omega arith) h

pub pow-requires : goal.pow-requires
pow-requires c = omega (arith, power c.min-exponent.result 20 (omega (arith, c.min-exponent.ensures)))

pub returns-clause-positive : goal.returns-clause-positive
returns-clause-positive c = omega (arith, c.pow.ensures, power 0 c.min-exponent.result (omega arith))

pub returns-clause-most : goal.returns-clause-most
returns-clause-most c = omega (arith, c.pow.ensures, power c.min-exponent.result (c.args.dimension - 1) (omega (arith, c.min-exponent.ensures)))

pub returns-clause-small : goal.returns-clause-small
returns-clause-small c = omega (arith, c.pow.ensures, power c.min-exponent.result 20 (omega (arith, c.min-exponent.ensures)))
