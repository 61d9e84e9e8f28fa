use Rattle.exact_math.specs.RationalLaws.{same_frac, frac-self}
use Rattle.exact_math.specs.RationalRing as ring
use Rattle.exact_math.specs.RationalOrder as order
use Rattle.exact_math.proofs.rationals.rational_numbers.Goals as goal

pub returns : goal.returns
returns c = record {
  same_fraction = same_frac;
  every_fraction = frac-self;
  add_assoc = ring.add_assoc;
  add_comm = ring.add_comm;
  add_zero = ring.add_zero;
  add_neg = ring.add_neg;
  mul_assoc = ring.mul_assoc;
  mul_comm = ring.mul_comm;
  mul_one = ring.mul_one;
  mul_add = ring.mul_add;
  mul_inverse = ring.mul_inv;
  le_trans = order.le_trans;
  le_antisym = order.le_antisym;
  le_or_lt = order.le_or_lt;
  add_le = order.add_le;
  mul_nonneg = order.mul_nonneg;
}
