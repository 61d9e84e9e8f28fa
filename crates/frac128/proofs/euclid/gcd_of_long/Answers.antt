use Rattle.std.proofs.Common.{arith}
use Rattle.std.specs.Int.{w128}
use Rattle.frac128.proofs.BinaryGcd.{odd_part, words_are}
use Rattle.frac128.proofs.euclid.gcd_of_long.Goals as goal

pub gcd_of_long_odd-requires-clause-a_odd : goal.gcd_of_long_odd-requires-clause-a_odd
gcd_of_long_odd-requires-clause-a_odd c = odd_part w128 c.args.a c.requires.a_positive (omega arith)

pub gcd_of_long_odd-requires-clause-b_odd : goal.gcd_of_long_odd-requires-clause-b_odd
gcd_of_long_odd-requires-clause-b_odd c = odd_part w128 c.args.b c.requires.b_positive (omega arith)

pub returns : goal.returns
returns c =
    words_are w128 c.args.a c.args.b c.gcd_of_long_odd.result c.min-common.result c.requires.a_positive c.requires.b_positive (omega arith) (omega arith) c.gcd_of_long_odd.ensures c.min-common.ensures
