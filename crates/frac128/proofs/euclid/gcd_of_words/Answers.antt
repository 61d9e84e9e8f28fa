use Rattle.std.proofs.Common.{ap, sym, ◌∙◌, arith}
use Rattle.std.specs.Int.{w64}
use Rattle.exact_math.specs.Gcd.{gcd}
use Rattle.exact_math.specs.GcdLaws.{gcd-zero, gcd-zero_left, gcd-one, gcd-one_left}
use Rattle.frac128.proofs.BinaryGcd.{odd_part, words_are}
use Rattle.frac128.proofs.euclid.gcd_of_words.Goals as goal
use Rattle.frac128.proofs.euclid.gcd_of_words.Goals.{then-a-eq1-via-then-a-eq1, then-a-eq1-via-else-a-eq1+then-b-eq1}

pub returns-then-a-eq0 : goal.returns-then-a-eq0
returns-then-a-eq0 c = sym (ap (λ n. gcd n c.args.b) c.if-a-eq0.true ∙ gcd-zero_left c.args.b)

pub returns-then-b-eq0 : goal.returns-then-b-eq0
returns-then-b-eq0 c = sym (ap (gcd c.args.a) c.if-b-eq0.true ∙ gcd-zero c.args.a)

pub gcd_of_odd-requires-clause-a_odd : goal.gcd_of_odd-requires-clause-a_odd
gcd_of_odd-requires-clause-a_odd c = odd_part w64 c.args.a (omega arith) (omega arith)

pub gcd_of_odd-requires-clause-b_odd : goal.gcd_of_odd-requires-clause-b_odd
gcd_of_odd-requires-clause-b_odd c = odd_part w64 c.args.b (omega arith) (omega arith)

pub returns : goal.returns
returns c =
    words_are w64 c.args.a c.args.b c.gcd_of_odd.result c.min-common.result (omega arith) (omega arith) (omega arith) (omega arith) c.gcd_of_odd.ensures c.min-common.ensures

pub returns-then-a-eq1 : goal.returns-then-a-eq1
returns-then-a-eq1 c = elim c.then-a-eq1.branch [
  | then-a-eq1-via-then-a-eq1 w ↦ sym (ap (λ n. gcd n c.args.b) w.if-a-eq1.true ∙ gcd-one_left c.args.b)
  | then-a-eq1-via-else-a-eq1+then-b-eq1 w ↦ sym (ap (gcd c.args.a) w.if-b-eq1.true ∙ gcd-one c.args.a)
]
