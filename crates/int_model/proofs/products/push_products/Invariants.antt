use Rattle.exact_math.specs.Rational.{◌*ℚ◌}
use Rattle.int_model.proofs.CoefficientLaws.{IsFilledTo}
use Rattle.int_model.proofs.products.push_products.Given as goal

abbrev pub invariant-loop-column : goal.invariant-loop-column
invariant-loop-column l = IsFilledTo (λ q. (l.times *ℚ q).num) l.initial.numbers.items l.numbers.items l.items l.column l.at
