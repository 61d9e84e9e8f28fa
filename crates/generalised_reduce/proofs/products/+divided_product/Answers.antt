use Rattle.std.proofs.Common.{◌*◌, ◌∙◌, ap, arith}
use Rattle.generalised_reduce.proofs.ProductSteps.{even_value, odd_value, small_quotient}
use Rattle.generalised_reduce.proofs.products.+divided_product.Goals as goal

pub returns-then-times-eq0-clause-value : goal.returns-then-times-eq0-clause-value
returns-then-times-eq0-clause-value t c = omega (arith, ap (λ k. k * c.args.number) c.if-times-eq0.true)

pub returns-then-times-eq0-2-clause-value : goal.returns-then-times-eq0-2-clause-value
returns-then-times-eq0-2-clause-value t c = even_value c.args.times c.args.number _ (c.doubled-double.ensures.value ∙ ap (λ k. 2 * k) c.divided_product.ensures.value) c.if-times-eq0-2.true

pub returns-then-times-eq0-2-clause-whole : goal.returns-then-times-eq0-2-clause-whole
returns-then-times-eq0-2-clause-whole t c =
    small_quotient c.doubled-double.result.whole c.doubled-double.result.rest c.args.divisor c.args.times c.args.number (even_value c.args.times c.args.number _ (c.doubled-double.ensures.value ∙ ap (λ k. 2 * k) c.divided_product.ensures.value) c.if-times-eq0-2.true) c.requires.number

pub returns-clause-value : goal.returns-clause-value
returns-clause-value t c = c.increased.ensures.value ∙ odd_value c.args.times c.args.number _ (c.doubled-double.ensures.value ∙ ap (λ k. 2 * k) c.divided_product.ensures.value) c.if-times-eq0-2.false

pub returns-clause-whole : goal.returns-clause-whole
returns-clause-whole t c =
    small_quotient c.increased.result.whole c.increased.result.rest c.args.divisor c.args.times c.args.number (c.increased.ensures.value ∙ odd_value c.args.times c.args.number _ (c.doubled-double.ensures.value ∙ ap (λ k. 2 * k) c.divided_product.ensures.value) c.if-times-eq0-2.false) c.requires.number
