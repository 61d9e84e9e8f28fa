use Rattle.generalised_reduce.proofs.ProductSteps.{multiple_value}
use Rattle.generalised_reduce.proofs.products.multiple_of.Goals as goal

pub returns-clause-value : goal.returns-clause-value
returns-clause-value c = multiple_value c.args.times c.args.size c.args.divisor 170141183460469231731687303715884105728 c.divided_product-above.result.rest c.divided_product-above.result.whole c.divided_product-below.result.whole c.divided_product-below.result.rest c.divided_product-above.ensures.value c.divided_product-below.ensures.value
