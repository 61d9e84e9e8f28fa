use Rattle.generalised_reduce.proofs.ProductSteps.{by_high, by_low, by_rest}
use Rattle.generalised_reduce.proofs.products.is_part_below.Goals as goal

pub returns-then-left-right : goal.returns-then-left-right
returns-then-left-right c =
    by_high c.args.left.high c.args.right.high c.args.left.low c.args.right.low c.args.left.rest c.args.right.rest c.args.left_divisor c.args.right_divisor 170141183460469231731687303715884105728 c.requires.left_low c.requires.right_low c.requires.left_rest c.requires.right_rest c.if-left-right.true

pub returns-then-left-right-2 : goal.returns-then-left-right-2
returns-then-left-right-2 c =
    by_low c.args.left.high c.args.right.high c.args.left.low c.args.right.low c.args.left.rest c.args.right.rest c.args.left_divisor c.args.right_divisor 170141183460469231731687303715884105728 c.requires.left_rest c.requires.right_rest c.if-left-right.false c.if-left-right-2.true

pub returns : goal.returns
returns c =
    by_rest c.is_product_below.result c.args.left.high c.args.right.high c.args.left.low c.args.right.low c.args.left.rest c.args.right.rest c.args.left_divisor c.args.right_divisor 170141183460469231731687303715884105728 c.if-left-right.false c.if-left-right-2.false c.is_product_below.ensures
