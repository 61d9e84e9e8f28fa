use Rattle.std.proofs.Common.{◌∙◌}
use Rattle.spaces.specs.Maps.{CompositionStays}
use Rattle.spaces.specs.Tables.{rows_in}
use Rattle.reformulate.specs.Excuses.{MatricesStay}
use Rattle.reformulate.proofs.ProductSteps.{product_stays, stop_handed_on}
use Rattle.reformulate.proofs.products.product.Goals as goal

pub returns-in_err-composed-clause-stop : goal.returns-in_err-composed-clause-stop
returns-in_err-composed-clause-stop c =
    stop_handed_on (CompositionStays c.of-first.result c.of-next.result) (MatricesStay c.args.right.width (rows_in c.args.left) (rows_in c.args.right)) c.in_err-composed.field-0.0 c.from_residual-in_err-composed.result
    c.from_residual-in_err-composed.ensures.1
    (product_stays c.of-first.result c.of-next.result c.args.left c.args.right c.of.result c.of-2.result c.rows.result c.rows-2.result c.of-first.ensures c.of-next.ensures (c.of.ensures ∙ c.in_ok-inner.ensures.items_if_clones_equal (λ x e. e)) (c.of-2.ensures ∙ c.in_ok-outer.ensures.items_if_clones_equal (λ x e. e)))
    c.in_err-composed.ensures.stop
