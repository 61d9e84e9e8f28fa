use Rattle.generalised_reduce.proofs.products.+divided_product.Given as goal

abbrev pub decreases-divided_product : goal.decreases-divided_product
decreases-divided_product l = l.times
