use Rattle.exact_vectors.specs.SumLaws as Sums
use Rattle.exact_vectors.specs.DotLaws as Dot
use Rattle.exact_vectors.proofs.dot_product_laws.Goals as goal

pub returns-clause-symmetric : goal.returns-clause-symmetric
returns-clause-symmetric g c = Dot.dot_comm

pub returns-clause-added : goal.returns-clause-added
returns-clause-added g c = Dot.dot-add_left

pub returns-clause-scaled : goal.returns-clause-scaled
returns-clause-scaled g c = Dot.dot-scale_left

pub returns-clause-joined : goal.returns-clause-joined
returns-clause-joined g c = Dot.dot-append

pub returns-clause-one_item : goal.returns-clause-one_item
returns-clause-one_item g c = Dot.dot-set_left

pub returns-clause-suffix : goal.returns-clause-suffix
returns-clause-suffix g c = Dot.dot-drop

pub returns-clause-by_index : goal.returns-clause-by_index
returns-clause-by_index g c = Sums.dot-by_index
