use Rattle.node_regions.specs.CoordinateLaws.{coordinates_of_point, point-again, point_of_coordinates, region_is_bounded, value_at_coordinates}
use Rattle.node_regions.proofs.laws.node_coordinates.Goals as goal

pub returns-clause-point : goal.returns-clause-point
returns-clause-point c = λ n y there. point_of_coordinates n.model n.work n.frame n.path n.cut n.limits n.reduced n.forms n.kept n.shaped n.columns n.framed y there

pub returns-clause-coordinates : goal.returns-clause-coordinates
returns-clause-coordinates c = λ n x point. coordinates_of_point n.model n.work n.frame n.path n.cut n.limits n.reduced n.forms n.kept n.shaped n.columns n.framed x point

pub returns-clause-again : goal.returns-clause-again
returns-clause-again c = λ n x point. point-again n.model n.work n.frame n.path n.cut n.limits n.reduced n.forms n.kept n.shaped n.columns n.framed x point

pub returns-clause-value : goal.returns-clause-value
returns-clause-value c = λ n form y long keeps there. value_at_coordinates n.model n.work n.frame n.path n.cut n.limits n.reduced n.forms n.kept n.shaped n.columns n.framed form y long keeps there

pub returns-clause-bounded : goal.returns-clause-bounded
returns-clause-bounded c = λ n. region_is_bounded n.model n.work n.frame n.path n.cut n.limits n.reduced n.forms n.kept n.shaped n.columns n.framed
