use Rattle.node_regions.specs.NodePointLaws as Points
use Rattle.node_regions.proofs.points.regions_have_the_points_of_nodes.Goals as goal

pub returns-clause-inward : goal.returns-clause-inward
returns-clause-inward c = λ model work frame path cut x limits shaped framed. Points.inward model work frame path cut limits shaped framed x

pub returns-clause-outward : goal.returns-clause-outward
returns-clause-outward c = λ model work frame path cut y limits shaped framed. Points.outward model work frame path cut limits shaped framed y

pub returns-clause-values : goal.returns-clause-values
returns-clause-values c = λ model work frame path cut x y form limits shaped framed. Points.values model work frame path cut limits shaped framed x y form
