use Rattle.node_regions.specs.SystemLaws.{lines-narrow, polytope-system, sides-count}
use Rattle.node_regions.proofs.laws.node_systems.Goals as goal

pub returns-clause-polytope : goal.returns-clause-polytope
returns-clause-polytope c = polytope-system

pub returns-clause-count : goal.returns-clause-count
returns-clause-count c = sides-count

pub returns-clause-lines : goal.returns-clause-lines
returns-clause-lines c = lines-narrow
