use Rattle.node_point.specs.RationalPoints.{IsRationalPoint}
use Rattle.spaces.specs.Maps.{pulled_constant, pulled_form}
use Rattle.farkas_lift.specs.NodeEqualities.{work_form}
use Rattle.node_regions.specs.CoordinateLaws.{coordinates_match, points_match}
use Rattle.node_regions.specs.EndLaws.{slices_from_ends}
use Rattle.node_regions.specs.LightFormLaws.{pulled-back, value_greatest, value_least}
use Rattle.node_regions.specs.NodeRegions.{IsInNode}
use Rattle.node_regions.proofs.laws.forms_of_coordinates.Goals as goal

pub returns-clause-pulled : goal.returns-clause-pulled
returns-clause-pulled c = pulled-back

pub returns-clause-least : goal.returns-clause-least
returns-clause-least c = value_least

pub returns-clause-greatest : goal.returns-clause-greatest
returns-clause-greatest c = value_greatest

pub returns-clause-slices : goal.returns-clause-slices
returns-clause-slices c = λ n form low high long keeps ends.
    slices_from_ends (IsRationalPoint n.model n.path n.cut) (IsInNode n.frame n.work n.cut) form (pulled_form n.frame.to_work (work_form n.work form)) (pulled_constant n.frame.to_work (work_form n.work form)) low high
    (coordinates_match n.model n.work n.frame n.path n.cut n.limits n.reduced n.forms n.kept n.shaped n.columns n.framed form long keeps)
    (points_match n.model n.work n.frame n.path n.cut n.limits n.reduced n.forms n.kept n.shaped n.columns n.framed form long keeps)
    ends.low_there ends.high_there ends.least ends.greatest
