use Rattle.node_regions.specs.PlacedPointLaws.{placed-kept, point_is_kept, reduced_point_is_placed}
use Rattle.node_regions.proofs.laws.reduced_points.Goals as goal

pub returns-clause-placed : goal.returns-clause-placed
returns-clause-placed c = λ rows work path cut w limits reduced forms kept_path point. reduced_point_is_placed rows work path cut w limits reduced forms kept_path point

pub returns-clause-kept : goal.returns-clause-kept
returns-clause-kept c = λ rows work path cut x limits reduced forms kept_path point. point_is_kept rows work path cut x limits reduced forms kept_path point

pub returns-clause-same : goal.returns-clause-same
returns-clause-same c = λ rows path cut x point. placed-kept rows.box x point.in_box
