use Rattle.presolve_map.proofs.ViolateLaws.{can_violate-is}
use Rattle.presolve_map.proofs.laws.needed_row_is_violated_within_the_box.Goals as goal

pub returns : goal.returns
returns c = λ box row open_box dense. can_violate-is box row open_box dense
