use Rattle.farkas_rows.specs.NodeLaws.{Refutes-no_point}
use Rattle.farkas_rows.proofs.laws.refuted_node_has_no_point.Goals as goal

pub returns : goal.returns
returns c = Refutes-no_point
