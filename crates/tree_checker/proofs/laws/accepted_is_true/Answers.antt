use Rattle.tree_checker.proofs.Texts.{accepted_true}
use Rattle.tree_checker.proofs.laws.accepted_is_true.Goals as goal

pub returns : goal.returns
returns c = accepted_true
