use Rattle.tree_checker.proofs.OneVerdict.{one_verdict_of}
use Rattle.tree_checker.proofs.laws.one_verdict.Goals as goal

pub returns : goal.returns
returns c = one_verdict_of
