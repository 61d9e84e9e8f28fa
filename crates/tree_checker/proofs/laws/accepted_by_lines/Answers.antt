use Rattle.tree_checker.proofs.Texts.{accepted_passes, passes_accepted}
use Rattle.tree_checker.proofs.laws.accepted_by_lines.Goals as goal

pub returns-clause-passes : goal.returns-clause-passes
returns-clause-passes c = accepted_passes

pub returns-clause-accepted : goal.returns-clause-accepted
returns-clause-accepted c = λ rows text claim. passes_accepted rows text claim c.args._alloc
