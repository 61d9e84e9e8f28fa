use Rattle.proof_tree.specs.Soundness.{holding_is_sound, best_is_shown, none_is_shown}
use Rattle.proof_tree.proofs.laws.holding_tree_is_sound.Goals as goal

pub returns-clause-no_better : goal.returns-clause-no_better
returns-clause-no_better c = λ rows last path tree x limits forms holds meets on. holding_is_sound rows last x limits meets path tree forms holds on

pub returns-clause-best : goal.returns-clause-best
returns-clause-best c = best_is_shown

pub returns-clause-none : goal.returns-clause-none
returns-clause-none c = none_is_shown
