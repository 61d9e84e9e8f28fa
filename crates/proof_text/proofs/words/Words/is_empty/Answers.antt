use Rattle.proof_text.proofs.ShapeLaws.{none_left}
use Rattle.proof_text.proofs.words.Words.is_empty.Goals as goal

pub returns : goal.returns
returns c = none_left c.self.inside.is_done c.self.inside.rest.now c.args.self.now c.self.view_is
