use Rattle.proof_text.proofs.CutLines.{last_taken, one_taken}
use Rattle.proof_text.proofs.lines.Lines.next.Goals as goal

pub returns-in-None : goal.returns-in-None
returns-in-None c = last_taken _ _ _ c.if-self.false c.self.view_is c.in-None.ensures

pub returns-in-Some : goal.returns-in-Some
returns-in-Some c = one_taken _ _ _ _ _ c.if-self.false c.self.view_is c.in-Some.ensures
