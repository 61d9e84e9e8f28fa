use Rattle.proof_text.proofs.CutWords.{none_there, parts_there}
use Rattle.proof_text.proofs.words.cut.Goals as goal

pub returns-in_err-place : goal.returns-in_err-place
returns-in_err-place c = rw c.from_residual.ensures (none_there c.args.byte c.args.text.now (cc (c.first_place.ensures, c.in_err-place.was)))

pub returns : goal.returns
returns c = parts_there c.args.byte c.args.text.now _ _ _ c.in_ok-place.place (cc (c.first_place.ensures, c.in_ok-place.was)) c.split_at.ensures.front c.split_at.ensures.back c.split_at-2.ensures.back
