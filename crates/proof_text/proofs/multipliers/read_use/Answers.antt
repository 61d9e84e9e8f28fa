use Rattle.proof_text.proofs.LineReads.{nothing_no_use, cut_no_use}
use Rattle.proof_text.proofs.multipliers.read_use.Goals as goal

pub returns-in_err-read_item : goal.returns-in_err-read_item
returns-in_err-read_item c = rw c.from_residual.ensures (nothing_no_use c.args.word.now c.in_err-read_item.ensures)

pub returns-in-Cut : goal.returns-in-Cut
returns-in-Cut c = cut_no_use c.args.word.now c.in-Cut.field-0 (rw c.in-Cut.is at c.in_ok-read_item.ensures)
