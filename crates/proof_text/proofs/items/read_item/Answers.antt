use Rattle.proof_text.proofs.ItemLaws.{no_item_pair, no_item_times, no_item_value, no_item_index}
use Rattle.proof_text.proofs.items.read_item.Goals as goal

pub returns-in_err-parts : goal.returns-in_err-parts
returns-in_err-parts c = rw c.from_residual.ensures (no_item_pair c.args.word.now c.in_err-parts.ensures)

pub returns-in_err-times : goal.returns-in_err-times
returns-in_err-times c = rw c.from_residual-in_err-times.ensures (no_item_times c.args.word.now c.in_ok-parts.parts c.in_ok-parts.ensures c.in_err-times.ensures)

pub returns-in_err-value-in-Some : goal.returns-in_err-value-in-Some
returns-in_err-value-in-Some c =
    rw c.from_residual-in_err-value-in-Some.ensures (no_item_value c.args.word.now c.in-Some.digits.now c.in_ok-parts.parts c.in_ok-parts.ensures c.in-Some.ensures c.in_err-value-in-Some.ensures)

pub returns-in_err-index-in-None : goal.returns-in_err-index-in-None
returns-in_err-index-in-None c =
    rw c.from_residual-in_err-index-in-None.ensures (no_item_index c.args.word.now c.in_ok-parts.parts c.in_ok-parts.ensures c.in-None.ensures c.in_err-index-in-None.ensures)
