use Rattle.std.proofs.Common.{arith}
use Rattle.proof_text.proofs.ItemLaws.{place_too_large}
use Rattle.proof_text.proofs.items.read_place.Goals as goal

pub returns-then-place-from : goal.returns-then-place-from
returns-then-place-from c = place_too_large c.args.word.now c.in_ok-place.place c.in_ok-place.ensures (omega arith)
