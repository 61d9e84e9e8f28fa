use Rattle.std.proofs.Common.{sym, ◌∙◌}
use Rattle.proof_text.specs.OneReading.{one_reading}
use Rattle.proof_text.proofs.laws.one_reading.Goals as goal

pub returns : goal.returns
returns c = record { reading = one_reading; spelling = λ rows text other claim tree h k. h.bytes ∙ sym k.bytes }
