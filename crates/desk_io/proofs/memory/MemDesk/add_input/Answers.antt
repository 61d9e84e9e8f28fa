use Rattle.std.proofs.Common.{arith}
use Rattle.std.proofs.lemmas.Map.Text.{text_keys}
use Rattle.desk_io.proofs.memory.MemDesk.add_input.Goals as goal

pub returns-clause-other_inputs : goal.returns-clause-other_inputs
returns-clause-other_inputs c = λ name other. grind (arith, text_keys)
