use Rattle.std.proofs.Common.{arith}
use Rattle.std.proofs.lemmas.Map.Text.{text_keys}
use Rattle.desk_io.proofs.memory.MemDesk.append.Goals as goal

pub returns-in_err-extend_from_slice-in-Some-clause-other_outputs :
    goal.returns-in_err-extend_from_slice-in-Some-clause-other_outputs
returns-in_err-extend_from_slice-in-Some-clause-other_outputs c = λ name other. grind (arith, text_keys)

pub returns-in_ok-extend_from_slice-in-Some-clause-other_outputs :
    goal.returns-in_ok-extend_from_slice-in-Some-clause-other_outputs
returns-in_ok-extend_from_slice-in-Some-clause-other_outputs c = λ name other. grind (arith, text_keys)

pub returns-in_ok-insert-in-None-clause-other_outputs :
    goal.returns-in_ok-insert-in-None-clause-other_outputs
returns-in_ok-insert-in-None-clause-other_outputs c = λ name other. grind (arith, text_keys)
