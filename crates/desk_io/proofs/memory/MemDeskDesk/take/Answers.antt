use Rattle.std.proofs.Common.{rules, ◌≡◌, Some}
use Rattle.desk_io.specs.Memory.{input_of}
use Rattle.desk_io.specs.TakeLaws.{takes_least}
use Rattle.desk_io.proofs.memory.MemDeskDesk.take.Goals as goal

pub returns-in-Some-clause-full : goal.returns-in-Some-clause-full
returns-in-Some-clause-full c = λ left is.
    let told : input_of c.begin_call.new.self c.args.name.now ≡ Some left = search rules in
    c.in-Some.ensures.full left told

pub returns-in-Some-clause-taken : goal.returns-in-Some-clause-taken
returns-in-Some-clause-taken c = λ left is.
    let told : input_of c.begin_call.new.self c.args.name.now ≡ Some left = search rules in
    takes_least c.take_left.new.buf left c.in-Some.n (c.in-Some.ensures.full left told) (c.in-Some.ensures.taken left told)
