use Rattle.std.proofs.Common.{rules, ◌≡◌}
use Rattle.desk_io.specs.Memory.{written_to}
use Rattle.desk_io.specs.AppendLaws.{appends_none}
use Rattle.desk_io.proofs.Outcomes.{on_err}
use Rattle.desk_io.proofs.memory.MemDeskDesk.put.Goals as goal

pub returns-in_err-append-clause-err : goal.returns-in_err-append-clause-err
returns-in_err-append-clause-err c =
    let same : written_to c.append.new.self c.args.name.now ≡ written_to c.args.self.now c.args.name.now = search rules in
    on_err c.from_residual.result (appends_none c.args.bytes.now _ _ same)
