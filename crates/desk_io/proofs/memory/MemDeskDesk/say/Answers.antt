use Rattle.std.proofs.Common.{rules, ◌≡◌, Some, ap}
use Rattle.desk_io.specs.AppendLaws.{appends_none}
use Rattle.desk_io.proofs.Outcomes.{on_err}
use Rattle.desk_io.proofs.memory.MemDeskDesk.say.Goals as goal

pub returns-in_err-extend_from_slice-clause-err : goal.returns-in_err-extend_from_slice-clause-err
returns-in_err-extend_from_slice-clause-err c =
    let same : c.extend_from_slice.new.self.items ≡ c.args.self.now.said.items = search rules in
    on_err c.from_residual.result (appends_none c.args.bytes.now _ _ (ap (λ bytes. Some bytes) same))
