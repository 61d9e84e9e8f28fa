use Rattle.std.proofs.Common.{sym, ◌∙◌}
use Rattle.mps_model.specs.RowKinds.{row_of}
use Rattle.mps_model.proofs.OnModel.RangedSideLaws.{ended, not_ended}
use Rattle.mps_model.proofs.tables.row_kind.RowKind.sides.Goals as goal

pub returns-in-Some : goal.returns-in-Some
returns-in-Some c = λ name range e. ended range c.args.side c.in-Some.end (row_of c.args.self name) _ (sym c.in-Some.is ∙ e) c.sides_between.ensures

pub returns-in-None : goal.returns-in-None
returns-in-None c = λ name range e. not_ended range c.args.side (row_of c.args.self name) _ (sym c.in-None.is ∙ e) (c.plain_sides.ensures name)
