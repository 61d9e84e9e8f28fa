use Rattle.std.proofs.Common.{◌<◌, position, ap, subst, ◌∙◌}
use Rattle.std.specs.Prelude.{bytes_eq, IfSome}
use Rattle.std.specs.List.{IsDistinct}
use Rattle.mps_model.specs.FaultRules.{is_among}
use Rattle.mps_model.proofs.OnTables.RowTableLaws.{table_names, table_length}
use Rattle.mps_model.proofs.tables.rows.RowTable.find.Goals as goal

pub returns-clause-place : goal.returns-clause-place
returns-clause-place c =
    c.find.ensures.place
    ∙ ap (position (bytes_eq c.args.name.now)) (table_names c.self.inside.kinds.items c.self.inside.names c.args.self.now c.self.invariant.paired c.self.view_is)

pub returns-clause-found : goal.returns-clause-found
returns-clause-found c =
    c.find.ensures.found
    ∙ ap (λ names. is_among names c.args.name.now) (table_names c.self.inside.kinds.items c.self.inside.names c.args.self.now c.self.invariant.paired c.self.view_is)

pub returns-clause-within : goal.returns-clause-within
returns-clause-within c =
    subst (λ n. IfSome c.find.result (λ place. place < n))
    (table_length c.self.inside.kinds.items c.self.inside.names c.args.self.now c.self.invariant.paired c.self.view_is)
    c.find.ensures.within

pub returns-clause-distinct : goal.returns-clause-distinct
returns-clause-distinct c =
    subst (IsDistinct bytes_eq) (table_names c.self.inside.kinds.items c.self.inside.names c.args.self.now c.self.invariant.paired c.self.view_is)
    c.find.ensures.distinct
