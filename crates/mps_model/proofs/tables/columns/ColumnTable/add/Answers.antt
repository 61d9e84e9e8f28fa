use Rattle.std.proofs.Common.{refl, arith}
use Rattle.mps_model.proofs.OnTables.ColumnTableLaws.{kept_fresh, fresh_is_last, fresh_fault_none}
use Rattle.mps_model.proofs.tables.columns.ColumnTable.add.Goals as goal

pub returns-clause-judged : goal.returns-clause-judged
returns-clause-judged c = λ rows above keeps. (
  fresh_fault_none rows above c.args.label.now c.args.self.now keeps c.requires (omega arith),
  kept_fresh rows above c.args.at c.args.label.now c.args.self.now _ keeps c.requires c.in_ok-add.ensures.ok c.in_ok-push.ensures.items refl refl refl,
)

pub returns-clause-last : goal.returns-clause-last
returns-clause-last c = λ rows above keeps. fresh_is_last rows above c.args.at c.args.label.now c.args.self.now _ keeps c.requires c.len-column.ensures.len
