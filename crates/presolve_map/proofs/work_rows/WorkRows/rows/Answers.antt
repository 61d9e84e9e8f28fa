use Rattle.std.proofs.Common.{arith}
use Rattle.presolve_map.proofs.WorkLaws.{count-view}
use Rattle.presolve_map.proofs.work_rows.WorkRows.rows.Goals as goal

pub returns-clause-count : goal.returns-clause-count
returns-clause-count c = omega (arith, c.rows.ensures.count, count-view _ _ _ _ _ c.self.view_is c.self.invariant.sided)
