use Rattle.std.proofs.Common.{Bool, List, ap₂, ◌∙◌}
use Rattle.whole_rows.specs.declared.bounds.Bounds.{Bounds}
use Rattle.whole_rows.specs.WholeRows.{WholeRow, row_at}
use Rattle.presolve_map.specs.ReducedRows.{can_violate}
use Rattle.presolve_map.proofs.ReduceLaws.{row-is}
use Rattle.presolve_map.proofs.reduce.is_needed.Goals as goal

pub returns : goal.returns
returns c = c.can_violate.ensures ∙ ap₂ {C = Bool} (λ (b : List Bounds) (r : WholeRow). can_violate b r) c.bounds.ensures.value (row-is (row_at c.args.rows.now c.args.i) c.row.result.now c.low.result c.high.result c.row.ensures.factors c.low.ensures c.high.ensures)
