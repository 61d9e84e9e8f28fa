use Rattle.std.proofs.Common.{◌≡◌, ℕ, ◌<◌, ◌*◌, [], length, get_or, map, take, All}
use Rattle.frac128.specs.Range.{IsNarrow}
use Rattle.spaces.specs.Tables.{rows_in}
use Rattle.farkas_rows.specs.Inequalities.{Inequality}
use Rattle.reformulate.specs.Substitutions.{dimension_of}
use Rattle.farkas_lift.specs.NodeSides.{inequality_of}
use Rattle.farkas_lift.specs.NodeSystem.{node_system, LimitFits, SideStays}
use Rattle.farkas_lift.proofs.system.kernel_system.Given as goal

abbrev pub invariant-loop-k : goal.invariant-loop-k
invariant-loop-k l = record {
  height : l.grid.rows ≡ length l.sides.items;
  width : l.grid.width ≡ dimension_of l.frame;
  size : length l.grid.items ≡ l.grid.rows * l.grid.width;
  done : (j : ℕ) → j < l.k → get_or (rows_in l.grid) j [] ≡ get_or (map (λ (inequality : Inequality). inequality.factors) (node_system l.frame l.rows l.fn.cut)) j [];
  limits : l.limits.items ≡ take l.k (map (λ (inequality : Inequality). inequality.limit) (node_system l.frame l.rows l.fn.cut));
  narrow : All IsNarrow l.limits.items;
  narrow_items : All IsNarrow l.grid.items;
  stays : All (λ side. LimitFits l.rows l.value side × SideStays l.frame.to_work (inequality_of l.rows l.value side)) (take l.k l.sides.items);
}
