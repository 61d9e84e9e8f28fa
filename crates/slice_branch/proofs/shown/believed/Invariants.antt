use Rattle.slice_branch.specs.SeenPoints.{ArePoints}
use Rattle.slice_branch.proofs.shown.believed.Given as goal

abbrev pub invariant-loop-vertex : goal.invariant-loop-vertex
invariant-loop-vertex l = ArePoints l.task.rows.now l.task.path.now l.task.best l.points.items
