use Rattle.std.proofs.Common.{◌≡◌, map, take}
use Rattle.shown_widths.specs.Points.{work_fractions}
use Rattle.shown_widths.proofs.point.work_points.Given as goal

abbrev pub invariant-loop-point : goal.invariant-loop-point
invariant-loop-point l = l.at_work.items ≡ map (work_fractions l.work) (take l.point-index l.points)
