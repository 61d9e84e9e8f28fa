use Rattle.std.proofs.Common.{rules, ℤ, map, subst, FitsSigned}
use Rattle.std.specs.Prelude.{Option, IfSome}
use Rattle.std.specs.Int.{w128}
use Rattle.std.proofs.lemmas.Int.{to_z-of_z}
use Rattle.spaces.specs.TableLaws.{HasWidth-rows_in}
use Rattle.farkas_lift.specs.NodeSystem.{cut_of}
use Rattle.node_point.specs.RationalPoints.{coordinates}
use Rattle.shown_widths.specs.Steps.{IsLightAlong}
use Rattle.shown_widths.proofs.SideLaws.{sides_of_row}
use Rattle.shown_widths.proofs.room.row_leaves.Goals as goal

pub returns-in-Some : goal.returns-in-Some
returns-in-Some c = λ true.
    let t = c.args.node.frame.now.to_work in
    let work = c.args.node.work.now in
    let reach_fits : FitsSigned w128 c.in-Some.reach = search rules in
    let both = rw (c.row-factors.ensures.factors, c.low-low.ensures.value, c.high-high.ensures.value) at (simp to_z-of_z at (c.both_leave.ensures true)) in
    let light = rw (c.row-factors.ensures.factors) at (subst (λ (o : Option ℤ). IfSome o (λ reach. IsLightAlong reach t c.row-factors.result.now)) c.in-Some.is c.in_ok-reach.ensures.light) in
    sides_of_row c.args.trial.width c.in-Some.reach t (map coordinates c.args.trial.points.now) work (cut_of c.args.node.cut) (HasWidth-rows_in t.lines c.reach_along.ensures.shaped.shaped.size_lines) c.args.i light both
