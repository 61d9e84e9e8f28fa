use Rattle.std.proofs.Common.{rules, ℤ, map, subst, FitsSigned}
use Rattle.std.specs.Prelude.{Option, IfSome}
use Rattle.std.specs.Int.{w128}
use Rattle.std.proofs.lemmas.Int.{to_z-of_z}
use Rattle.spaces.specs.TableLaws.{HasWidth-rows_in}
use Rattle.node_point.specs.RationalPoints.{coordinates}
use Rattle.shown_widths.specs.Steps.{IsLightAlong}
use Rattle.shown_widths.proofs.SideLaws.{side_of_cut}
use Rattle.shown_widths.proofs.room.cut_leaves.Goals as goal

pub returns-in-Some-2 : goal.returns-in-Some-2
returns-in-Some-2 c = λ true.
    let t = c.args.node.frame.now.to_work in
    let work = c.args.node.work.now in
    let reach_fits : FitsSigned w128 c.in-Some-2.reach = search rules in
    let value_fits : FitsSigned w128 c.in-Some.value = search rules in
    let limit_fits : FitsSigned w128 c.in-Some-cut_limit.limit = search rules in
    let both = rw (c.cost-factors.ensures.value) at (simp to_z-of_z at (c.both_leave.ensures true)) in
    let light = rw (c.cost-factors.ensures.value) at (subst (λ (o : Option ℤ). IfSome o (λ reach. IsLightAlong reach t c.cost-factors.result.now)) c.in-Some-2.is c.in_ok-reach.ensures.light) in
    let limit = simp to_z-of_z at c.in-Some-cut_limit.ensures in
    side_of_cut c.args.trial.width c.in-Some-2.reach t (map coordinates c.args.trial.points.now) work c.in-Some.value c.in-Some-cut_limit.limit c.args.node.cut (HasWidth-rows_in t.lines c.reach_along.ensures.shaped.shaped.size_lines) c.in-Some.is limit light both
