use Rattle.std.proofs.Common.{SFits, rules, to_z-of_z}
use Rattle.std.proofs.lemmas.Slice.Zip.{Zip-more, either_empty_from_Zip}
use Rattle.solve_cli.proofs.PointLaws.{lines_more, lines_all}
use Rattle.solve_cli.proofs.report.put_points.Goals as goal
use mir.Syntax.{w128}

pub loop-column-preserved : goal.loop-column-preserved
loop-column-preserved c =
    let m = Zip-more c.loop-column.column-iterator c.next.new.self c.next.result (c.in-Some.column, c.in-Some.value) c.in-Some.is c.next.ensures.steps in
    let fits : SFits w128 c.in-Some.value.now = search rules in
    let grown = simp to_z-of_z at c.in_ok-put_point.ensures in
    lines_more _ _ _ _ c.loop-column.invariant c.in-Some.column.now c.in-Some.value.now _ _ _ m.0 m.1 grown

pub returns : goal.returns
returns c =
    lines_all _ _ _ _ c.loop-column.invariant
    (either_empty_from_Zip c.loop-column.column-iterator c.next.new.self c.next.result c.in-None.is c.next.ensures.steps)
