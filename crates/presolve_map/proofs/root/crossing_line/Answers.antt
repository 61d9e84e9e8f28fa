use Rattle.presolve_map.proofs.RootLaws.{closed-by_row, open-root}
use Rattle.presolve_map.proofs.root.crossing_line.Goals as goal

pub returns-in_ok-line-in-Some : goal.returns-in_ok-line-in-Some
returns-in_ok-line-in-Some c = (closed-by_row c.args.rows.now c.in-Some.i c.in-Some.ensures.within c.in-Some.ensures.crosses, c.in_ok-line-in-Some.ensures)

pub returns-in-None : goal.returns-in-None
returns-in-None c = open-root c.args.rows.now c.requires c.in-None.ensures.none
