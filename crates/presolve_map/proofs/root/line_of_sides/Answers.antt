use Rattle.std.proofs.Common.{subst, sym, ◌∙◌, List}
use Rattle.farkas_rows.specs.declared.line.Use.{Use}
use Rattle.farkas_rows.specs.Refutes.{line_of}
use Rattle.std.specs.Prelude.{None}
use Rattle.presolve_map.specs.Roots.{IsRootLine}
use Rattle.presolve_map.proofs.CrossingLaws.{crossing-line}
use Rattle.presolve_map.proofs.root.line_of_sides.Goals as goal

pub returns : goal.returns
returns c = subst (λ (items : List Use). IsRootLine c.args.rows.now (line_of None items)) (sym (c.from_vec.ensures ∙ c.in_ok-items.ensures.items)) (crossing-line c.args.rows.now c.args.i c.rows-count.ensures.limits c.requires.within c.requires.crosses)
