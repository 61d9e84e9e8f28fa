use Rattle.std.proofs.Common.{rules, pos, get_or, FitsSigned}
use Rattle.std.specs.Int.{w128}
use Rattle.std.proofs.lemmas.Int.{to_z-of_z}
use Rattle.presolve_map.proofs.NumberedLaws.{factor_small}
use Rattle.presolve_map.proofs.line.light_factor.Goals as goal

pub returns-clause-small : goal.returns-clause-small
returns-clause-small c =
    let fits : FitsSigned w128 (get_or c.args.factors.now c.args.column (pos 0)) = search rules in
    simp to_z-of_z (factor_small c.args.factors.now c.args.bounds.now c.args.column c.requires.same_length c.requires.column c.requires.light)
