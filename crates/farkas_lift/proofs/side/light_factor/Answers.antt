use Rattle.std.proofs.Common.{rules, ◌<◌, ◌≤◌, ◌^◌, pos, nat_abs, get_or, length, FitsSigned, arith}
use Rattle.std.specs.Int.{w128}
use Rattle.std.proofs.lemmas.Int.{to_z-of_z}
use Rattle.whole_rows.specs.declared.bounds.Bounds.{Bounds}
use Rattle.whole_rows.specs.WeightLaws.{span-term_le, factor_le_term}
use Rattle.farkas_lift.proofs.side.light_factor.Goals as goal

pub returns-clause-small : goal.returns-clause-small
returns-clause-small c =
    let b : Bounds = record { low = pos 0; high = pos 0 } in
    let fits : FitsSigned w128 (get_or c.args.factors.now c.args.column (pos 0)) = search rules in
    let inside : c.args.column < length c.args.factors.now = omega (arith, c.requires.same_length, c.requires.column) in
    let small : nat_abs (get_or c.args.factors.now c.args.column (pos 0)) ≤ 2 ^ 96 =
    omega (arith, c.requires.light, span-term_le c.args.column c.args.factors.now c.args.bounds.now (pos 0) b inside c.requires.column, factor_le_term (get_or c.args.factors.now c.args.column (pos 0)) (get_or c.args.bounds.now c.args.column b)) in
    simp to_z-of_z small
