use Rattle.std.proofs.Common.{rules, ℤ, ◌*ℤ◌, ◌≤ℤ◌, subst, sym, FitsSigned}
use Rattle.std.specs.Int.{w128}
use Rattle.std.proofs.lemmas.Int.{to_z-of_z}
use Rattle.shown_widths.proofs.SlackLaws.{floor_below}
use Rattle.shown_widths.proofs.side.floor.Goals as goal

pub returns : goal.returns
returns c =
    let fits : FitsSigned w128 c.div_euclid.result = search rules in
    let numerator_fits : FitsSigned w128 c.args.numerator = search rules in
    let denominator_fits : FitsSigned w128 c.args.denominator = search rules in
    let is = simp to_z-of_z at c.div_euclid.ensures in
    simp to_z-of_z (subst (λ (q : ℤ). (q *ℤ c.args.denominator) ≤ℤ c.args.numerator) (sym is) (floor_below c.args.numerator c.args.denominator c.requires))
