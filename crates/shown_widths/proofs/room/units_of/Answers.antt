use Rattle.std.proofs.Common.{rules, ap, ◌∙◌, sym, subst₂, FitsSigned}
use Rattle.std.specs.Int.{w128}
use Rattle.std.proofs.lemmas.Int.{to_z-of_z}
use Rattle.exact_math.specs.Rational.{ℚ, whole, ◌*ℚ◌, ◌≤ℚ◌}
use Rattle.exact_math.specs.RationalFloor.{le_ceil}
use Rattle.shown_widths.proofs.room.units_of.Goals as goal

pub returns-else-units-lt0-clause-enough : goal.returns-else-units-lt0-clause-enough
returns-else-units-lt0-clause-enough c =
    let fits : FitsSigned w128 c.ceil-units.result = search rules in
    subst₂ ◌≤ℚ◌ (c.in-Ok.ensures.1 ∙ ap (λ (q : ℚ). q *ℚ c.args.width.now) c.whole.ensures) (ap whole (sym c.ceil-units.ensures) ∙ ap whole (sym (to_z-of_z w128 c.ceil-units.result fits))) (le_ceil c.in-Ok.parts)
