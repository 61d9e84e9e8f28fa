use Rattle.std.proofs.Common.{rules, ap, ◌∙◌, sym, subst₂, FitsSigned}
use Rattle.std.specs.Int.{w128}
use Rattle.std.proofs.lemmas.Int.{to_z-of_z}
use Rattle.exact_math.specs.Rational.{ℚ, ◌*ℚ◌, ◌≤ℚ◌}
use Rattle.exact_math.specs.RationalTests.{le_true}
use Rattle.shown_widths.proofs.columns.differ_by.Goals as goal

pub returns : goal.returns
returns c = λ true.
    let fits : FitsSigned w128 c.args.times = search rules in
    let times = simp to_z-of_z at c.whole.ensures in
    subst₂ ◌≤ℚ◌ (c.in-Ok-mul.ensures.1 ∙ ap (λ (q : ℚ). q *ℚ c.args.width.now) times) c.in-Ok.ensures.1
    (le_true c.in-Ok-mul.needed c.in-Ok.apart (sym c.le.ensures ∙ true))
