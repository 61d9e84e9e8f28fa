-- The answers of linear programs, said of polytopes.
use Rattle.std.proofs.Common.{◌≡◌, ℤ, List, sym, subst, ◌∙◌}
use Rattle.std.proofs.lemmas.List.{length-map}
use Rattle.exact_math.specs.Rational.{ℚ, whole, ◌≤ℚ◌}
use Rattle.exact_math.specs.RationalRing.{rationals}
use Rattle.exact_vectors.specs.Vectors.{dot}
use Rattle.spaces.specs.Tables.{Table}
use Rattle.lp_dict.specs.Sizes.{MeetsCondition}
use Rattle.lp_dict.specs.Systems.{left_sides, wholes}
use Rattle.lp_solve.specs.Outcomes.{SolvedIs}
use Rattle.lp_solve.specs.declared.answer.Solved.{Solved}
use Rattle.lp_solve.specs.declared.answer.Solved.TheVariants.{Least}
use Rattle.norm_gauge.specs.Widths.{Has, polytope_of}

-- no point of the polytope has less
pub least_on_polytope : (t : Table ℤ) (limits form : List ℤ) (solved : Solved) (point multipliers : List ℚ) (value : ℚ) → MeetsCondition t limits form → SolvedIs (left_sides t) (wholes limits) (wholes form) solved → solved ≡ Least point value multipliers
    → (y : List ℚ) → Has (polytope_of t limits) y → value ≤ℚ dot rationals (wholes form) y
least_on_polytope t limits form solved point multipliers value condition is least y has =
    let answer : SolvedIs (left_sides t) (wholes limits) (wholes form) (Least point value multipliers) = subst (SolvedIs (left_sides t) (wholes limits) (wholes form)) least is in
    answer.1 y (record { coordinates = has.coordinates ∙ sym (length-map form whole ∙ condition.as_many_factors); met = has.met })
