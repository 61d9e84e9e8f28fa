-- Regions that are given by their points. Each region is of this kind, by the family of its own points; contracts speak of regions in this form.
use Rattle.std.specs.Prelude.{◌≡◌, List}
use Rattle.exact_math.specs.Rational.{ℚ}

-- x is one of the points of the family
abbrev pub PointsOf : {I : Type 0} → (I → List ℚ) → List ℚ → Type 0
PointsOf {I} point x = (i : I) × (point i ≡ x)
