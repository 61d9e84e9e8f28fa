-- The system of a node at hand, and what its linear programs answer.
use Rattle.std.specs.Prelude.{◌≡◌, ℕ, ◌≤◌, ℤ, ◌+ℤ◌, List, length, Option}
use Rattle.std.specs.List.{All}
use Rattle.exact_math.specs.Rational.{ℚ, floor, ceil, ◌≤ℚ◌}
use Rattle.frac128.specs.Range.{IsNarrow}
use Rattle.node_point.specs.RationalPoints.{form_value}
use Rattle.lp_dict.specs.Systems.{wholes}
use Rattle.lp_dict.specs.declared.system.System.{System}
use Rattle.lp_solve.specs.Certificates.{ShowsEmpty}
use Rattle.lp_solve.specs.declared.answer.Solved.{Solved}
use Rattle.lp_solve.specs.declared.answer.Solved.TheVariants.{Least, Empty}
use Rattle.lp_solve.specs.Ended.{EndsSo}
use Rattle.norm_gauge.specs.Gauges.{IsLeastAt, program}
use Rattle.norm_gauge.specs.Widths.{Has, HasBound, Polytope, polytope_of}
use Rattle.reformulate.specs.Substitutions.{Substitution, dimension_of}
use Rattle.presolve_map.specs.ReducedRows.{ReducedRows}
use Rattle.node_regions.specs.NodeRegions.{node_polytope}

-- The system is that of the node. Its points are bounded, and no entry of it or of K is -2^127.
pub record IsRegion (frame : Substitution) (work : ReducedRows) (cut : Option ℤ) (system : System) : Type 0 where
  pub width : system.rows.width ≡ dimension_of frame
  pub polytope : polytope_of system.rows system.limits ≡ node_polytope frame work cut
  pub as_many_limits : length system.limits ≡ system.rows.rows
  pub few : system.rows.rows ≤ 1025
  pub small : system.rows.width ≤ 256
  pub narrow_rows : All IsNarrow system.rows.items
  pub narrow_limits : All IsNarrow system.limits
  pub narrow_lines : All IsNarrow frame.to_work.lines.items
  pub bounded : HasBound (node_polytope frame work cut)

-- a point at which the form is least, as the multipliers show, or multipliers that show that there is no point
abbrev pub AnswerIs : Polytope → List ℤ → Solved → Type 0
AnswerIs p form (Least point value multipliers) = IsLeastAt p (wholes form) point value multipliers × ((y : List ℚ) → Has p y → value ≤ℚ form_value form y)
AnswerIs p form (Empty multipliers) = ShowsEmpty p.coordinates p.rows p.limits multipliers × ((y : List ℚ) → ¬ (Has p y))

-- `lo` is the least whole number that is at least the form's least value and the constant
pub record IsFirstValue (p : Polytope) (form : List ℤ) (constant lo : ℤ) : Type 0 where
  pub point : List ℚ
  pub there : Has p point
  pub least : (y : List ℚ) → Has p y → form_value form point ≤ℚ form_value form y
  pub value : lo ≡ ceil (form_value form point) +ℤ constant

-- `last` is the greatest whole number that is at most the form's greatest value and the constant
pub record IsLastValue (p : Polytope) (form : List ℤ) (constant last : ℤ) : Type 0 where
  pub point : List ℚ
  pub there : Has p point
  pub greatest : (y : List ℚ) → Has p y → form_value form y ≤ℚ form_value form point
  pub value : last ≡ floor (form_value form point) +ℤ constant

-- The pivots of a program lead to a point at which the form is least, as the multipliers show.
pub record IsOptimum (p : Polytope) (form : List ℤ) (pivots : List (ℕ × ℕ)) (value : ℚ) (multipliers : List ℚ) : Type 0 where
  pub point : List ℚ
  pub least : IsLeastAt p (wholes form) point value multipliers
  pub lowest : (y : List ℚ) → Has p y → value ≤ℚ form_value form y
  pub ends : EndsSo (program p (wholes form)) pivots (Least point value multipliers)
