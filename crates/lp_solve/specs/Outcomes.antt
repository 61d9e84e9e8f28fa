-- What the answers of a linear program say.
use Rattle.std.specs.Prelude.{◌≡◌, List, length, ⊤}
use Rattle.exact_math.specs.Rational.{ℚ, ◌≤ℚ◌}
use Rattle.exact_math.specs.RationalRing.{rationals}
use Rattle.exact_vectors.specs.Vectors.{dot}
use Rattle.lp_dict.specs.Dictionaries.{first_dictionary}
use Rattle.lp_dict.specs.Systems.{IsPoint}
use Rattle.lp_solve.specs.Certificates.{ShowsLeast, ShowsEmpty}
use Rattle.lp_solve.specs.Rule.{AreLegal, NextIsWide, IsDue, after}
use Rattle.lp_solve.specs.declared.answer.Solved.{Solved}
use Rattle.lp_solve.specs.declared.answer.Solved.TheVariants.{Least, Empty}
use Rattle.lp_solve.specs.declared.answer.LpStop.{LpStop}
use Rattle.lp_solve.specs.declared.answer.LpStop.TheVariants.{Excuse, NoMemory}
use Rattle.lp_solve.specs.declared.answer.LpExcuse.{LpExcuse}
use Rattle.lp_solve.specs.declared.answer.LpExcuse.TheVariants.{WidePivot, ManyPivots, WideGauge}

module _ (rows : List (List ℚ)) (limits form : List ℚ) where
  -- an answer: the multipliers show it, and it is so
  abbrev pub SolvedIs : Solved → Type 0
  SolvedIs (Least point value multipliers) = ShowsLeast (length form) rows limits form point value multipliers × ((y : List ℚ) → IsPoint (length form) rows limits y → value ≤ℚ dot rationals form y)
  SolvedIs (Empty multipliers) = ShowsEmpty (length form) rows limits multipliers × ((y : List ℚ) → ¬ (IsPoint (length form) rows limits y))

  -- an excuse: the pivots are legal from the beginning, and the next one is wide, or they are as many as are made and another is due
  abbrev pub ExcuseIs : LpExcuse → Type 0
  ExcuseIs (WidePivot pivots row column) = AreLegal (first_dictionary rows limits form) pivots × NextIsWide (after (first_dictionary rows limits form) pivots) row column
  ExcuseIs (ManyPivots pivots) = AreLegal (first_dictionary rows limits form) pivots × (length pivots ≡ 20000) × IsDue (after (first_dictionary rows limits form) pivots)
  ExcuseIs (WideGauge first second) = ⊥

  abbrev pub StopIs : LpStop → Type 0
  StopIs (Excuse excuse) = ExcuseIs excuse
  StopIs NoMemory = ⊤

-- the answer that there is no point
abbrev pub SaysEmpty : Solved → Type 0
SaysEmpty (Least point value multipliers) = ⊥
SaysEmpty (Empty multipliers) = ⊤
