-- What a gauge says, and why a width was not found.
use Rattle.std.specs.Prelude.{◌≡◌, ℕ, List, [], ◌∷◌, ◌++◌, take, drop, ◌⊎◌, ⊤}
use Rattle.exact_math.specs.Rational.{ℚ, neg_ℚ, ◌+ℚ◌, ◌*ℚ◌}
use Rattle.exact_math.specs.RationalRing.{rationals}
use Rattle.exact_vectors.specs.Vectors.{dot, negate}
use Rattle.frac128.specs.Range.{SumInRange, ProductInRange}
use Rattle.lp_dict.specs.Dictionaries.{Dictionary, none, first_dictionary}
use Rattle.lp_solve.specs.Certificates.{ShowsLeast}
use Rattle.lp_solve.specs.Ended.{EndsLeast}
use Rattle.lp_solve.specs.Outcomes.{ExcuseIs}
use Rattle.lp_solve.specs.declared.answer.LpExcuse.{LpExcuse}
use Rattle.lp_solve.specs.declared.answer.LpExcuse.TheVariants.{WidePivot, ManyPivots, WideGauge}
use Rattle.lp_solve.specs.declared.answer.LpStop.{LpStop}
use Rattle.lp_solve.specs.declared.answer.LpStop.TheVariants.{Excuse, NoMemory}
use Rattle.norm_gauge.specs.Widths.{Polytope, ArePair, IsAtMost, difference}
use Rattle.norm_gauge.specs.PairSystems.{pair_system, pair_form}
use Rattle.norm_gauge.specs.declared.gauge.Gauge.{Gauge}

-- the point is least for the form on the polytope, as the multipliers show
abbrev pub IsLeastAt : Polytope → List ℚ → List ℚ → ℚ → List ℚ → Type 0
IsLeastAt p form point value multipliers = ShowsLeast p.coordinates p.rows p.limits form point value multipliers

-- The weights show that no pair does better. Under no rows: those below that no point has less than the lower one, those above that none has more than
-- the upper one. Under some rows: those below, by the pair system; there are none above.
abbrev pub WeightsShow : Polytope → List (List ℚ) → List ℚ → Gauge → Type 0
WeightsShow p [] form g = IsLeastAt p form g.low g.least g.below × IsLeastAt p (negate rationals form) g.high (neg_ℚ g.greatest) g.above
WeightsShow p (row ∷ fixed) form g = IsLeastAt (pair_system p (row ∷ fixed)) (pair_form form) (g.high ++ g.low) (neg_ℚ g.value) g.below × (g.above ≡ [])

-- a gauge of a form under some rows: its value is the width, which the two points attain; least and greatest are the form's values at them
pub record IsGauge (p : Polytope) (fixed : List (List ℚ)) (form : List ℚ) (g : Gauge) : Type 0 where
  pub pair : ArePair p fixed g.high g.low
  pub value : g.value ≡ difference form g.high g.low
  pub least : g.least ≡ dot rationals form g.low
  pub greatest : g.greatest ≡ dot rationals form g.high
  pub most : IsAtMost p fixed form g.value
  pub weights : WeightsShow p fixed form g

-- the dictionary at which the program of a form begins
abbrev pub program : Polytope → List ℚ → Dictionary
program p form = first_dictionary p.rows p.limits form

-- the sum of products, taken in index order from the base `s`, stays in range
abbrev pub SumStays : ℚ → List ℚ → List ℚ → Type 0
SumStays s [] w = ⊤
SumStays s (a ∷ v) [] = ⊤
SumStays s (a ∷ v) (x ∷ w) = ProductInRange a x × SumInRange s (a *ℚ x) × SumStays (s +ℚ a *ℚ x) v w

-- Under no rows: both programs came to their ends, and the greatest value less the least leaves the range.
pub record WideEnds (p : Polytope) (form : List ℚ) (first second : List (ℕ × ℕ)) : Type 0 where
  pub low : List ℚ
  pub least : ℚ
  pub below : List ℚ
  pub lower : EndsLeast (program p form) first low least below
  pub high : List ℚ
  pub greatest : ℚ
  pub above : List ℚ
  pub upper : EndsLeast (program p (negate rationals form)) second high (neg_ℚ greatest) above
  pub wide : ¬ (SumInRange greatest (neg_ℚ least))

-- Under some rows: the one program came to its end, and the form's value at one of the two points leaves the range.
pub record WidePair (p : Polytope) (fixed : List (List ℚ)) (form : List ℚ) (first second : List (ℕ × ℕ)) : Type 0 where
  pub point : List ℚ
  pub least : ℚ
  pub weights : List ℚ
  pub ended : EndsLeast (program (pair_system p fixed) (pair_form form)) first point least weights
  pub no_second : second ≡ []
  pub wide : (¬ (SumStays none form (drop p.coordinates point))) ⊎ (¬ (SumStays none form (take p.coordinates point)))

-- a program of the width stops, as `minimise` says, or its gauge is wide
abbrev pub ProgramStops : Polytope → List ℚ → LpExcuse → Type 0
ProgramStops p form excuse = ExcuseIs p.rows p.limits form excuse

abbrev pub WidthExcuseIs : Polytope → List (List ℚ) → List ℚ → LpExcuse → Type 0
WidthExcuseIs p [] form (WideGauge first second) = WideEnds p form first second
WidthExcuseIs p [] form (WidePivot pivots row column) = ProgramStops p form (WidePivot pivots row column) ⊎ ProgramStops p (negate rationals form) (WidePivot pivots row column)
WidthExcuseIs p [] form (ManyPivots pivots) = ProgramStops p form (ManyPivots pivots) ⊎ ProgramStops p (negate rationals form) (ManyPivots pivots)
WidthExcuseIs p (row ∷ fixed) form (WideGauge first second) = WidePair p (row ∷ fixed) form first second
WidthExcuseIs p (row ∷ fixed) form (WidePivot pivots r column) = ProgramStops (pair_system p (row ∷ fixed)) (pair_form form) (WidePivot pivots r column)
WidthExcuseIs p (row ∷ fixed) form (ManyPivots pivots) = ProgramStops (pair_system p (row ∷ fixed)) (pair_form form) (ManyPivots pivots)

-- why there is no gauge
abbrev pub WidthStopIs : Polytope → List (List ℚ) → List ℚ → LpStop → Type 0
WidthStopIs p fixed form (Excuse excuse) = WidthExcuseIs p fixed form excuse
WidthStopIs p fixed form NoMemory = ⊤
