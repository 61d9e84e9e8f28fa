-- What the search for the next pivot answers.
use Rattle.std.specs.Prelude.{◌≡◌, ℕ, ◌<◌, ◌≤◌, List, length, ◌⊎◌, Option, MatchOption}
use Rattle.lp_dict.specs.Dictionaries.{Dictionary}
use Rattle.lp_solve.specs.Rule.{IsFirst, NoneFree, NoneBelow, IsNext, IsBelow, Raises, Lowers, Limits, WideTime, IsSoonest, basic_at}
use Rattle.exact_math.specs.Rational.{ℚ, ◌≤ℚ◌}
use Rattle.lp_solve.specs.declared.search.Limit.{Limit}
use Rattle.lp_solve.specs.declared.search.Step.{Step}
use Rattle.lp_solve.specs.declared.search.Step.TheVariants.{Pivot, WideQuotient, NoPoint, Least}

-- the place of the first variable with the property, if one has it
abbrev pub FindsFirst : List ℕ → (ℕ → Type 0) → Option ℕ → Type 0
FindsFirst variables P found = MatchOption found ((k : ℕ) → k < length variables → ¬ (P k)) (IsFirst variables P)

-- row `i` is that of the first slack below 0, which nothing raises
pub record IsStuck (d : Dictionary) (i : ℕ) : Type 0 where
  pub none_free : NoneFree d
  pub first : IsFirst d.basic (IsBelow d) i
  pub none_raises : (j : ℕ) → j < length d.outside → ¬ (Raises d i j)

-- no slack is below 0, and no slack lowers the form, or the first that does has no limit
pub record IsEnd (d : Dictionary) : Type 0 where
  pub none_free : NoneFree d
  pub none_below : NoneBelow d
  pub column : ((j : ℕ) → j < length d.outside → ¬ (Lowers d j)) ⊎ ((j : ℕ) × IsFirst d.outside (Lowers d) j × ((i : ℕ) → i < length d.basic → ¬ (Limits d j i)))

-- what a step says of the dictionary
abbrev pub StepIs : Dictionary → Step → Type 0
StepIs d (Pivot row column) = IsNext d row column
StepIs d (WideQuotient row column) = WideTime d row column
StepIs d (NoPoint row) = IsStuck d row
StepIs d Least = IsEnd d

-- of a limit that is known and the next row, the one that comes sooner, and of equal ones the one whose variable is first
abbrev pub Sooner : Dictionary → Option Limit → ℕ → ℚ → Limit → Type 0
Sooner d best row time taken =
    MatchOption best (taken ≡ record { row = row; time = time })
    (λ b. ((taken ≡ b) × (b.time ≤ℚ time) × (b.time ≡ time → basic_at d b.row ≤ basic_at d row)) ⊎ ((taken ≡ record { row = row; time = time }) × (time ≤ℚ b.time) × (time ≡ b.time → basic_at d row ≤ basic_at d b.row)))

-- the first of the rows that reach 0 soonest, if some row has a limit
abbrev pub FindsSoonest : Dictionary → ℕ → Option ℕ → Type 0
FindsSoonest d j found = MatchOption found ((i : ℕ) → i < length d.basic → ¬ (Limits d j i)) (IsFirst d.basic (IsSoonest d j))
