-- How the pivots end.
use Rattle.std.specs.Prelude.{◌≡◌, ℕ, List, length}
use Rattle.lp_dict.specs.Dictionaries.{Dictionary}
use Rattle.lp_solve.specs.Rule.{NextIsWide, IsDue, after}
use Rattle.lp_solve.specs.Steps.{IsStuck, IsEnd}
use Rattle.lp_solve.specs.declared.search.Step.{Step}
use Rattle.lp_solve.specs.declared.search.Step.TheVariants.{Pivot, WideQuotient, NoPoint, Least}
use Rattle.lp_solve.specs.declared.solve.Ending.{Ending}
use Rattle.lp_solve.specs.declared.solve.Ending.TheVariants.{Stuck, Optimal, Wide, Many}

-- how they end where no more are made
abbrev pub EndsAs : Step → Ending → Type 0
EndsAs (Pivot row column) ending = ending ≡ Many
EndsAs (WideQuotient row column) ending = ending ≡ Many
EndsAs (NoPoint row) ending = ending ≡ Stuck row
EndsAs Least ending = ending ≡ Optimal

-- what the ending says, after these pivots from this dictionary, of the dictionary that stands now
abbrev pub EndingIs : Dictionary → Dictionary → List (ℕ × ℕ) → Ending → Type 0
EndingIs d now pivots (Stuck row) = (now ≡ after d pivots) × IsStuck now row
EndingIs d now pivots Optimal = (now ≡ after d pivots) × IsEnd now
EndingIs d now pivots (Wide row column) = NextIsWide (after d pivots) row column
EndingIs d now pivots Many = (length pivots ≡ 20000) × IsDue (after d pivots)
