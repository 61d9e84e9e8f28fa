-- How the pivots end.
use Rattle.std.proofs.Common.{◌≡◌, ℕ, inl, inr, List, length, sym, subst, true, false}
use Rattle.std.specs.Prelude.{Result, Ok, Err, OnOk, OnErr}
use Rattle.std.specs.Result.{is_err}
use Rattle.lp_dict.specs.Dictionaries.{Dictionary}
use Rattle.lp_solve.specs.Endings.{EndsAs, EndingIs}
use Rattle.lp_solve.specs.Rule.{IsNext, WideTime, after}
use Rattle.lp_solve.specs.Steps.{StepIs}
use Rattle.lp_solve.specs.declared.search.Step.{Step}
use Rattle.lp_solve.specs.declared.search.Step.TheVariants.{Pivot, WideQuotient, NoPoint, Least}
use Rattle.lp_solve.specs.declared.solve.Ending.{Ending}

-- what stands where the call failed
pub failed : {T E P : Type 0} (r : Result T E) → is_err r ≡ true → OnErr r P → P
failed (Ok x) e p = let h : false ≡ true = e in (cc)
failed (Err x) e p = p

-- and where it did not
pub made : {T E P : Type 0} (r : Result T E) → is_err r ≡ false → OnOk r P → P
made (Ok x) e p = p
made (Err x) e p = let h : true ≡ false = e in (cc)

-- the ending where no more pivots are made
pub ending_is : (d now : Dictionary) (pivots : List (ℕ × ℕ)) (step : Step) (ending : Ending) → now ≡ after d pivots → length pivots ≡ 20000 → StepIs now step → EndsAs step ending → EndingIs d now pivots ending
ending_is d now pivots (Pivot i j) ending is count s e = subst (EndingIs d now pivots) (sym e) (count, (i, j, inl (subst (λ t. IsNext t i j) is s)))
ending_is d now pivots (WideQuotient i j) ending is count s e = subst (EndingIs d now pivots) (sym e) (count, (i, j, inr (subst (λ t. WideTime t i j) is s)))
ending_is d now pivots (NoPoint i) ending is count s e = subst (EndingIs d now pivots) (sym e) (is, s)
ending_is d now pivots Least ending is count s e = subst (EndingIs d now pivots) (sym e) (is, s)
