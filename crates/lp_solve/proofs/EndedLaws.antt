-- The answers at the ends of the pivots.
use Rattle.std.proofs.Common.{◌≡◌, ℕ, List, length, sym, ap, subst, ◌∙◌}
use Rattle.lp_dict.specs.Dictionaries.{Dictionary}
use Rattle.lp_solve.specs.Ended.{EndsLeast, EndsEmpty, EndsSo}
use Rattle.lp_solve.specs.Rule.{AreLegal, after, form_at}
use Rattle.lp_solve.specs.Steps.{IsStuck, IsEnd}
use Rattle.lp_solve.specs.Values.{vertex, form_multipliers, row_multipliers}
use Rattle.lp_solve.specs.declared.answer.Solved.{Solved}
use Rattle.lp_solve.specs.declared.answer.Solved.TheVariants.{Least, Empty}

-- no point, read off the last dictionary
pub ends_empty : (first start now : Dictionary) (pivots : List (ℕ × ℕ)) (row : ℕ) (solved : Solved) → start ≡ first → AreLegal start pivots → now ≡ after start pivots → IsStuck now row → solved ≡ Empty (row_multipliers now row) → EndsSo first pivots solved
ends_empty first start now pivots row solved begun legal is stuck answer =
    let last : now ≡ after first pivots = is ∙ ap (λ d. after d pivots) begun in
    let ended : EndsEmpty first pivots (row_multipliers now row) = record {
      legal = subst (λ d. AreLegal d pivots) begun legal;
      row = row;
      stuck = subst (λ d. IsStuck d row) last stuck;
      multipliers_are = ap (λ d. row_multipliers d row) last;
    } in
    subst (EndsSo first pivots) (sym answer) ended

-- the least value, read off the last dictionary
pub ends_least : (first start now : Dictionary) (pivots : List (ℕ × ℕ)) (solved : Solved) → start ≡ first → AreLegal start pivots → now ≡ after start pivots → IsEnd now → solved ≡ Least (vertex now) (form_at now (length now.outside)) (form_multipliers now)
    → EndsSo first pivots solved
ends_least first start now pivots solved begun legal is end answer =
    let last : now ≡ after first pivots = is ∙ ap (λ d. after d pivots) begun in
    let ended : EndsLeast first pivots (vertex now) (form_at now (length now.outside)) (form_multipliers now) = record {
      legal = subst (λ d. AreLegal d pivots) begun legal;
      end = subst IsEnd last end;
      point_is = ap vertex last;
      value_is = ap (λ d. form_at d (length d.outside)) last;
      multipliers_are = ap form_multipliers last;
    } in
    subst (EndsSo first pivots) (sym answer) ended
