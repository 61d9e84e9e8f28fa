-- What the checker says of a proof, as what the model comes to.
use Rattle.std.proofs.Common.{◌≡◌, ◌++◌, [], ◌∷◌, refl, sym, ap, subst}
use Rattle.std.specs.Prelude.{codes}
use Rattle.exact_math.specs.Rational.{ℚ}
use Rattle.int_model.specs.declared.model.Model.{Model}
use Rattle.int_model.specs.IntegerRows.{IntegerRows, integer_rows, value_in}
use Rattle.int_model.specs.Points.{value_at}
use Rattle.proof_text.specs.declared.claim.Claim.{Claim}
use Rattle.proof_text.specs.declared.claim.Claim.TheVariants as claims
use Rattle.tree_checker.specs.Accepts.{IsClaim, IsTrueOf}
use Rattle.solve_cli.specs.Report.{fraction_text, accepted_lines}
use Rattle.solve_cli.specs.Verdict.{rows_of, IsTrueFor}
use Rattle.solve_cli.specs.Solving.{HasRows}

module _ (model : Model) (has : HasRows model) where
  -- what is true of the rows is true of the model
  pub true_for : (claim : Claim) → IsTrueOf (rows_of model) claim → IsTrueFor model claim
  true_for (claims.Optimal x) is = (has.best x).1 is
  true_for claims.Infeasible is = λ x point. is x ((has.points x).0 point)
  true_for claims.Open is = absurd is

  -- the value of the claimed point by the rows is that by the model
  pub lines_same : (rows : IntegerRows) (claim : Claim) → rows ≡ integer_rows model → IsClaim (rows_of model) claim → accepted_lines (value_in rows) claim ≡ accepted_lines (value_at model) claim
  lines_same rows (claims.Optimal x) same is =
      let value : value_in (integer_rows model) x ≡ value_at model x = sym (has.values x ((has.points x).1 is)) in
      subst (λ (r : IntegerRows). accepted_lines (value_in r) (claims.Optimal x) ≡ accepted_lines (value_at model) (claims.Optimal x)) (sym same)
      (ap (λ (v : ℚ). codes "ACCEPTED OPTIMAL" ∷ (codes "VALUE " ++ fraction_text v) ∷ []) value)
  lines_same rows claims.Infeasible same is = refl
  lines_same rows claims.Open same is = absurd is
