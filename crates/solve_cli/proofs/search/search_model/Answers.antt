use Rattle.std.proofs.Common.{◌≡◌, Bool, ap, subst, ◌∙◌}
use Rattle.whole_rows.specs.WholeRows.{WholeRows, IsWithinLimits}
use Rattle.proof_tree.specs.Found.{IsFound}
use Rattle.slice_branch.specs.Framed.{IsAllowed}
use Rattle.int_model.specs.declared.model.Model.{Model}
use Rattle.int_model.specs.IntegerRows.{IntegerRows, integer_rows}
use Rattle.solve_cli.specs.Verdict.{rows_of}
use Rattle.solve_cli.proofs.search.search_model.Goals.{In_ok-tree}
use Rattle.solve_cli.proofs.search.search_model.Goals as goal

module _ (c : In_ok-tree) (model : Model) (is : c.args.rows.now ≡ integer_rows model) where
  -- the rows are those of the model
  same : c.whole.result.now ≡ rows_of model
  same = c.whole.ensures ∙ ap (λ (rows : IntegerRows). rows.whole) is

  -- the root is split by single columns
  abbrev plain : Bool
  plain = c.in_ok-tree.ensures.found.0

  found : IsFound (IsAllowed (rows_of model)) (rows_of model) plain c.args.nodes c.in_ok-tree.field-0
  found = subst (λ (whole : WholeRows). IsFound (IsAllowed whole) whole plain c.args.nodes c.in_ok-tree.field-0) same c.in_ok-tree.ensures.found.1

pub returns-in-Done : goal.returns-in-Done
returns-in-Done c = λ model is has.
    let at = (goal.at.returns-in-Done c).In_ok-tree in
    let rows = rows_of model in
    c.done_reply.ensures (plain at model is) c.args.nodes model is c.requires.few has (subst IsWithinLimits (same at model is) c.in_ok-tree.ensures.limits)
    (subst (IsFound (IsAllowed rows) rows (plain at model is) c.args.nodes) c.in-Done.is (found at model is))

pub returns-in-Spent : goal.returns-in-Spent
returns-in-Spent c = λ model is has.
    let at = (goal.at.returns-in-Spent c).In_ok-tree in
    let rows = rows_of model in
    c.spent_reply.ensures (plain at model is) c.args.nodes model is has (subst (IsFound (IsAllowed rows) rows (plain at model is) c.args.nodes) c.in-Spent.is (found at model is))
