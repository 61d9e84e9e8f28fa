use Rattle.std.proofs.Common.{◌≡◌, ℕ, ℤ, List, sym, ap, subst, ◌∙◌}
use Rattle.std.specs.Prelude.{codes}
use Rattle.int_model.specs.IntegerRows.{IntegerRows, value_in}
use Rattle.solve_cli.specs.Report.{report_of, bare_lines, found_lines}
use Rattle.solve_cli.proofs.FoundLaws.{IsTree, finds_best, finds_none}
use Rattle.solve_cli.proofs.search.done_reply.Goals as goal

pub returns-in_ok-point_report-in-Some : goal.returns-in_ok-point_report-in-Some
returns-in_ok-point_report-in-Some c = λ plain nodes model same few has limits found.
    let x = c.in-Some.point in
    let counts = c.count_tree-counts.result in
    let lines_at : List ℤ → List (List ℕ) = λ y. found_lines (codes "OPTIMAL") (value_in c.args.rows.now y) c.args.columns.now y counts.nodes counts.plain in
    let done = subst (IsTree plain nodes model has c.args.tree) c.in-Some.is found in (
      lines_at x,
      subst (λ (y : List ℤ). c.in_ok-point_report-in-Some.field-0.items ≡ report_of (lines_at y)) c.items.ensures c.in_ok-point_report-in-Some.ensures,
      finds_best plain nodes model has c.args.columns.now limits few c.args.tree x _ _ _ done (ap (λ (rows : IntegerRows). value_in rows x) same ∙ sym (has.values x ((has.points x).1 done.known))) c.count_tree-counts.ensures.nodes c.count_tree-counts.ensures.plain,
    )

pub returns-in_ok-bare_report-in-None : goal.returns-in_ok-bare_report-in-None
returns-in_ok-bare_report-in-None c = λ plain nodes model same few has limits found.
    let counts = c.count_tree-counts.result in
    let done = subst (IsTree plain nodes model has c.args.tree) c.in-None.is found in (
      bare_lines (codes "INFEASIBLE") counts.nodes counts.plain,
      c.in_ok-bare_report-in-None.ensures,
      finds_none plain nodes model has c.args.columns.now limits few c.args.tree _ _ done c.count_tree-counts.ensures.nodes c.count_tree-counts.ensures.plain,
    )
