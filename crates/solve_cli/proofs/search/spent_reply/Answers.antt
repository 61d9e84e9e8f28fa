use Rattle.std.proofs.Common.{◌≡◌, ℕ, ℤ, List, sym, ap, subst, ◌∙◌}
use Rattle.std.specs.Prelude.{codes}
use Rattle.int_model.specs.IntegerRows.{IntegerRows, value_in}
use Rattle.solve_cli.specs.Report.{report_of, bare_lines, found_lines}
use Rattle.solve_cli.proofs.FoundLaws.{IsPart, spends_with, spends_without}
use Rattle.solve_cli.proofs.search.spent_reply.Goals as goal

pub returns-in_ok-point_report-in-Some : goal.returns-in_ok-point_report-in-Some
returns-in_ok-point_report-in-Some c = λ plain nodes model same has found.
    let x = c.in-Some.point in
    let counts = c.count_part-counts.result in
    let lines_at : List ℤ → List (List ℕ) = λ y. found_lines (codes "SPENT") (value_in c.args.rows.now y) c.args.columns.now y counts.nodes counts.plain in
    let spent = subst (IsPart plain nodes model has c.args.part) c.in-Some.is found in (
      lines_at x,
      subst (λ (y : List ℤ). c.in_ok-point_report-in-Some.field-0.items ≡ report_of (lines_at y)) c.items.ensures c.in_ok-point_report-in-Some.ensures,
      spends_with plain nodes model has c.args.columns.now c.args.part x _ _ _ spent (ap (λ (rows : IntegerRows). value_in rows x) same ∙ sym (has.values x ((has.points x).1 spent.known))) c.count_part-counts.ensures.nodes c.count_part-counts.ensures.plain,
    )

pub returns-in_ok-bare_report-in-None : goal.returns-in_ok-bare_report-in-None
returns-in_ok-bare_report-in-None c = λ plain nodes model same has found.
    let counts = c.count_part-counts.result in
    let spent = subst (IsPart plain nodes model has c.args.part) c.in-None.is found in (
      bare_lines (codes "SPENT") counts.nodes counts.plain,
      c.in_ok-bare_report-in-None.ensures,
      spends_without plain nodes model has c.args.columns.now c.args.part _ _ spent c.count_part-counts.ensures.nodes c.count_part-counts.ensures.plain,
    )
