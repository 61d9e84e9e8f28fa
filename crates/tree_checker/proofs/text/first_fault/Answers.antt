use Rattle.std.proofs.Common.{subst, ◌∙◌}
use Rattle.whole_rows.specs.WholeRows.{WholeRows}
use Rattle.tree_checker.specs.Passes.{PassesTo}
use Rattle.tree_checker.proofs.TextLaws.{goes_on}
use Rattle.tree_checker.proofs.text.first_fault.Goals as goal

pub loop-rest-preserved : goal.loop-rest-preserved
loop-rest-preserved c =
    let passed = c.in_default-judge_line.ensures.judged in
    let cut = c.in-Some.ensures in
    record {
      rows = c.judge_line.ensures.rows ∙ c.loop-rest.invariant.rows;
      reached = goes_on c.args.judge.now.rows c.args.text.now c.loop-rest.rest.now c.loop-rest.judge.stage c.loop-rest.number c.loop-rest.invariant.reached
          c.in-Some.parts.line.now c.in-Some.parts.rest.now c.judge_line.new.judge.stage cut.0 passed.0
          (subst (λ (rows : WholeRows). PassesTo rows c.loop-rest.judge.stage c.in-Some.parts.line.now c.judge_line.new.judge.stage) c.loop-rest.invariant.rows passed.1);
    }
