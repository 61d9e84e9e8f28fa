use Rattle.std.proofs.Common.{length, ap, sym, subst, ◌∙◌}
use Rattle.tree_checker.specs.declared.step.Step.TheVariants as steps
use Rattle.tree_checker.specs.Claims.{claim_of}
use Rattle.tree_checker.specs.Stages.{at_head, at_done}
use Rattle.tree_checker.specs.Passes.{PassesTo}
use Rattle.tree_checker.specs.Faults.{IsFault}
use Rattle.tree_checker.specs.Judging.{Judged, stage_of, HasRange, HasLast}
use Rattle.tree_checker.proofs.JudgeLaws.{settled, holds_at, judged_at, at_step}
use Rattle.tree_checker.proofs.judge.Judge.line.Goals as goal

pub unreachable-requires : goal.unreachable-requires
unreachable-requires c =
    let s = c.self.inside in
    c.requires (claim_of s.point.items s.last, sym (ap (λ (j : Judged). j.stage) c.self.view_is) ∙ ap (λ step. stage_of step (claim_of s.point.items s.last) s.splits.splits s.form) c.in-End.is)

pub returns-in-Head-clause-judged : goal.returns-in-Head-clause-judged
returns-in-Head-clause-judged c =
    let s = c.self.inside in
    let claimed = claim_of s.point.items s.last in
    judged_at c.args.self.now s.rows.now at_head c.args.text.now c.settle.result (stage_of c.settle.new.step claimed s.splits.splits s.form)
    (at_step c.args.self.now s.rows.now s.step steps.Head claimed s.splits.splits s.form c.self.view_is c.in-Head.is)
    (settled c.settle.result c.judge_head.result s.step c.settle.new.step (λ step. PassesTo s.rows.now at_head c.args.text.now (stage_of step claimed s.splits.splits s.form)) (IsFault s.rows.now at_head c.args.text.now) c.settle.ensures (c.judge_head.ensures.judged s.rows.now claimed s.splits.splits s.form))

pub returns-in-Done-clause-judged : goal.returns-in-Done-clause-judged
returns-in-Done-clause-judged c =
    let s = c.self.inside in
    let claimed = claim_of s.point.items s.last in
    judged_at c.args.self.now s.rows.now (at_done claimed) c.args.text.now c.settle-in-Done.result (stage_of c.settle-in-Done.new.step claimed s.splits.splits s.form)
    (at_step c.args.self.now s.rows.now s.step steps.Done claimed s.splits.splits s.form c.self.view_is c.in-Done.is)
    (settled c.settle-in-Done.result c.judge_done.result s.step c.settle-in-Done.new.step (λ step. PassesTo s.rows.now (at_done claimed) c.args.text.now (stage_of step claimed s.splits.splits s.form)) (IsFault s.rows.now (at_done claimed) c.args.text.now) c.settle-in-Done.ensures (c.judge_done.ensures.judged s.rows.now claimed s.splits.splits s.form))

pub invariant_of-self : goal.invariant_of-self
invariant_of-self c =
    let s = c.self.inside in
    let is = c.self.invariant in
    record {
      limits = is.limits;
      dense_point = is.dense_point;
      columns = is.columns;
      dense = is.dense;
      room = is.room;
      range = holds_at c.settle.result c.judge_head.result s.step c.settle.new.step steps.Claim (HasRange (length s.rows.now.box) s.splits.splits) c.settle.ensures c.judge_head.ensures.step is.range tt;
      value = holds_at c.settle.result c.judge_head.result s.step c.settle.new.step steps.Claim (λ step. HasLast s.rows.now step s.point.items s.last) c.settle.ensures c.judge_head.ensures.step is.value tt;
    }

pub invariant_of-self-in-Done : goal.invariant_of-self-in-Done
invariant_of-self-in-Done c =
    let s = c.self.inside in
    let is = c.self.invariant in
    let value : HasLast s.rows.now steps.Done s.point.items s.last = subst (λ step. HasLast s.rows.now step s.point.items s.last) c.in-Done.is is.value in
    record {
      limits = is.limits;
      dense_point = is.dense_point;
      columns = is.columns;
      dense = is.dense;
      room = is.room;
      range = holds_at c.settle-in-Done.result c.judge_done.result s.step c.settle-in-Done.new.step steps.End (HasRange (length s.rows.now.box) s.splits.splits) c.settle-in-Done.ensures c.judge_done.ensures.step is.range tt;
      value = holds_at c.settle-in-Done.result c.judge_done.result s.step c.settle-in-Done.new.step steps.End (λ step. HasLast s.rows.now step s.point.items s.last) c.settle-in-Done.ensures c.judge_done.ensures.step is.value value;
    }
