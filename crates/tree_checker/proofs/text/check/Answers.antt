use Rattle.std.proofs.Common.{◌^◌, ◌<◌, length, ap, subst, arith}
use Rattle.whole_rows.specs.WholeRows.{WholeRows}
use Rattle.tree_checker.specs.Stages.{Stage, at_head, at_end}
use Rattle.tree_checker.specs.Passes.{PassTo, PassesWhole}
use Rattle.tree_checker.specs.Judging.{Judged}
use Rattle.tree_checker.proofs.Texts.{passes_accepted}
use Rattle.tree_checker.proofs.text.check.Goals as goal

pub returns-in-None : goal.returns-in-None
returns-in-None c =
    let all = c.in-None.ensures in
    let began = c.in_ok-judge.ensures in
    let passed : PassTo c.args.rows.now at_head all.1.0 (at_end c.into_claim.result) =
    subst (λ (stage : Stage). PassTo c.args.rows.now at_head all.1.0 stage) c.into_claim.ensures
    (subst (λ (rows : WholeRows). PassTo rows at_head all.1.0 c.first_fault.new.judge.stage) (ap (λ (judge : Judged). judge.rows) began) all.1.2) in
    let whole : PassesWhole c.args.rows.now c.args.text.now c.into_claim.result = (all.1.0, all.1.1, passed) in
    let fits : length c.args.text.now < 2 ^ 64 = omega arith in
    passes_accepted c.args.rows.now c.args.text.now c.into_claim.result c.args.alloc c.columns-columns.ensures.limits fits whole
