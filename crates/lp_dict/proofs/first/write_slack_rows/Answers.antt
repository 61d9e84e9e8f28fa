use Rattle.std.proofs.Common.{◌≡◌, ◌<◌, ◌≤◌, pos, ◌∙◌, ap, refl, rules, arith, get_or, SFits, to_z-of_z}
use Rattle.std.specs.Int.{w128}
use Rattle.exact_math.specs.Rational.{whole}
use Rattle.lp_dict.specs.Dictionaries.{slack_row}
use Rattle.lp_dict.specs.Systems.{wholes}
use Rattle.lp_dict.proofs.FlatSteps.{length-with_row}
use Rattle.lp_dict.proofs.TableSteps.{slack_rows_more, slack_rows_all}
use Rattle.lp_dict.proofs.first.write_slack_rows.Goals as goal

pub loop-i-preserved : goal.loop-i-preserved
loop-i-preserved c =
    let limits = c.args.limits.now in
    let fits : SFits w128 (get_or limits c.loop-i.i (pos 0)) = search rules in
    let value : c.whole.result ≡ whole (get_or limits c.loop-i.i (pos 0)) = simp to_z-of_z at c.whole.ensures in
    let long = c.write_slack_row.auto.row ∙ c.row_mut.ensures.width in
    let before : c.loop-i.i < c.args.rows.now.rows = omega (arith, c.rows-i-end.ensures.count, c.loop-i-test.true) in
    let place : c.loop-i.i < c.loop-i.table.rows = omega (arith, c.loop-i.invariant.0) in (
      c.loop-i.invariant.0,
      c.loop-i.invariant.1,
      length-with_row c.loop-i.table c.loop-i.i c.write_slack_row.new.row c.loop-i.invariant.2 place long ∙ c.loop-i.invariant.2,
      slack_rows_more c.loop-i.table c.args.rows.now limits c.loop-i.i c.write_slack_row.new.row c.row.result.now (get_or limits c.loop-i.i (pos 0)) c.loop-i.invariant.0 c.loop-i.invariant.1 c.loop-i.invariant.2 c.requires.as_many_limits before c.row.ensures.value refl
          (c.write_slack_row.ensures ∙ ap (slack_row (wholes c.row.result.now)) value) long c.loop-i.invariant.3,
    )

pub returns-clause-written : goal.returns-clause-written
returns-clause-written c =
    let low : c.args.rows.now.rows ≤ c.loop-i.i = omega (arith, c.rows-i-end.ensures.count, c.loop-i-test.false) in
    let high : c.loop-i.i ≤ c.args.rows.now.rows = omega (arith, c.rows-i-end.ensures.count, c.loop-i.auto.i-end) in
    slack_rows_all c.loop-i.table c.args.rows.now c.args.limits.now c.loop-i.i c.requires.as_many_limits low high c.loop-i.invariant.3
