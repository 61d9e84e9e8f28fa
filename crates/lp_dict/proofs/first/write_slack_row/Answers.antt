use Rattle.std.proofs.Common.{◌≡◌, pos, ◌∙◌, ap, refl, rules, get_or, SFits, to_z-of_z}
use Rattle.std.specs.Int.{w128}
use Rattle.exact_math.specs.Rational.{whole, neg_ℚ}
use Rattle.lp_dict.proofs.FirstSteps.{slack_more, slack_last}
use Rattle.lp_dict.proofs.first.write_slack_row.Goals as goal

pub loop-j-preserved : goal.loop-j-preserved
loop-j-preserved c =
    let factors = c.args.factors.now in
    let fits : SFits w128 (get_or factors c.loop-j.j (pos 0)) = search rules in
    let value : c.whole.result ≡ whole (get_or factors c.loop-j.j (pos 0)) = simp to_z-of_z at c.whole.ensures in
    slack_more factors c.args.limit c.args.row.now c.requires.size c.loop-j.row c.loop-j.j c.neg.result (get_or factors c.loop-j.j (pos 0)) c.loop-j-test.true refl (c.neg.ensures ∙ ap neg_ℚ value) c.loop-j.invariant

pub returns : goal.returns
returns c = slack_last c.args.factors.now c.args.limit c.args.row.now c.requires.size c.loop-j.row c.loop-j.j c.loop-j-test.false c.loop-j.auto.j-end c.loop-j.invariant
