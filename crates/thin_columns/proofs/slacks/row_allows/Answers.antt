use Rattle.std.proofs.Common.{◌≡◌, ◌^◌, ◌<◌, pos, ap, sym, ◌∙◌, subst, arith}
use Rattle.std.specs.Int.{w128}
use Rattle.std.proofs.lemmas.Int.{to_z_pos}
use Rattle.exact_math.specs.Rational.{whole, ◌*ℚ◌, ◌≤ℚ◌}
use Rattle.exact_math.specs.RationalTests.{le_true}
use Rattle.spaces.specs.Tables.{row_at}
use Rattle.thin_columns.specs.Sizes.{greatest_size}
use Rattle.thin_columns.proofs.SystemSteps.{flat_allows, slack_allows}
use Rattle.thin_columns.proofs.slacks.row_allows.Goals as goal

pub returns-then-reach-eq0 : goal.returns-then-reach-eq0
returns-then-reach-eq0 c =
    let size : c.reach_of-reach.result ≡ greatest_size (row_at c.args.system.now.rows c.args.i) = c.reach_of-reach.ensures.size ∙ ap greatest_size c.row.ensures.value in
    λ shown. flat_allows c.args.system.now.rows c.args.system.now.limits c.args.step.now c.args.i c.requires.ready c.requires.inside (omega (arith, size, c.if-reach-eq0.true))

pub returns : goal.returns
returns c =
    let reach = c.reach_of-reach.result in
    let size : reach ≡ greatest_size (row_at c.args.system.now.rows c.args.i) = c.reach_of-reach.ensures.size ∙ ap greatest_size c.row.ensures.value in
    let small : reach < 2 ^ 127 = omega (arith, c.reach_of-reach.ensures.narrow) in
    let e : c.whole.result ≡ whole (pos reach) = c.whole.ensures ∙ ap whole (to_z_pos w128 reach small) in
    let needed : c.in_ok-needed.needed ≡ whole (pos reach) *ℚ c.args.step.now = c.in_ok-needed.ensures.1 ∙ ap (λ q. q *ℚ c.args.step.now) e in
    λ shown. slack_allows c.args.system.now.rows c.args.system.now.limits c.args.step.now c.in_ok-slack.slack c.args.i reach size c.in_ok-slack.ensures (subst (λ q. q ≤ℚ c.in_ok-slack.slack) needed (le_true c.in_ok-needed.needed c.in_ok-slack.slack (sym c.le.ensures ∙ shown)))
