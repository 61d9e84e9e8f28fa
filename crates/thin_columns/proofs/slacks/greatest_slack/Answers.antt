use Rattle.std.proofs.Common.{rules, ◌≡◌, ℕ, pos, get_or, ap, sym, ◌∙◌, subst, SFits, to_z-of_z}
use Rattle.std.specs.Int.{w128}
use Rattle.std.proofs.lemmas.List.{length-map}
use Rattle.exact_math.specs.Rational.{whole, ◌-ℚ◌}
use Rattle.frac128.specs.Range.{IsNarrow}
use Rattle.std.specs.Prelude.{All}
use Rattle.generalised_reduce.proofs.TestSteps.{ready_condition}
use Rattle.lp_dict.specs.Systems.{IsPoint, left_sides, wholes}
use Rattle.lp_solve.specs.Certificates.{IsBounded}
use Rattle.lp_solve.specs.Outcomes.{SaysEmpty, SolvedIs}
use Rattle.thin_forms.proofs.RowSteps.{line_narrow}
use Rattle.thin_columns.proofs.StepSteps.{slack_is}
use Rattle.thin_columns.proofs.slacks.greatest_slack.Goals as goal

pub minimise-requires-clause-condition : goal.minimise-requires-clause-condition
minimise-requires-clause-condition c =
    let rows = c.args.system.now.rows in
    let narrow : All IsNarrow c.in_ok-form.form = subst (All IsNarrow) (sym c.in_ok-form.ensures.row) (line_narrow rows c.args.i c.requires.ready.narrow_rows) in
    ready_condition rows c.args.system.now.limits c.in_ok-form.form c.requires.ready c.in_ok-form.ensures.width narrow

pub minimise-requires-clause-bounded : goal.minimise-requires-clause-bounded
minimise-requires-clause-bounded c = subst (λ (n : ℕ). IsBounded n (left_sides c.args.system.now.rows) (wholes c.args.system.now.limits)) (sym c.in_ok-form.ensures.width) c.requires.ready.bounded

pub unreachable-requires : goal.unreachable-requires
unreachable-requires c =
    let rows = c.args.system.now.rows in
    let inhabited = c.requires.ready.inhabited in
    c.in_ok-_point.ensures.empty.0 (subst SaysEmpty (sym c.in-Empty.is) tt) inhabited.point (subst (λ (n : ℕ). IsPoint n (left_sides rows) (wholes c.args.system.now.limits) inhabited.point) (sym c.in_ok-form.ensures.width) inhabited.has)

pub returns : goal.returns
returns c =
    let rows = c.args.system.now.rows in
    let limits = c.args.system.now.limits in
    let form = c.in_ok-form.form in
    let solved = subst (SolvedIs (left_sides rows) (wholes limits) (wholes form)) c.in-Least.is c.in_ok-_point.ensures.solved in
    let fits : SFits w128 (get_or c.items.result.now c.args.i (pos 0)) = search rules in
    let read : c.whole.result ≡ whole (get_or c.items.result.now c.args.i (pos 0)) = simp to_z-of_z at c.whole.ensures in
    let limit : c.whole.result ≡ whole (get_or limits c.args.i (pos 0)) = read ∙ ap (λ l. whole (get_or l c.args.i (pos 0))) c.items.ensures in
    slack_is rows limits form c.args.i c.in-Least._point c.in-Least.value c.in_ok-sub-in-Least.field-0 c.in-Least._multipliers c.in_ok-form.ensures.row (length-map form whole ∙ c.in_ok-form.ensures.width) solved.0 (c.in_ok-sub-in-Least.ensures.1 ∙ ap (λ q. q -ℚ c.in-Least.value) limit)
