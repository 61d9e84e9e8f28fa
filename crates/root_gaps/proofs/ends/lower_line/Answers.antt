use Rattle.std.proofs.Common.{rules, ◌≡◌, ℤ, List, FitsSigned, of_z, sym, ap, subst, ◌∙◌}
use Rattle.std.specs.Int.{w128}
use Rattle.std.proofs.lemmas.Int.{to_z-of_z}
use Rattle.exact_math.specs.Rational.{ℚ}
use Rattle.exact_math.specs.RationalRing.{rationals}
use Rattle.exact_vectors.specs.Vectors.{negate}
use Rattle.lp_dict.specs.Systems.{wholes}
use Rattle.farkas_rows.specs.Inequalities.{below}
use Rattle.root_gaps.specs.GapEnds.{IsRefutedBy}
use Rattle.root_gaps.proofs.EndLaws.{halts-gap, lower-heavy, lower-leaves, lower-refuted}
use Rattle.root_gaps.proofs.ends.lower_line.Goals as goal

pub times_line-requires-clause-refuted : goal.times_line-requires-clause-refuted
times_line-requires-clause-refuted c =
    let lo : FitsSigned w128 c.args.gap.now.lo = search rules in
    let divisor : FitsSigned w128 c.args.gap.now.divisor = search rules in
    let times : c.deref.result.now ≡ negate rationals (wholes c.args.gap.now.times) = c.deref.ensures.value ∙ c.in_ok-turned.ensures ∙ ap (negate rationals) c.requires.times in
    let here : IsRefutedBy c.args.rows.now c.args.work.now c.args.gap.now.divisor c.deref.result.now (below c.args.form.now c.args.gap.now.lo) =
    subst (λ (l : List ℚ). IsRefutedBy c.args.rows.now c.args.work.now c.args.gap.now.divisor l (below c.args.form.now c.args.gap.now.lo)) (sym times) (lower-refuted c.args.rows.now c.args.work.now c.args.gap.now c.args.form.now c.requires.gap (λ e. c.if-gap.false (ap (λ (z : ℤ). of_z w128 z) e))) in
    simp to_z-of_z here

pub returns-clause-halt : goal.returns-clause-halt
returns-clause-halt c =
    let lo : FitsSigned w128 c.args.gap.now.lo = search rules in
    let divisor : FitsSigned w128 c.args.gap.now.divisor = search rules in
    let times : c.deref.result.now ≡ negate rationals (wholes c.args.gap.now.times) = c.deref.ensures.value ∙ c.in_ok-turned.ensures ∙ ap (negate rationals) c.requires.times in
    let wide = rw times at c.times_line.ensures.wide in
    let heavy = simp to_z-of_z at (rw times at c.times_line.ensures.heavy) in
    halts-gap c.args.rows.now c.times_line.result
    (λ e. lower-leaves c.args.rows.now c.args.work.now c.args.gap.now c.args.form.now c.requires.gap c.columns-columns.ensures.limits (wide e))
    (λ e. lower-heavy c.args.rows.now c.args.work.now c.args.gap.now c.args.form.now c.requires.gap (heavy e))
