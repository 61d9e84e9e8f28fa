use Rattle.std.proofs.Common.{rules, ◌≡◌, ◌^◌, ℕ, to_z, pos, ℤ, List, FitsSigned, of_z, sym, ap, subst, ◌∙◌}
use Rattle.std.specs.Int.{w128}
use Rattle.std.proofs.lemmas.Int.{to_z-of_z}
use Rattle.exact_math.specs.Ring.{integers}
use Rattle.exact_math.specs.Rational.{ℚ}
use Rattle.exact_vectors.specs.Vectors.{negate}
use Rattle.lp_dict.specs.Systems.{wholes}
use Rattle.farkas_rows.specs.Inequalities.{above}
use Rattle.root_gaps.specs.GapEnds.{IsPastBox, IsRefutedBy}
use Rattle.root_gaps.proofs.EndLaws.{halts-gap, upper-heavy, upper-leaves, upper-past, upper-refuted}
use Rattle.root_gaps.proofs.ends.upper_line.Goals as goal

pub box_line-requires-clause-past : goal.box_line-requires-clause-past
box_line-requires-clause-past c =
    let fits : FitsSigned w128 c.args.gap.now.lo = search rules in
    let last : c.args.gap.now.lo ≡ pos (2 ^ 97) = sym (to_z-of_z w128 c.args.gap.now.lo fits) ∙ ap (λ (n : ℕ). to_z w128 n) c.if-gap-eq-FARTHEST.true in
    let past : IsPastBox c.args.rows.now (above c.args.form.now c.args.gap.now.lo) = upper-past c.args.rows.now c.args.work.now c.args.gap.now c.args.form.now c.requires.gap last in
    (simp to_z-of_z past, ap (negate integers) (sym c.items.ensures))

pub times_line-requires-clause-refuted : goal.times_line-requires-clause-refuted
times_line-requires-clause-refuted c =
    let lo : FitsSigned w128 c.args.gap.now.lo = search rules in
    let divisor : FitsSigned w128 c.args.gap.now.divisor = search rules in
    let times : c.args.times.now ≡ wholes c.args.gap.now.times = c.requires.times in
    let here : IsRefutedBy c.args.rows.now c.args.work.now c.args.gap.now.divisor c.args.times.now (above c.args.form.now c.args.gap.now.lo) =
    subst (λ (l : List ℚ). IsRefutedBy c.args.rows.now c.args.work.now c.args.gap.now.divisor l (above c.args.form.now c.args.gap.now.lo)) (sym times) (upper-refuted c.args.rows.now c.args.work.now c.args.gap.now c.args.form.now c.requires.gap (λ e. c.if-gap-eq-FARTHEST.false (ap (λ (z : ℤ). of_z w128 z) e))) in
    simp to_z-of_z here

pub returns-clause-halt : goal.returns-clause-halt
returns-clause-halt c =
    let lo : FitsSigned w128 c.args.gap.now.lo = search rules in
    let divisor : FitsSigned w128 c.args.gap.now.divisor = search rules in
    let times : c.args.times.now ≡ wholes c.args.gap.now.times = c.requires.times in
    let wide = rw times at c.times_line.ensures.wide in
    let heavy = simp to_z-of_z at (rw times at c.times_line.ensures.heavy) in
    halts-gap c.args.rows.now c.times_line.result
    (λ e. upper-leaves c.args.rows.now c.args.work.now c.args.gap.now c.args.form.now c.requires.gap c.columns-columns.ensures.limits (wide e))
    (λ e. upper-heavy c.args.rows.now c.args.work.now c.args.gap.now c.args.form.now c.requires.gap (heavy e))
