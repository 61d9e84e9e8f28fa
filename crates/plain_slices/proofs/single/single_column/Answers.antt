use Rattle.std.proofs.Common.{ap, of_z, rules, inl, inr, refl, arith, length, ◌<◌, ◌≡◌, true, false}
use Rattle.std.specs.Int.{w128}
use Rattle.plain_slices.proofs.UnitLaws.{no_column-zeros, no_column-two, no_column-factor, one_factor, others_zero, signed-of_factor}
use Rattle.plain_slices.proofs.single.single_column.Goals as goal

pub returns-then-column-form-clause-none : goal.returns-then-column-form-clause-none
returns-then-column-form-clause-none c = no_column-zeros (length c.args.form.now) c.args.form.now (λ k lt. c.nonzero_from-column.ensures.zeros k (omega arith) (omega arith))

pub returns-then-next-form-clause-none : goal.returns-then-next-form-clause-none
returns-then-next-form-clause-none c = no_column-two (length c.args.form.now) c.nonzero_from-column.result c.nonzero_from-next.result c.args.form.now (omega arith) (c.nonzero_from-column.ensures.found (omega arith)) (c.nonzero_from-next.ensures.found (omega arith))

pub returns-then-factor-clause-some : goal.returns-then-factor-clause-some
returns-then-factor-clause-some c =
    let within : c.nonzero_from-column.result < length c.args.form.now = omega arith in
    let whole : c.nonzero_from-next.result ≡ length c.args.form.now = omega arith in
    (within, signed-of_factor c.args.form.now c.nonzero_from-column.result _ true (one_factor c.args.form.now c.nonzero_from-column.result within (others_zero c.args.form.now c.nonzero_from-column.result c.nonzero_from-column.ensures.zeros (λ k le lt. c.nonzero_from-next.ensures.zeros k le (omega arith)))) (inr (search rules, refl)))

pub returns-then-factor-eq1-clause-some : goal.returns-then-factor-eq1-clause-some
returns-then-factor-eq1-clause-some c =
    let within : c.nonzero_from-column.result < length c.args.form.now = omega arith in
    let whole : c.nonzero_from-next.result ≡ length c.args.form.now = omega arith in
    (within, signed-of_factor c.args.form.now c.nonzero_from-column.result _ false (one_factor c.args.form.now c.nonzero_from-column.result within (others_zero c.args.form.now c.nonzero_from-column.result c.nonzero_from-column.ensures.zeros (λ k le lt. c.nonzero_from-next.ensures.zeros k le (omega arith)))) (inl (search rules, refl)))

pub returns-else-factor-clause-none : goal.returns-else-factor-clause-none
returns-else-factor-clause-none c =
    let within : c.nonzero_from-column.result < length c.args.form.now = omega arith in
    no_column-factor (length c.args.form.now) c.nonzero_from-column.result c.args.form.now (c.nonzero_from-column.ensures.found (omega arith)) (λ e. c.if-factor-eq1.false (ap (of_z w128) e)) (λ e. c.if-factor.false (ap (of_z w128) e))
