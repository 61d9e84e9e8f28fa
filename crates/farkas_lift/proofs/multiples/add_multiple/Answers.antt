use Rattle.std.proofs.Common.{◌≡◌, ◌≢◌, ◌<◌, ◌≤◌, pos, get_or, length, refl, sym, ap, ◌∙◌, rules, arith, FitsSigned, to_z-of_z}
use Rattle.std.specs.Int.{w128}
use Rattle.exact_math.specs.Rational.{whole, ◌+ℚ◌, ◌*ℚ◌}
use Rattle.row_lifting.specs.Lifting.{none}
use Rattle.farkas_lift.proofs.MultipleLaws.{on_err, read_at, zero_times, done-more, left-more, stays-more, done-all, entry-out}
use Rattle.farkas_lift.proofs.multiples.add_multiple.Goals as goal

pub returns-then-num-eq0-clause-ok : goal.returns-then-num-eq0-clause-ok
returns-then-num-eq0-clause-ok c =
    let number : c.args.times.now.num ≡ pos 0 = search rules in
    zero_times c.args.row.now c.args.times.now c.args.form.now c.requires number

pub loop-j-preserved : goal.loop-j-preserved
loop-j-preserved c =
    let inside : c.loop-j.j < length c.args.row.now = c.loop-j-test.true in
    let inside_now : c.loop-j.j < length c.loop-j.row = omega (arith, c.loop-j.auto.row) in
    let fits : FitsSigned w128 (get_or c.args.form.now c.loop-j.j (pos 0)) = search rules in
    let told = simp to_z-of_z at c.in_ok-row.ensures in
    let entry : get_or c.loop-j.row c.loop-j.j c.index-row-j.result ≡ get_or c.args.row.now c.loop-j.j none = sym c.index-row-j.is ∙ read_at c.loop-j.row c.loop-j.j c.index-row-j.result inside_now c.index-row-j.is ∙ c.loop-j.invariant.left c.loop-j.j (omega arith) in
    record {
      left = left-more c.args.row.now c.loop-j.row c.loop-j.j c.in_ok-row.field-0 c.loop-j.invariant.left;
      done = done-more c.args.row.now c.loop-j.row c.args.times.now c.args.form.now c.loop-j.j c.in_ok-row.field-0 inside_now (told.1 ∙ ap (λ a. a +ℚ c.args.times.now *ℚ whole (get_or c.args.form.now c.loop-j.j (pos 0))) entry) c.loop-j.invariant.done;
      stays = stays-more c.args.row.now c.args.times.now c.args.form.now c.loop-j.j _ (get_or c.args.form.now c.loop-j.j (pos 0)) entry refl told.0 c.loop-j.invariant.stays;
    }

pub returns-clause-ok : goal.returns-clause-ok
returns-clause-ok c = done-all c.args.row.now c.loop-j.row c.args.times.now c.args.form.now c.loop-j.j c.requires c.loop-j.auto.row c.loop-j-test.false c.loop-j.invariant.done

pub returns-clause-in_range : goal.returns-clause-in_range
returns-clause-in_range c = λ n k lt. c.loop-j.invariant.stays k (let past : length c.args.row.now ≤ c.loop-j.j = c.loop-j-test.false in omega arith)

pub returns-in_err-row-clause-wide : goal.returns-in_err-row-clause-wide
returns-in_err-row-clause-wide c =
    let inside : c.loop-j.j < length c.args.row.now = c.loop-j-test.true in
    let inside_now : c.loop-j.j < length c.loop-j.row = omega (arith, c.loop-j.auto.row) in
    let fits : FitsSigned w128 (get_or c.args.form.now c.loop-j.j (pos 0)) = search rules in
    let number : c.args.times.now.num ≢ pos 0 = search rules in
    let entry : get_or c.loop-j.row c.loop-j.j c.index-row-j.result ≡ get_or c.args.row.now c.loop-j.j none = sym c.index-row-j.is ∙ read_at c.loop-j.row c.loop-j.j c.index-row-j.result inside_now c.index-row-j.is ∙ c.loop-j.invariant.left c.loop-j.j (omega arith) in
    let refused = simp to_z-of_z at c.in_err-row.ensures in
    on_err c.from_residual.result (entry-out c.args.row.now c.args.times.now c.args.form.now c.loop-j.j _ (get_or c.args.form.now c.loop-j.j (pos 0)) inside number entry refl refused)
