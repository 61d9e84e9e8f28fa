use Rattle.std.proofs.Common.{rules, ◌≢◌, ◌<◌, ℤ, ap, of_z, length, pos, get_or, FitsSigned, refl, arith}
use Rattle.std.specs.Int.{w128}
use Rattle.std.proofs.lemmas.Int.{to_z-of_z}
use Rattle.presolve_map.proofs.LiftLaws.{found-item, none-item}
use Rattle.presolve_map.proofs.lifting.moved_item.Goals as goal

pub returns-then-line-k-ne0 : goal.returns-then-line-k-ne0
returns-then-line-k-ne0 c =
    let fits : FitsSigned w128 (get_or c.args.form.now c.loop-k.k (pos 0)) = search rules in
    let within : c.loop-k.k < length c.args.form.now = omega (arith, c.requires.same_length, c.loop-k-test.true) in
    let other : get_or c.args.line.now c.loop-k.k (pos 0) ≢ pos 0 = λ z. c.if-line-k-ne0.true (ap (λ (x : ℤ). of_z w128 x) z) in
    simp to_z-of_z (found-item (length c.args.form.now) c.args.line.now c.args.form.now c.loop-k.k c.requires.line refl within other)

pub returns : goal.returns
returns c = none-item (length c.args.form.now) c.args.line.now c.args.form.now c.requires.line refl (λ j h. c.loop-k.invariant j (omega (arith, c.requires.same_length, c.loop-k-test.false, h)))
