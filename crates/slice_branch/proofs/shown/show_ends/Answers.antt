use Rattle.std.proofs.Common.{rules, ◌≡◌, pos, ◌+ℤ◌, ◌-ℤ◌, refl, subst, FitsSigned, to_z, of_z}
use Rattle.std.specs.Prelude.{Any}
use Rattle.std.specs.Int.{w128}
use Rattle.std.proofs.lemmas.Int.{to_z-of_z}
use Rattle.exact_math.specs.IntegerRing.{linear}
use Rattle.slice_branch.specs.SeenPoints.{IsAtLeastAt}
use Rattle.slice_branch.proofs.shown.show_ends.Goals as goal

pub returns-then-falls_to : goal.returns-then-falls_to
returns-then-falls_to c =
    let lo = c.args.lo in
    let count = c.args.count in
    let last = c.in-Some.last in
    let lo_fits : FitsSigned w128 lo = search rules in
    let lo_is : to_z w128 (of_z w128 lo) ≡ lo = to_z-of_z w128 lo lo_fits in
    let last_fits : FitsSigned w128 last = search rules in
    let last_is : to_z w128 (of_z w128 last) ≡ last = to_z-of_z w128 last last_fits in
    let sum_is : last ≡ lo +ℤ (count -ℤ pos 1) = search rules in
    let end_is : last ≡ (lo +ℤ count) -ℤ pos 1 = omega (linear, sum_is) in
    λ t some. (
      rw lo_is at (c.if-falls_to.ensures refl),
      subst (λ n. Any (IsAtLeastAt c.args.form.now n) c.args.points.now) end_is (rw last_is at (c.rises_to.ensures t)),
    )
