use Rattle.std.proofs.Common.{◌≡◌, ◌+◌, ◌^◌, pos, neg_ℤ, ◌+ℤ◌, ◌≤ℤ◌, refl, arith, rules, FitsSigned, to_z, of_z}
use Rattle.std.specs.Int.{w128}
use Rattle.std.proofs.lemmas.Int.{ints, to_z-of_z}
use Rattle.proof_tree.specs.Moves.{widest}
use Rattle.slice_branch.proofs.PlaceLaws.{sum_fits}
use Rattle.slice_branch.proofs.check.has_closed_ends.Goals as goal

pub returns-then-closes_under : goal.returns-then-closes_under
returns-then-closes_under c =
    let d = c.args.direction.now in
    let lo_fits : FitsSigned w128 d.lo = search rules in
    let count_fits : FitsSigned w128 d.count = search rules in
    let most_fits : FitsSigned w128 c.args.most = search rules in
    let lo_is : to_z w128 (of_z w128 d.lo) ≡ d.lo = to_z-of_z w128 d.lo lo_fits in
    let count_is : to_z w128 (of_z w128 d.count) ≡ d.count = to_z-of_z w128 d.count count_fits in
    let most_is : to_z w128 (of_z w128 c.args.most) ≡ c.args.most = to_z-of_z w128 c.args.most most_fits in
    let from_low : neg_ℤ (pos (2 ^ 97)) ≤ℤ d.lo = omega (arith, ints, rw lo_is at c.if-lo.false) in
    let to_high : d.lo ≤ℤ pos (2 ^ 97) = omega (arith, ints, rw lo_is at c.if-lo-gt-LARGEST_VALUE.false) in
    let low : pos 0 ≤ℤ d.count = omega (arith, ints, rw count_is at c.if-count-lt0.false) in
    let high : d.count ≤ℤ c.args.most = omega (arith, ints, rw (count_is, most_is) at c.if-count-most.false) in
    let narrow : d.count ≤ℤ pos (widest c.args.rows.now.box + 1) = rw c.requires.most at high in
    let sum_is = to_z-of_z w128 (d.lo +ℤ d.count) (sum_fits d.lo d.count (widest c.args.rows.now.box) from_low to_high low narrow c.requires.small) in
    λ t. record {
      form = rw c.items.ensures at (c.if-not-is_split_form.ensures.0 refl);
      lo = (from_low, to_high);
      some = low;
      narrow = narrow;
      below = rw lo_is at (c.if-closes_under.ensures refl);
      above = rw (lo_is, count_is, sum_is) at (c.closes_under-then-closes_under.ensures t);
    }
