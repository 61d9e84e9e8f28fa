use Rattle.std.proofs.Common.{rules, ◌≡◌, ◌+ℤ◌, ◌*ℤ◌, [], ◌∷◌, length, pos, FitsSigned, refl, subst, arith}
use Rattle.std.specs.Int.{w128}
use Rattle.std.proofs.lemmas.Int.{to_z-of_z}
use Rattle.std.proofs.lemmas.List.Elements.{All-nil, All-head}
use Rattle.exact_math.specs.IntegerRing.{linear}
use Rattle.farkas_rows.specs.Inequalities.{cut_inequality}
use Rattle.farkas_rows.specs.Refutes.{IsMultiplier}
use Rattle.farkas_rows.specs.Sides.{ComesTo}
use Rattle.farkas_rows.proofs.LineLemmas.{ComesTo-none, ComesTo-room, ComesTo-push}
use Rattle.farkas_rows.proofs.judge.add_cut.Goals as goal

pub add_to-requires-clause-room : goal.add_to-requires-clause-room
add_to-requires-clause-room c =
    let n = length c.args.rows.now.box in
    let cut = c.in-Some.cut in
    let start : ComesTo n [] [] c.args.sums.now (pos 0) = rw c.requires.cleared (ComesTo-none n) in
    let multiplier = All-head IsMultiplier cut.times [] (rw c.in-Some.is at c.requires.multipliers) in
    let light = rw c.in-Some.is at c.requires.light in
    let times_fits : FitsSigned w128 cut.times = search rules in
    let value_fits : FitsSigned w128 cut.value = search rules in
    rw (start.long, c.cut_side.ensures.side) (simp to_z-of_z (ComesTo-room n [] [] c.args.sums.now (pos 0) cut.times (cut_inequality c.args.rows.now cut.value) start refl (All-nil _) multiplier.0 light))

pub returns-in-Some : goal.returns-in-Some
returns-in-Some c =
    let n = length c.args.rows.now.box in
    let cut = c.in-Some.cut in
    let start : ComesTo n [] [] c.args.sums.now (pos 0) = rw c.requires.cleared (ComesTo-none n) in
    let times_fits : FitsSigned w128 cut.times = search rules in
    let value_fits : FitsSigned w128 cut.value = search rules in
    let result_fits : FitsSigned w128 c.add_to.result = search rules in
    let side = simp to_z-of_z at c.cut_side.ensures.side in
    let added = simp to_z-of_z at (rw (start.long, side) at c.add_to.ensures.sums) in
    let limit = simp to_z-of_z at (rw (start.long, side) at c.add_to.ensures.limit) in
    let long : length c.add_to.new.sums ≡ length c.args.sums.now = omega arith in
    let end : pos 0 +ℤ cut.times *ℤ (cut_inequality c.args.rows.now cut.value).limit ≡ c.add_to.result = omega (linear, limit) in
    rw c.in-Some.is (simp to_z-of_z (subst (ComesTo n (cut.times ∷ []) (cut_inequality c.args.rows.now cut.value ∷ []) c.add_to.new.sums) end (ComesTo-push n [] [] c.args.sums.now c.add_to.new.sums (pos 0) cut.times (cut_inequality c.args.rows.now cut.value) start refl long (λ j lt. added j (omega (arith, start.long))))))
