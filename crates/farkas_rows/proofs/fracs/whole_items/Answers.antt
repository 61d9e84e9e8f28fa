use Rattle.std.proofs.Common.{rules, ◌^◌, ◌<ℤ◌, List, get_or, pos, ℤ, FitsSigned, nat_abs, sym, ap, subst}
use Rattle.std.specs.List.{AllZip}
use Rattle.std.specs.Int.{w128, ◌∣◌}
use Rattle.std.proofs.lemmas.Int.{to_z-of_z}
use Rattle.std.proofs.lemmas.List.{take_all}
use Rattle.exact_math.specs.Rational.{◌/ℚ◌}
use Rattle.farkas_rows.specs.declared.fracs.FracUse.{FracUse}
use Rattle.farkas_rows.specs.declared.line.Use.{Use}
use Rattle.farkas_rows.specs.LeastLine.{IsInRatio}
use Rattle.farkas_rows.proofs.RatioLemmas.{zip-at, zip-more, images-more}
use Rattle.farkas_rows.proofs.fracs.whole_items.Goals as goal

pub whole_times-requires-clause-multiple : goal.whole_times-requires-clause-multiple
whole_times-requires-clause-multiple c =
    let fits : FitsSigned w128 c.args.common = c.ranges.common in
    simp to_z-of_z (subst (λ (item : FracUse). (item.times /ℚ c.args.first.now).den ∣ nat_abs c.args.common) (sym c.item-item.is) (c.requires.multiple c.loop-item.item-index c.item-item.result c.loop-item-test.true))

pub returns-in_default-clause-heavy : goal.returns-in_default-clause-heavy
returns-in_default-clause-heavy c =
    let fits : FitsSigned w128 c.args.common = c.ranges.common in
    let none = simp to_z-of_z at c.in_default.ensures.none in
    λ e number results le all.
    let here = zip-at (λ (item : FracUse) (result : ℤ). IsInRatio number c.args.first.now item.times result × (result <ℤ pos (2 ^ 127))) c.args.items.now results c.loop-item.item-index c.item-item.result (pos 0) all c.loop-item-test.true in
    none number (get_or results c.loop-item.item-index (pos 0)) le (subst (λ (item : FracUse). IsInRatio number c.args.first.now item.times (get_or results c.loop-item.item-index (pos 0))) (sym c.item-item.is) here.0) here.1

pub loop-item-preserved : goal.loop-item-preserved
loop-item-preserved c =
    let fits : FitsSigned w128 c.args.common = c.ranges.common in
    let times_fits : FitsSigned w128 c.in-Some.times = search rules in
    let pushed = simp to_z-of_z at c.in_ok-push.ensures.ok in
    let some = simp to_z-of_z at c.in-Some.ensures.some in
    let ratios = simp to_z-of_z at c.loop-item.invariant.ratios in
    let R = λ (item : FracUse) (use_of : Use). IsInRatio c.args.common c.args.first.now item.times use_of.times in
    let u : Use = record { index = c.item-item.result.index; times = c.in-Some.times } in
    let here : R (get_or c.args.items.now c.loop-item.item-index c.item-item.result) u = subst (λ (item : FracUse). IsInRatio c.args.common c.args.first.now item.times c.in-Some.times) c.item-item.is some in
    rw pushed (simp to_z-of_z (record {
      numbers = images-more (λ (use_of : Use). use_of.index) (λ (item : FracUse). item.index) c.args.items.now c.loop-item.item-index c.item-item.result c.loop-item.uses u c.loop-item-test.true c.loop-item.invariant.numbers (ap (λ (item : FracUse). item.index) c.item-item.is);
      ratios = zip-more R c.args.items.now c.loop-item.item-index c.item-item.result c.loop-item.uses u c.loop-item-test.true ratios here;
    }))

pub returns-clause-ratios : goal.returns-clause-ratios
returns-clause-ratios c =
    let fits : FitsSigned w128 c.args.common = c.ranges.common in
    subst (λ (items : List FracUse). AllZip (λ (item : FracUse) (use_of : Use). IsInRatio c.args.common c.args.first.now item.times use_of.times) items c.loop-item.uses) (take_all c.loop-item.item-index c.args.items.now c.loop-item-test.false) (simp to_z-of_z at c.loop-item.invariant.ratios)
