use Rattle.std.proofs.Common.{rules, ◌≡◌, List, pos, get_or, FitsSigned, to_z, ap, subst, arith, ◌∙◌}
use Rattle.std.specs.Int.{w128}
use Rattle.std.proofs.lemmas.Int.{to_z-of_z}
use Rattle.std.proofs.lemmas.List.{take_all}
use Rattle.std.proofs.lemmas.List.Elements.{All-more}
use Rattle.exact_math.specs.Rational.{ℚ, ◌/ℚ◌}
use Rattle.exact_math.specs.RationalLaws.{den_pos}
use Rattle.frac128.specs.Range.{InRange}
use Rattle.farkas_rows.specs.declared.fracs.FracUse.{FracUse}
use Rattle.farkas_rows.specs.LeastLine.{IsCommon}
use Rattle.farkas_rows.proofs.RatioLemmas.{IsCommon-none, IsCommon-more, IsCommon-narrow}
use Rattle.farkas_rows.proofs.fracs.common_multiple.Goals as goal

pub loop-item-init : goal.loop-item-init
loop-item-init c = record {
  in_range = λ k d lt. absurd (omega arith);
  common = IsCommon-none (λ (item : FracUse). (item.times /ℚ c.args.first.now).den);
}

pub returns-in_err-common-clause-none : goal.returns-in_err-common-clause-none
returns-in_err-common-clause-none c =
    let den = λ (item : FracUse). (item.times /ℚ c.args.first.now).den in
    let den_fits : FitsSigned w128 c.den.result = search rules in
    let wide = simp to_z-of_z at c.in_err-common.ensures in
    let ratio : c.den.result ≡ pos (den (get_or c.args.items.now c.loop-item.item-index c.item-item.result)) = c.den.ensures.value ∙ ap (λ (q : ℚ). pos q.den) c.in-Ok.ensures.1 ∙ ap (λ (item : FracUse). pos (item.times /ℚ c.args.first.now).den) c.item-item.is in
    rw c.from_residual.ensures (λ n above small in_range all. wide (rw ratio (IsCommon-narrow den c.args.items.now c.loop-item.item-index c.item-item.result _ n c.loop-item-test.true (den_pos ((get_or c.args.items.now c.loop-item.item-index c.item-item.result).times /ℚ c.args.first.now)) c.loop-item.invariant.common above small all)))

pub loop-item-preserved : goal.loop-item-preserved
loop-item-preserved c =
    let den = λ (item : FracUse). (item.times /ℚ c.args.first.now).den in
    let den_fits : FitsSigned w128 c.den.result = search rules in
    let fits : FitsSigned w128 c.in_ok-common.common = search rules in
    let found = simp to_z-of_z at c.in_ok-common.ensures in
    let ratio : c.den.result ≡ pos (den (get_or c.args.items.now c.loop-item.item-index c.item-item.result)) = c.den.ensures.value ∙ ap (λ (q : ℚ). pos q.den) c.in-Ok.ensures.1 ∙ ap (λ (item : FracUse). pos (item.times /ℚ c.args.first.now).den) c.item-item.is in
    let in_range : InRange ((get_or c.args.items.now c.loop-item.item-index c.item-item.result).times /ℚ c.args.first.now) = subst (λ (item : FracUse). InRange (item.times /ℚ c.args.first.now)) c.item-item.is c.in-Ok.ensures.0 in
    record {
      in_range = All-more (λ (item : FracUse). InRange (item.times /ℚ c.args.first.now)) c.args.items.now c.loop-item.item-index c.item-item.result c.loop-item-test.true c.loop-item.invariant.in_range in_range;
      common = simp to_z-of_z (rw (found.1, ratio) (IsCommon-more den c.args.items.now c.loop-item.item-index c.item-item.result _ c.loop-item-test.true (den_pos ((get_or c.args.items.now c.loop-item.item-index c.item-item.result).times /ℚ c.args.first.now)) c.loop-item.invariant.common));
    }

pub returns-clause-common : goal.returns-clause-common
returns-clause-common c =
    subst (λ (items : List FracUse). IsCommon (λ (item : FracUse). (item.times /ℚ c.args.first.now).den) items (to_z w128 c.loop-item.common-bits)) (take_all c.loop-item.item-index c.args.items.now c.loop-item-test.false) c.loop-item.invariant.common
