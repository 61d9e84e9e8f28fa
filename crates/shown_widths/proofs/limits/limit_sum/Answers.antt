use Rattle.std.proofs.Common.{rules, ◌≡◌, ◌<◌, ◌+ℤ◌, ◌*ℤ◌, pos, List, length, get_or, sym, ap, ◌∙◌, subst, FitsSigned, to_z}
use Rattle.std.specs.Int.{w128}
use Rattle.std.specs.Prelude.{Some}
use Rattle.std.proofs.lemmas.Int.{to_z-of_z}
use Rattle.farkas_rows.specs.declared.line.Use.{Use}
use Rattle.shown_widths.specs.Limits.{limit_at}
use Rattle.shown_widths.proofs.LimitLaws.{sum-more}
use Rattle.shown_widths.proofs.limits.limit_sum.Goals as goal

pub loop-item-preserved : goal.loop-item-preserved
loop-item-preserved c = λ inequality e.
    let rows = c.args.rows.now in
    let path = c.args.path.now in
    let line = c.args.line.now in
    let i = c.loop-item.item-index in
    let d : Use = record { index = 0; times = pos 0 } in
    let limit = c.in_ok-limit.limit in
    let fits : FitsSigned w128 c.in_ok-sum-2.sum = search rules in
    let limit_fits : FitsSigned w128 c.in_ok-limit.limit = search rules in
    let times_fits : FitsSigned w128 (get_or c.items-item-items.result.now i d).times = search rules in
    let added = simp to_z-of_z at c.in_ok-sum-2.ensures in
    let list = c.items-item-items.ensures in
    let within : i < length line.items = subst (λ (items : List Use). i < length items) list c.loop-item-test.true in
    let here = subst (λ (items : List Use). limit_at rows path inequality (get_or items i d).index ≡ Some limit) list (c.in_ok-limit.ensures inequality e) in
    to_z-of_z w128 c.in_ok-sum-2.sum fits
    ∙ added.1
    ∙ ap (λ (items : List Use). to_z w128 c.loop-item.sum-bits +ℤ (get_or items i d).times *ℤ limit) list
    ∙ ap (λ t. t +ℤ (get_or line.items i d).times *ℤ limit) (c.loop-item.invariant inequality e)
    ∙ sym (sum-more rows path inequality line.cut line.items i d limit within here)
