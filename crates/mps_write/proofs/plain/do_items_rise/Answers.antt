use Rattle.std.proofs.Common.{true≢false, refl, sym, subst, ⊎_elim, arith}
use Rattle.std.proofs.lemmas.List.{drop_all}
use Rattle.mps_write.proofs.ItemLaws.{Rise, distinct_is_rise, rise_next}
use Rattle.mps_write.proofs.plain.do_items_rise.Goals as goal

pub returns-then-column-least : goal.returns-then-column-least
returns-then-column-least c = (
  λ e. absurd (true≢false (sym e)),
  λ distinct.
      let next = rise_next c.loop-item.least c.args.columns c.loop-item.item-index c.args.items.now c.item-item.result c.loop-item-test.true c.item-item.is
      (c.loop-item.invariant.0 ((distinct_is_rise c.args.columns c.args.items.now).0 distinct)) in
      absurd (⊎_elim (λ h. omega (arith, h, next.0, next.1)) (λ h. omega (arith, h, next.0, next.1)) c.then-column-least.either),
)

pub returns : goal.returns
returns c = (
  λ e. (distinct_is_rise c.args.columns c.args.items.now).1
      (c.loop-item.invariant.1 (subst (Rise c.loop-item.least c.args.columns) (sym (drop_all c.loop-item.item-index c.args.items.now c.loop-item-test.false)) tt)),
  λ distinct. refl,
)
