use Rattle.std.proofs.Common.{rules, ◌++◌, [], ◌∷◌, ◌∙◌, FitsSigned, refl, sym, ap, arith}
use Rattle.std.specs.Int.{w128}
use Rattle.std.proofs.lemmas.Int.{to_z-of_z}
use Rattle.exact_math.specs.Rational.{ℚ, ◌*ℚ◌}
use Rattle.int_model.specs.declared.model.Item.{Item}
use Rattle.int_model.proofs.CoefficientLaws.{IsFilledTo-hit, IsFilledTo-miss, column-same, product_of_zero, leaves_range_at}
use Rattle.int_model.proofs.products.push_products.Goals as goal
use Rattle.int_model.proofs.products.push_products.Goals.{then-at-items+then-items-at+in-Ok+in_ok-push, else-at-items+in_ok-push-2, else-at-items-via-then-at-items+else-items-at, else-at-items-via-else-at-items}

pub returns-in_default-clause-large : goal.returns-in_default-clause-large
returns-in_default-clause-large c = λ e.
    leaves_range_at c.args.times.now c.args.width c.loop-column.column c.args.items.now c.loop-column.at c.index-items-at-then-items-at.result c.requires c.loop-column-test.true c.if-at-items.true c.index-items-at-then-items-at.is (ap (λ (item : Item). item.column) c.index-items-at-then-items-at.is ∙ column-same c.args.items.now c.loop-column.at c.loop-column.at _ c.index-items-at.result refl c.if-at-items.true ∙ c.if-items-at.true) (rw c.index-items-at-then-items-at.is c.in_default.ensures)

pub loop-column-preserved : goal.loop-column-preserved
loop-column-preserved c = elim c.if-at-items.branch [
  | then-at-items+then-items-at+in-Ok+in_ok-push w ↦
      let fits : FitsSigned w128 w.num.result = search rules in
      let pushed = simp to_z-of_z at w.in_ok-push.ensures.items in
      let value = w.num.ensures.value ∙ ap (λ (q : ℚ). q.num) w.in-Ok.ensures.1 in
      let here = column-same c.args.items.now c.loop-column.at c.loop-column.at _ w.index-items-at.result refl w.if-at-items.true ∙ w.if-items-at.true in
      rw (w.numbers-is, w.at-is) (IsFilledTo-hit (λ q. (c.args.times.now *ℚ q).num) _ _ _ c.args.items.now _ _ w.index-items-at-then-items-at.result c.requires.rising c.loop-column.invariant w.if-at-items.true here (pushed ∙ ap (λ z. c.loop-column.numbers.items ++ z ∷ []) value))
  | else-at-items+in_ok-push-2 w ↦
      let pushed = w.in_ok-push-2.ensures.items ∙ ap (λ z. c.loop-column.numbers.items ++ z ∷ []) (sym (product_of_zero c.args.times.now)) in
      elim w.else-at-items.branch [
        | else-at-items-via-then-at-items+else-items-at v ↦ rw (w.numbers-is, w.at-is) (IsFilledTo-miss (λ q. (c.args.times.now *ℚ q).num) _ _ _ c.args.items.now _ _ c.requires.rising c.loop-column.invariant (λ d h e. v.if-items-at.false (column-same c.args.items.now _ _ v.index-items-at.result d refl h ∙ e)) pushed)
        | else-at-items-via-else-at-items v ↦ rw (w.numbers-is, w.at-is) (IsFilledTo-miss (λ q. (c.args.times.now *ℚ q).num) _ _ _ c.args.items.now _ _ c.requires.rising c.loop-column.invariant (λ d h e. absurd (omega arith)) pushed)
      ]
]
