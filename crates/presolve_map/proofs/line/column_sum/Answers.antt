use Rattle.std.proofs.Common.{◌≡◌, ◌∙◌, ap, sym, subst, arith, [], drop, FitsSigned, ◌+◌}
use Rattle.std.specs.Int.{w128}
use Rattle.std.proofs.lemmas.Int.{ints, to_z-of_z}
use Rattle.std.specs.Prelude.{None}
use Rattle.exact_math.specs.Rational.{◌+ℚ◌, ◌*ℚ◌}
use Rattle.exact_math.specs.RationalRing.{rationals}
use Rattle.presolve_map.specs.LiftedLines.{total, factor_in, column_sum, ItemStays, SumStays, ColumnStays}
use Rattle.presolve_map.proofs.NumberedLaws.{total-more, stays-more, stays-parts, drop_none, ok_iff_err}
use Rattle.presolve_map.proofs.line.column_sum.Goals as goal

pub returns-in_err-sum-2 : goal.returns-in_err-sum-2
returns-in_err-sum-2 c =
    let items = c.items-item-items.ensures in
    let fits : FitsSigned w128 c.factor_of.result = omega (arith, ints, c.factor_of.ensures.small) in
    let factor : c.whole-factor.result ≡ factor_in c.args.rows.now [] None c.args.column c.item-item.result.index = simp to_z-of_z at c.whole-factor.ensures ∙ c.factor_of.ensures.value in
    ok_iff_err c.from_residual-in_err-sum-2.result (ColumnStays c.args.rows.now c.args.times.now.cut c.args.times.now.items c.args.column) (column_sum c.args.rows.now c.args.times.now.cut c.args.times.now.items c.args.column) c.from_residual-in_err-sum-2.ensures.0
    (λ all. c.in_err-sum-2.ensures (subst (ItemStays c.loop-item.sum c.item-item.result.times) (sym factor) (stays-parts c.args.rows.now c.args.column c.loop-item.sum c.items-item-items.result.now c.loop-item.item-index c.item-item.result c.loop-item-test.true c.item-item.is (c.loop-item.invariant.stayed all)).0))

pub loop-item-preserved : goal.loop-item-preserved
loop-item-preserved c =
    let fits : FitsSigned w128 c.factor_of.result = omega (arith, ints, c.factor_of.ensures.small) in
    let factor : c.whole-factor.result ≡ factor_in c.args.rows.now [] None c.args.column c.item-item.result.index = simp to_z-of_z at c.whole-factor.ensures ∙ c.factor_of.ensures.value in
    let sum : c.in_ok-sum-2.sum ≡ c.loop-item.sum +ℚ c.item-item.result.times *ℚ factor_in c.args.rows.now [] None c.args.column c.item-item.result.index = c.in_ok-sum-2.ensures.1 ∙ ap (λ z. c.loop-item.sum +ℚ c.item-item.result.times *ℚ z) factor in
    let here = subst (ItemStays c.loop-item.sum c.item-item.result.times) factor c.in_ok-sum-2.ensures.0 in
    let rows = c.args.rows.now in
    let column = c.args.column in
    let items = c.items-item-items.result.now in
    let i = c.loop-item.item-index in
    record {
      value = ap (λ s. s +ℚ total (factor_in c.args.rows.now [] None c.args.column) (drop (c.loop-item.item-index + 1) c.items-item-items.result.now)) sum ∙ total-more (factor_in c.args.rows.now [] None c.args.column) c.items-item-items.result.now i c.item-item.result c.loop-item.sum c.loop-item-test.true c.item-item.is ∙ c.loop-item.invariant.value;
      stays = λ rest. c.loop-item.invariant.stays (stays-more c.args.rows.now c.args.column c.loop-item.sum c.items-item-items.result.now c.loop-item.item-index c.item-item.result c.loop-item-test.true c.item-item.is here (subst (λ s. SumStays c.args.rows.now c.args.column s (drop (c.loop-item.item-index + 1) c.items-item-items.result.now)) sum rest));
      stayed = λ all. subst (λ s. SumStays c.args.rows.now c.args.column s (drop (c.loop-item.item-index + 1) c.items-item-items.result.now)) (sym sum) (stays-parts c.args.rows.now c.args.column c.loop-item.sum c.items-item-items.result.now c.loop-item.item-index c.item-item.result c.loop-item-test.true c.item-item.is (c.loop-item.invariant.stayed all)).1;
    }

pub returns : goal.returns
returns c =
    let past = drop_none c.items-item-items.result.now c.loop-item.item-index c.loop-item-test.false in (
      c.loop-item.invariant.stays (subst (SumStays c.args.rows.now c.args.column c.loop-item.sum) (sym past) tt),
      sym (rationals.add_zero c.loop-item.sum) ∙ ap (λ l. c.loop-item.sum +ℚ total (factor_in c.args.rows.now [] None c.args.column) l) (sym past) ∙ c.loop-item.invariant.value,
    )
