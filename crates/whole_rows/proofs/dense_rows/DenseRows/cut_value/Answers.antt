use Rattle.std.proofs.Common.{◌≡◌, ap, sym, ◌∙◌, subst, length, arith}
use Rattle.std.proofs.lemmas.Slice.Zip.{AllZip-long}
use Rattle.whole_rows.specs.WholeRows.{WholeRows, IsWithinLimits}
use Rattle.whole_rows.specs.WeightLaws.{size_sum-within}
use Rattle.whole_rows.proofs.dense_rows.DenseRows.cut_value.Goals as goal
use Rattle.whole_rows.proofs.dense_rows.DenseRows.cut_value.Goals.{After-deref}

-- what is lent is the cost
lent : (c : After-deref) → c.deref.result.now ≡ c.args.self.now.cost
lent c = c.deref.ensures.value ∙ ap (λ (rows : WholeRows). rows.cost) c.self.view_is

pub dot_product-requires-clause-same_length : goal.dot_product-requires-clause-same_length
dot_product-requires-clause-same_length c =
    let limits = subst IsWithinLimits c.self.view_is c.self.invariant.limits in
    ap length (lent (goal.at.dot_product-requires-clause-same_length c).After-deref) ∙ limits.priced ∙ sym (AllZip-long _ _ _ c.requires.in_box)

pub dot_product-requires-clause-small : goal.dot_product-requires-clause-small
dot_product-requires-clause-small c =
    let limits = subst IsWithinLimits c.self.view_is c.self.invariant.limits in
    rw (lent (goal.at.dot_product-requires-clause-small c).After-deref) (omega (arith, limits.light_cost, size_sum-within c.args.self.now.cost c.args.self.now.box c.args.x.now c.requires.in_box))
