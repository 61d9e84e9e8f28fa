use Rattle.std.proofs.Common.{rules, ◌∙◌, sym, subst, arith, [], FitsSigned}
use Rattle.std.specs.Int.{w128}
use Rattle.std.proofs.lemmas.Int.{to_z-of_z}
use Rattle.std.specs.Prelude.{None, refl}
use Rattle.std.specs.List.{All}
use Rattle.std.proofs.lemmas.List.{take_all}
use Rattle.std.proofs.lemmas.List.Elements.{All-more}
use Rattle.std.proofs.lemmas.Slice.Zip.{AllZip-long}
use Rattle.whole_rows.specs.WholeRows.{MeetsRow, row_at}
use Rattle.whole_rows.specs.WeightLaws.{size_sum-within}
use Rattle.whole_rows.proofs.WholeRowLemmas.{meets_row-read}
use Rattle.whole_rows.proofs.dense_rows.DenseRows.meets_rows.Goals as goal

pub dot_product-value-requires-clause-same_length : goal.dot_product-value-requires-clause-same_length
dot_product-value-requires-clause-same_length c = c.row.ensures.dense ∙ sym (AllZip-long _ _ _ c.requires)

pub dot_product-value-requires-clause-small : goal.dot_product-value-requires-clause-small
dot_product-value-requires-clause-small c = omega (arith, c.row.ensures.light, size_sum-within c.row.result.now c.args.self.now.box c.args.x.now c.requires)

pub loop-i-preserved : goal.loop-i-preserved
loop-i-preserved c =
    let fits : FitsSigned w128 c.dot_product-value.result = search rules in
    let iff = meets_row-read (row_at c.args.self.now c.loop-i.i) c.args.x.now c.low.result c.high.result c.row.result.now c.dot_product-value.result c.low.ensures c.high.ensures c.row.ensures.factors c.dot_product-value.ensures in
    All-more (λ row. MeetsRow row c.args.x.now) c.args.self.now.rows c.loop-i.i (record { factors = []; low = None; high = None }) (omega arith) c.loop-i.invariant (iff.0 (simp to_z-of_z at (c.is_within.ensures.0 c.if-not-is_within.false)))

pub returns : goal.returns
returns c =
    let whole = take_all c.loop-i.i c.args.self.now.rows (omega (arith, c.rows-i-end.ensures.count)) in
    ((λ _. subst (All (λ row. MeetsRow row c.args.x.now)) whole c.loop-i.invariant), (λ _. refl))
