use Rattle.std.proofs.Common.{rules, refl, subst, arith, FitsSigned}
use Rattle.std.specs.Int.{w128}
use Rattle.std.specs.List.{All}
use Rattle.std.proofs.lemmas.Int.{to_z-of_z}
use Rattle.std.proofs.lemmas.List.{take_all}
use Rattle.std.proofs.lemmas.List.Elements.{All-more}
use Rattle.node_point.specs.Checks.{TellsSlice}
use Rattle.node_point.proofs.CheckLemmas.{TellsSlice-read}
use Rattle.node_point.proofs.parts.is_on_path.Goals as goal

pub loop-slice-preserved : goal.loop-slice-preserved
loop-slice-preserved c =
    let fits_denominator : FitsSigned w128 c.args.denominator = search rules in
    let fits_side : FitsSigned w128 c.slice-item.result.beta = search rules in
    let told = simp to_z-of_z at (c.lies_between.ensures.0 c.if-not-lies_between.false) in
    let kept = simp to_z-of_z at c.loop-slice.invariant in
    simp to_z-of_z (All-more (TellsSlice c.args.denominator c.args.numerators.now) c.items-slices.result.now c.loop-slice.slice-index c.slice-item.result (omega arith) kept
    (subst (TellsSlice c.args.denominator c.args.numerators.now) c.slice-item.is (TellsSlice-read _ _ _ _ c.items.ensures told)))

pub returns : goal.returns
returns c =
    let fits_denominator : FitsSigned w128 c.args.denominator = search rules in
    let kept = simp to_z-of_z at c.loop-slice.invariant in
    let whole = take_all c.loop-slice.slice-index c.items-slices.result.now c.loop-slice-test.false in
    (λ _. subst (All (TellsSlice c.args.denominator c.args.numerators.now)) c.items-slices.ensures (subst (All (TellsSlice c.args.denominator c.args.numerators.now)) whole kept), λ _. refl)
