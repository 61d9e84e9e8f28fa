use Rattle.std.proofs.Common.{rules, [], refl, subst, arith, FitsSigned}
use Rattle.std.specs.Int.{w128}
use Rattle.std.specs.Prelude.{None}
use Rattle.std.specs.List.{All}
use Rattle.std.proofs.lemmas.Int.{to_z-of_z}
use Rattle.std.proofs.lemmas.List.{take_all}
use Rattle.std.proofs.lemmas.List.Elements.{All-more}
use Rattle.node_point.specs.Checks.{TellsRow}
use Rattle.node_point.proofs.CheckLemmas.{TellsRow-read}
use Rattle.node_point.proofs.parts.is_in_rows.Goals as goal

pub loop-i-preserved : goal.loop-i-preserved
loop-i-preserved c =
    let fits_denominator : FitsSigned w128 c.args.denominator = search rules in
    let told = simp to_z-of_z at (c.lies_between.ensures.0 c.if-not-lies_between.false) in
    let kept = simp to_z-of_z at c.loop-i.invariant in
    simp to_z-of_z (All-more (TellsRow c.args.denominator c.args.numerators.now) c.args.rows.now.rows c.loop-i.i (record { factors = []; low = None; high = None }) (omega arith) kept
    (TellsRow-read _ _ _ _ _ _ c.row.ensures.factors c.low.ensures c.high.ensures told))

pub returns : goal.returns
returns c =
    let fits_denominator : FitsSigned w128 c.args.denominator = search rules in
    let kept = simp to_z-of_z at c.loop-i.invariant in
    let whole = take_all c.loop-i.i c.args.rows.now.rows (omega (arith, c.rows-i-end.ensures.count)) in
    (λ _. subst (All (TellsRow c.args.denominator c.args.numerators.now)) whole kept, λ _. refl)
