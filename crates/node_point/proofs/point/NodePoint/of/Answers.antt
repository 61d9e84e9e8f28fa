use Rattle.std.proofs.Common.{◌∙◌, rules, refl, sym, FitsSigned}
use Rattle.std.specs.Int.{w128}
use Rattle.std.proofs.lemmas.Bool.{false≢true}
use Rattle.std.proofs.lemmas.Int.{to_z-of_z}
use Rattle.node_point.proofs.CheckLemmas.{told-point, point-told}
use Rattle.node_point.proofs.point.NodePoint.of.Goals as goal

pub returns-then-is_point : goal.returns-then-is_point
returns-then-is_point c =
    let fits_denominator : FitsSigned w128 c.args.denominator = search rules in
    let told = simp to_z-of_z at (rw c.deref.ensures.value at (c.is_point.ensures.0 c.if-is_point.true)) in
    (told-point c.args.rows.now c.args.path.now c.args.cut c.args.denominator c.args.numerators.items told, simp to_z-of_z refl)

pub returns-else-is_point : goal.returns-else-is_point
returns-else-is_point c = λ h.
    let fits_denominator : FitsSigned w128 c.args.denominator = search rules in
    let told = simp to_z-of_z at (rw c.deref.ensures.value at c.is_point.ensures) in
    false≢true (sym c.if-is_point.false ∙ told.1 (point-told c.args.rows.now c.args.path.now c.args.cut c.args.denominator c.args.numerators.items h.0 h.1))
