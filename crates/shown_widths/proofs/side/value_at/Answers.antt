use Rattle.std.proofs.Common.{rules, ℤ, List, get_or, length, pos, ap, ◌∙◌, sym, subst, refl, FitsSigned}
use Rattle.std.specs.Int.{w128}
use Rattle.std.proofs.lemmas.Int.{to_z-of_z}
use Rattle.exact_math.specs.Ring.{integers}
use Rattle.exact_vectors.specs.Vectors.{dot}
use Rattle.farkas_rows.specs.NodeLaws.{dot-unit}
use Rattle.shown_widths.specs.Points.{form_of, IsLeftOver}
use Rattle.shown_widths.specs.declared.side.LeftSide.{LeftSide}
use Rattle.shown_widths.proofs.side.value_at.Goals as goal

pub returns-in-Column : goal.returns-in-Column
returns-in-Column c =
    let j = c.in-Column.j in
    let values = c.args.point.now.numerators in
    let fits : FitsSigned w128 (get_or c.numerators-in-Column.result.now j (pos 0)) = search rules in
    to_z-of_z w128 (get_or c.numerators-in-Column.result.now j (pos 0)) fits
    ∙ ap (λ (l : List ℤ). get_or l j (pos 0)) c.numerators-in-Column.ensures
    ∙ sym (dot-unit (length values) j values refl (subst (IsLeftOver (length values)) c.in-Column.is c.requires))
    ∙ ap (λ (left : LeftSide). dot integers (form_of (length values) left) values) (sym c.in-Column.is)
