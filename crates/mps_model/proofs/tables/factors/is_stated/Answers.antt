use Rattle.std.proofs.Common.{position, ◌||◌, Some, refl, sym, ap, ◌∙◌, eqb}
use Rattle.std.specs.Option.{option_eq}
use Rattle.mps_model.specs.Sides.{is_free_row}
use Rattle.mps_model.proofs.OnModel.StatedRowLaws.{stated_row}
use Rattle.mps_model.proofs.tables.factors.is_stated.Goals as goal

pub returns-then-has_sides : goal.returns-then-has_sides
returns-then-has_sides c =
    stated_row c.args.rows.now c.args.row c.kind.result c.has_sides.result _ (position is_free_row c.args.rows.now) c.requires.distinct c.requires.within
    c.kind.ensures c.has_sides.ensures refl
    (c.if-has_sides.true ∙ sym (ap (λ b. b || option_eq eqb (position is_free_row c.args.rows.now) (Some c.args.row)) c.if-has_sides.true))

pub returns-else-has_sides : goal.returns-else-has_sides
returns-else-has_sides c =
    stated_row c.args.rows.now c.args.row c.kind.result c.has_sides.result _ c.objective.result c.requires.distinct c.requires.within
    c.kind.ensures c.has_sides.ensures c.objective.ensures
    (c.eq.ensures ∙ sym (ap (λ b. b || option_eq eqb c.objective.result (Some c.args.row)) c.if-has_sides.false))
