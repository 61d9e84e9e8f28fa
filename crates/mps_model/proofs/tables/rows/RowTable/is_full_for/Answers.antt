use Rattle.std.proofs.Common.{◌&&◌, leb, length, sym, ap, ◌∙◌}
use Rattle.mps_model.specs.Sides.{sided_rows}
use Rattle.mps_model.proofs.tables.rows.RowTable.is_full_for.Goals as goal

pub returns-then-has_sides : goal.returns-then-has_sides
returns-then-has_sides c = λ name.
    ap (λ n. leb 256 n) (c.self.invariant.counted ∙ ap (λ rows. length (sided_rows rows)) c.self.view_is)
    ∙ ap (λ b. b && leb 256 (length (sided_rows c.args.self.now))) (sym c.if-has_sides.true ∙ c.has_sides.ensures name)

pub returns-else-has_sides : goal.returns-else-has_sides
returns-else-has_sides c = λ name.
    c.if-has_sides.false ∙ ap (λ b. b && leb 256 (length (sided_rows c.args.self.now))) (sym c.if-has_sides.false ∙ c.has_sides.ensures name)
