use Rattle.std.proofs.Common.{◌≡◌, ℕ, List, cond, refl, sym, ap, ◌∙◌}
use Rattle.std.specs.Prelude.{bytes_eq, codes}
use Rattle.std.specs.Borrow.{Bor}
use Rattle.std.specs.Option.{option_copied}
use Rattle.std.proofs.lemmas.Bool.{not-false}
use Rattle.mps_model.proofs.OnTables.ColumnTableLaws.{marker_taken}
use Rattle.mps_model.proofs.tables.columns.ColumnTable.take_marker.Goals as goal
use Rattle.mps_model.proofs.tables.columns.ColumnTable.take_marker.Goals.{then-self, else-self}

pub returns : goal.returns
returns c = λ above keeps.
    let due : c.if-self.due.now ≡ cond c.args.self.now.is_open (codes "'INTEND'") (codes "'INTORG'") =
    elim c.if-self.branch [
      | then-self w ↦ ap (λ (due : Bor (List ℕ)). due.now) w.due-is ∙ sym (ap (λ b. cond b (codes "'INTEND'") (codes "'INTORG'")) w.if-self.true)
      | else-self w ↦ ap (λ (due : Bor (List ℕ)). due.now) w.due-is ∙ sym (ap (λ b. cond b (codes "'INTEND'") (codes "'INTORG'")) w.if-self.false)
    ] in
    marker_taken above (option_copied c.args.word) c.in-Some.word.now c.args.self.now _ keeps (ap option_copied c.in-Some.is)
    (ap (bytes_eq c.in-Some.word.now) (sym due) ∙ not-false _ (sym c.ne.ensures ∙ c.if-ne.false))
    refl refl refl refl refl
