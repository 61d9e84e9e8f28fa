use Rattle.std.proofs.Common.{◌≡◌, [], length, sym, ap, ◌∙◌, arith}
use Rattle.std.proofs.lemmas.Bool.{eqb-true}
use Rattle.mps_fields.proofs.LineLaws.{none_left, next_line}
use Rattle.mps_fields.proofs.text_lines.LineScanIterator.next.Goals as goal

pub returns-then-is_empty-clause-steps : goal.returns-then-is_empty-clause-steps
returns-then-is_empty-clause-steps c =
    let none : c.args.self.now ≡ [] = sym c.self.view_is ∙ none_left c.self.inside.number _ (eqb-true _ _ (sym c.is_empty.ensures ∙ c.if-is_empty.true)) in
    (none, none)

pub returns-clause-steps : goal.returns-clause-steps
returns-clause-steps c =
    sym c.self.view_is ∙ next_line c.self.inside.number _ _ _ _ c.cut_piece.ensures.piece c.without_return.ensures

pub returns-clause-goes : goal.returns-clause-goes
returns-clause-goes c =
    let left = sym c.self.view_is ∙ next_line c.self.inside.number _ _ _ _ c.cut_piece.ensures.piece c.without_return.ensures in
    record {
      on = λ _. (tt, tt, omega (arith, ap length left));
      keeps = tt;
      rests = λ _. tt;
    }
