use Rattle.std.proofs.Common.{sym, ◌∙◌, inr}
use Rattle.mps_model.proofs.OnTables.ColumnTableLaws.{line_goes_on, line_is_of_last, line_comes_back}
use Rattle.mps_model.proofs.tables.columns.ColumnTable.begin.Goals as goal

pub returns-in-Some-clause-judged : goal.returns-in-Some-clause-judged
returns-in-Some-clause-judged c = λ rows above keeps.
    line_goes_on rows above c.args.at c.args.label.now c.args.self.now c.in-Some.place keeps (sym c.find.ensures.place ∙ c.in-Some.is) c.if-self.true (c.if-place-len.true ∙ c.len.ensures.len)

pub returns-in-Some-clause-last : goal.returns-in-Some-clause-last
returns-in-Some-clause-last c = λ rows above keeps.
    line_is_of_last rows above c.args.at c.args.label.now c.args.self.now c.in-Some.place keeps (sym c.find.ensures.place ∙ c.in-Some.is) (c.if-place-len.true ∙ c.len.ensures.len)

pub returns-in-Some-2-clause-judged : goal.returns-in-Some-2-clause-judged
returns-in-Some-2-clause-judged c = λ rows above keeps.
    line_comes_back rows above c.args.at c.args.label.now c.args.self.now c.in-Some.place keeps (sym c.find.ensures.place ∙ c.in-Some.is) c.find.ensures.distinct
    (inr (λ end. c.if-place-len.false (end ∙ sym c.len.ensures.len)))
