use Rattle.std.proofs.Common.{[], None, false, ap, sym, ◌∙◌}
use Rattle.mps_model.specs.Tables.{RowLine}
use Rattle.mps_model.specs.declared.tables.factors.RowFactors.{RowFactors}
use Rattle.mps_model.specs.StatedModel.{objective_items}
use Rattle.mps_model.proofs.OnModel.BuiltItemLaws as Laws
use Rattle.mps_model.proofs.model.model_building.take_objective.Goals as goal

pub returns-in-Some-clause-objective : goal.returns-in-Some-clause-objective
returns-in-Some-clause-objective c = λ tables found kept.
    let none : RowFactors = record { last = None; is_stated = false; items = [] } in
    let row : RowLine = record { kind = []; name = [] } in
    c.take_items.ensures.items none ∙ Laws.items_of_objective tables c.args.factors.now kept c.in-Some.row row none (sym found ∙ c.in-Some.is)

pub returns-in-Some-clause-rows : goal.returns-in-Some-clause-rows
returns-in-Some-clause-rows c = λ tables found kept. Laws.have_items_left tables c.args.factors.now kept _ c.in-Some.row (sym found ∙ c.in-Some.is) c.take_items.ensures.others

pub returns-in-None-clause-objective : goal.returns-in-None-clause-objective
returns-in-None-clause-objective c = λ tables found kept.
    c.new.ensures ∙ ap (objective_items tables) (sym (Laws.no_objective tables.rows (sym found ∙ c.in-None.is)))

pub returns-in-None-clause-rows : goal.returns-in-None-clause-rows
returns-in-None-clause-rows c = λ tables found kept. Laws.have_items tables c.args.factors.now kept
