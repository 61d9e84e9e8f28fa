use Rattle.std.proofs.Common.{◌≡◌, Some, sym, ap, ◌∙◌}
use Rattle.std.specs.Prelude.{option_map, unwrap_or}
use Rattle.std.proofs.lemmas.Option.{slice_get-map}
use Rattle.exact_math.specs.Rational.{neg_ℚ}
use Rattle.mps_model.specs.Sides.{zero_ℚ, is_free_row, objective_row, constant_of}
use Rattle.mps_model.specs.RowFaults.{row_names}
use Rattle.mps_model.specs.FirstPlaceLaws.{is_first, find_first, first_there, find_none}
use Rattle.mps_model.proofs.OnTables.PairLaws.{kept_number}
use Rattle.mps_model.proofs.tables.sides.constant_of.Goals as goal

pub returns-in-Some : goal.returns-in-Some
returns-in-Some c = λ tables is_objective kept. let a = c.in-Some.is in let b = c.neg.ensures in let d = c.number_or_zero.ensures in
    let first = is_first is_free_row tables.rows c.in-Some.row (sym is_objective ∙ c.in-Some.is) in
    let there = first_there is_free_row tables.rows c.in-Some.row first in
    let named : objective_row tables.rows ≡ Some there.0.name = ap (option_map (λ row. row.name)) (find_first is_free_row tables.rows c.in-Some.row first ∙ there.1) in
    c.neg.ensures ∙ ap neg_ℚ (c.number_or_zero.ensures
    ∙ ap (λ o. unwrap_or o zero_ℚ) (kept_number (row_names tables.rows) tables.sides c.args.sides.now there.0.name c.in-Some.row kept
    (slice_get-map (λ row. row.name) tables.rows c.in-Some.row ∙ ap (option_map (λ row. row.name)) there.1)))
    ∙ ap (constant_of tables) (sym named)

pub returns-in-None : goal.returns-in-None
returns-in-None c = λ tables is_objective kept.
    c.whole.ensures ∙ ap (constant_of tables) (sym (ap (option_map (λ row. row.name)) (find_none is_free_row tables.rows (sym is_objective ∙ c.in-None.is))))
