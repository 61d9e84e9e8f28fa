-- The items of the objective and of the rows, as they stand beside the rows, and the ranges that the model's rows have.
use Rattle.std.proofs.Common.{◌≡◌, ◌≢◌, ℕ, ◌≤◌, ℤ, length, get_or, true, false, true≢false, cond, ◌||◌, List, [], map, position, Option, Some, None, slice_get, refl, sym, ap, ap₂, subst, ◌∙◌}
use Rattle.std.specs.Prelude.{bytes_eq, codes, option_map}
use Rattle.std.specs.Option.{option_map_or}
use Rattle.std.proofs.lemmas.Bool.{or_right}
use Rattle.std.proofs.lemmas.List.{get_or-map}
use Rattle.std.proofs.lemmas.List.Quantifiers.{position-Some}
use Rattle.std.proofs.lemmas.Option.{slice_get-get_or, get_or_from_slice_get, slice_get_within}
use Rattle.int_model.specs.declared.model.Model.{Model}
use Rattle.mps_model.specs.declared.tables.factors.RowFactors.{RowFactors}
use Rattle.mps_model.specs.Tables.{RowLine, Tables}
use Rattle.mps_model.specs.Sides.{is_free_row, has_sides, sided_rows, objective_row, constant_of}
use Rattle.mps_model.specs.StatedModel.{items_of, objective_items, stated_row, stated_column, stated}
use Rattle.mps_model.specs.Bounds.{column_names}
use Rattle.mps_model.specs.ColumnTables.{is_stated_row}
use Rattle.mps_model.specs.FactorTables.{factors_of}
use Rattle.mps_model.specs.KeptTables.{HaveItems}
use Rattle.mps_model.specs.ModelLimits.{KeepsLimits}
use Rattle.mps_model.specs.FirstPlaceLaws.{same_bytes, bytes_same, is_first, find_first, find_none}
use Rattle.mps_model.proofs.OnModel.ModelLimitLaws.{stated_keeps_limits}

-- ---- the objective among the rows

pub no_objective : (rows : List RowLine) → position is_free_row rows ≡ None → objective_row rows ≡ None
no_objective rows none = ap (option_map (λ (row : RowLine). row.name)) (find_none is_free_row rows none)

pub objective_at : (rows : List RowLine) (i : ℕ) (row : RowLine) → position is_free_row rows ≡ Some i → slice_get rows i ≡ Some row → objective_row rows ≡ Some row.name
objective_at rows i row found at = ap (option_map (λ (row : RowLine). row.name)) (find_first is_free_row rows i (is_first is_free_row rows i found) ∙ at)

-- a row of kind N is none of the others
free_has_none : (row : RowLine) → is_free_row row ≡ true → has_sides row ≡ false
free_has_none row free = ap (λ kind. has_sides (record { kind = kind; name = row.name })) (same_bytes row.kind (codes "N") free)

-- ---- items beside rows

module _ (tables : Tables) (factors : List RowFactors) (kept : factors ≡ map (factors_of tables.rows tables.columns) tables.rows) where
  -- a row that the model states has its items
  stated_items : (i : ℕ) (row : RowLine) (d : RowFactors) → slice_get tables.rows i ≡ Some row → is_stated_row tables.rows row ≡ true
      → (get_or factors i d).items ≡ items_of tables row.name
  stated_items i row d at states =
      let here : get_or factors i d ≡ factors_of tables.rows tables.columns row =
      ap (λ fs. get_or fs i d) kept
      ∙ get_or-map (factors_of tables.rows tables.columns) tables.rows i row d (slice_get_within tables.rows i row at)
      ∙ ap (factors_of tables.rows tables.columns) (get_or_from_slice_get tables.rows i row row at) in
      ap (λ (f : RowFactors). f.items) here ∙ ap (λ b. cond b (items_of tables row.name) []) states

  pub have_items : HaveItems tables factors
  have_items i row at sided d = stated_items i row d at (ap (λ b. b || option_map_or (bytes_eq row.name) (objective_row tables.rows) false) sided)

  -- where only the items of the free row at this place go, the rows with sides keep theirs
  pub have_items_left : (new : List RowFactors) (place : ℕ) → position is_free_row tables.rows ≡ Some place
      → ((k : ℕ) (d : RowFactors) → k ≢ place → get_or new k d ≡ get_or factors k d) → HaveItems tables new
  have_items_left new place found others i row at sided d =
      let first = position-Some is_free_row tables.rows place row found in
      let differ : i ≢ place = λ same.
      absurd (true≢false (sym sided ∙ free_has_none row (ap is_free_row (sym (get_or_from_slice_get tables.rows i row row at) ∙ ap (λ n. get_or tables.rows n row) same) ∙ first.1))) in
      ap (λ (f : RowFactors). f.items) (others i d differ) ∙ have_items i row at sided d

  pub items_of_objective : (place : ℕ) (row : RowLine) (d : RowFactors) → position is_free_row tables.rows ≡ Some place
      → (get_or factors place d).items ≡ objective_items tables (objective_row tables.rows)
  items_of_objective place row d found =
      let within = (position-Some is_free_row tables.rows place row found).0 in
      let at = slice_get-get_or tables.rows place row within in
      let first = get_or tables.rows place row in
      let named = objective_at tables.rows place first found at in
      let states : is_stated_row tables.rows first ≡ true =
      ap (λ o. has_sides first || option_map_or (bytes_eq first.name) o false) named
      ∙ ap (λ b. has_sides first || b) (bytes_same first.name) ∙ or_right (has_sides first) true refl in
      stated_items place first d at states ∙ ap (objective_items tables) (sym named)

-- ---- the model

pub model_is : (tables : Tables) (upper : Option ℤ) (model : Model)
    → model.columns ≡ map (stated_column upper tables) (column_names tables.columns)
    → model.rows ≡ map (stated_row tables) (sided_rows tables.rows)
    → model.objective ≡ objective_items tables (objective_row tables.rows)
    → model.constant ≡ constant_of tables (objective_row tables.rows)
    → length (column_names tables.columns) ≤ 256 → length (sided_rows tables.rows) ≤ 256
    → (model ≡ stated upper tables) × KeepsLimits model
unfolding stated
model_is tables upper model columns rows objective constant few_columns few_rows =
    let same : model ≡ stated upper tables =
    ap₂ (λ cs (rest : Model). record { columns = cs; rows = rest.rows; objective = rest.objective; constant = rest.constant }) columns
    (ap₂ (λ rs (rest : Model). record { columns = map (stated_column upper tables) (column_names tables.columns); rows = rs; objective = rest.objective; constant = rest.constant }) rows
    (ap₂ (λ os k. record { columns = map (stated_column upper tables) (column_names tables.columns); rows = map (stated_row tables) (sided_rows tables.rows); objective = os; constant = k }) objective constant)) in
    (same, subst KeepsLimits (sym same) (stated_keeps_limits upper tables few_columns few_rows))
