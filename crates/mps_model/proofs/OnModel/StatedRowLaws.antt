-- Which rows the model states, by their kinds and by the place of the first free row.
use Rattle.std.proofs.Common.{◌≡◌, ℕ, ◌<◌, ◌≤◌, length, get_or, Bool, false, cond, ltb, ◌||◌, eqb, List, [], position, Option, Some, None, slice_get, sym, ap, subst, ◌∙◌, ⊎_elim, arith}
use Rattle.std.specs.Prelude.{bytes_eq, option_map, codes, IfSome}
use Rattle.std.specs.Option.{option_eq, option_map_or}
use Rattle.std.specs.List.{position_or_len, IsDistinct}
use Rattle.std.proofs.lemmas.Bool.{ltb-true, ltb-false, eq-eqb, ne_eqb, cases_eq}
use Rattle.std.proofs.lemmas.List.{get_or-map, length-map}
use Rattle.std.proofs.lemmas.List.Folds.{find_at}
use Rattle.std.proofs.lemmas.Option.{slice_get-get_or, slice_get_past}
use Rattle.mps_fields.specs.BooleanLaws.{either}
use Rattle.mps_model.specs.Tables.{RowLine}
use Rattle.mps_model.specs.Sides.{has_sides, is_free_row, objective_row}
use Rattle.mps_model.specs.RowFaults.{row_names}
use Rattle.mps_model.specs.declared.tables.row_kind.RowKind.{RowKind}
use Rattle.mps_model.specs.RowKinds.{letter_of, row_of}
use Rattle.mps_model.specs.ColumnTables.{is_stated_row}
use Rattle.mps_model.specs.FirstPlaceLaws.{bytes_same}
use Rattle.mps_model.specs.DistinctNameLaws.{apart}

-- two places of distinct names have one name exactly where they are one
same_place : (names : List (List ℕ)) (i j : ℕ) → IsDistinct bytes_eq names → i < length names → j < length names
    → bytes_eq (get_or names i []) (get_or names j []) ≡ eqb j i
same_place names i j distinct within other =
    ⊎_elim (λ (same : i ≡ j). ap (λ k. bytes_eq (get_or names i []) (get_or names k [])) (sym same) ∙ bytes_same (get_or names i []) ∙ sym (eq-eqb j i (sym same)))
    (λ (differ : i ≡ j → ⊥). apart names i j distinct within other differ ∙ sym (ne_eqb j i (λ same. differ (sym same))))
    (cases_eq i j)

-- the row at a place is the first free one where its name is that row's
module _ (rows : List RowLine) (row : ℕ) (d : RowLine) (distinct : IsDistinct bytes_eq (row_names rows)) (within : row < length rows) where
  name_at : (place : ℕ) → place < length rows → (get_or rows place d).name ≡ get_or (row_names rows) place []
  name_at place here = sym (get_or-map (λ (row : RowLine). row.name) rows place d [] here)

  pub is_objective : option_eq eqb (position is_free_row rows) (Some row) ≡ option_map_or (bytes_eq (get_or rows row d).name) (objective_row rows) false
  is_objective =
      let first : ℕ = position_or_len is_free_row rows in
      let names : length (row_names rows) ≡ length rows = length-map rows (λ (row : RowLine). row.name) in
      either (ltb first (length rows))
      (λ some.
      let here : first < length rows = ltb-true first (length rows) some in
      ap (λ b. option_eq eqb (cond b (Some first) None) (Some row)) some
      ∙ sym (ap (λ found. option_map_or (bytes_eq (get_or rows row d).name) (option_map (λ (row : RowLine). row.name) found) false)
      (find_at is_free_row rows ∙ slice_get-get_or rows first d here)
      ∙ ap (λ name. bytes_eq name (get_or rows first d).name) (name_at row within)
      ∙ ap (bytes_eq (get_or (row_names rows) row [])) (name_at first here)
      ∙ same_place (row_names rows) row first distinct (omega arith) (omega arith)))
      (λ none.
      let past : length rows ≤ first = ltb-false first (length rows) none in
      ap (λ b. option_eq eqb (cond b (Some first) None) (Some row)) none
      ∙ sym (ap (λ found. option_map_or (bytes_eq (get_or rows row d).name) (option_map (λ (row : RowLine). row.name) found) false)
      (find_at is_free_row rows ∙ slice_get_past rows first past)))

has_sides-of : (kind : RowKind) (line : RowLine) → line.kind ≡ letter_of kind → has_sides line ≡ has_sides (row_of kind line.name)
has_sides-of kind line is = ap (λ letters. (bytes_eq letters (codes "E") || bytes_eq letters (codes "L")) || bytes_eq letters (codes "G")) is

-- a row that has sides, or stands at the place of the first free row
pub stated_row : (rows : List RowLine) (row : ℕ) (kind : RowKind) (sides is : Bool) (objective : Option ℕ) → IsDistinct bytes_eq (row_names rows) → row < length rows
    → IfSome (slice_get rows row) (λ line. line.kind ≡ letter_of kind) → ((name : List ℕ) → sides ≡ has_sides (row_of kind name))
    → objective ≡ position is_free_row rows → is ≡ (sides || option_eq eqb objective (Some row))
    → IfSome (slice_get rows row) (λ line. is ≡ is_stated_row rows line)
stated_row rows row kind sides is objective distinct within kinds has first told =
    let d : RowLine = record { kind = []; name = [] } in
    let line : RowLine = get_or rows row d in
    let here : slice_get rows row ≡ Some line = slice_get-get_or rows row d within in
    let letters : line.kind ≡ letter_of kind = subst (λ (o : Option RowLine). IfSome o (λ line. line.kind ≡ letter_of kind)) here kinds in
    subst (λ (o : Option RowLine). IfSome o (λ line. is ≡ is_stated_row rows line)) (sym here)
    (told
    ∙ ap (λ b. b || option_eq eqb objective (Some row)) (has line.name ∙ sym (has_sides-of kind line letters))
    ∙ ap (λ o. has_sides line || option_eq eqb o (Some row)) first
    ∙ ap (λ b. has_sides line || b) (is_objective rows row d distinct within))
