-- The lines of ROWS in a canonical text have no fault, and state the rows.
use Rattle.std.proofs.Common.{◌≡◌, ℕ, ◌<◌, ◌≤◌, ℤ, Bool, true, false, cond, not, ◌||◌, ◌&&◌, leb, List, [], ◌∷◌, ◌++◌, length, map, Option, Some, None, refl, sym, ap, subst, ◌∙◌, length-append, arith}
use Rattle.std.specs.Prelude.{codes, option_to_list}
use Rattle.std.specs.Ordering.{int_eq}
use Rattle.std.specs.List.{last_or, AllByRecursion}
use Rattle.std.proofs.lemmas.Bool.{lt-leb, or_right}
use Rattle.std.proofs.Math.Bool.{and-false}
use Rattle.std.proofs.lemmas.List.{map-append, length-map}
use Rattle.mps_fields.specs.Lines.{Line, numbered}
use Rattle.mps_model.specs.declared.layout.Layout.TheVariants.{Free}
use Rattle.mps_model.specs.declared.fault.FaultKind.TheVariants as faults
use Rattle.mps_model.specs.declared.lines.section.Section.{Section}
use Rattle.mps_model.specs.declared.lines.section.Section.TheVariants.{Rows as ROWS}
use Rattle.mps_model.specs.SixFields.{row_places}
use Rattle.mps_model.specs.Tables.{RowLine, row_said, row_at}
use Rattle.mps_model.specs.Sides.{is_free_row, has_sides, sided_rows}
use Rattle.mps_model.specs.FaultRules.{first_holding, is_among}
use Rattle.mps_model.specs.RowFaults.{row_names, row_fault}
use Rattle.int_model.specs.declared.model.Row.{Row}
use Rattle.mps_write.specs.CanonicalText.{data_line, objective_name, whole_side, kind_of, row_kind, row_fields}
use Rattle.mps_write.proofs.LineTexts.{free_texts-data_line}
use Rattle.mps_write.proofs.NameLaws.{AreFresh, each_at, fresh_at}
use Rattle.mps_write.proofs.Scans.{IsPassed, AreFields, line_of, passed_data, kept_along, tables_from}

-- what a row's line says
abbrev pub row_line : Row → RowLine
row_line row = record { kind = row_kind row; name = row.name }

-- what the line of the objective says
abbrev pub objective_line : RowLine
objective_line = record { kind = codes "N"; name = objective_name }

row_read : (number : ℕ) (kind name : List ℕ) → AreFields (kind ∷ name ∷ []) → row_at Free (line_of number (data_line (kind ∷ name ∷ []))) ≡ Some (record { kind = kind; name = name })
row_read number kind name can = ap (λ fields. row_said (row_places fields)) (free_texts-data_line (kind ∷ name ∷ []) can.runs)

by_rules : (known among many : Bool) → known ≡ true → among ≡ false → many ≡ false
    → first_holding ((not known, faults.RowKind) ∷ (among, faults.Duplicate) ∷ (many, faults.TooManyRows) ∷ []) ≡ None
by_rules true false false h k l = refl
by_rules false among many h k l = cc
by_rules true true many h k l = cc
by_rules true false true h k l = cc

-- one more row of a known kind, with a name of its own
passed_row : (above : List Line) (sections : List Section) (rows : List RowLine) (number : ℕ) (row : RowLine) → IsPassed above sections (tables_from rows [] [] [] [])
    → last_or None sections ≡ Some ROWS → AreFields (row.kind ∷ row.name ∷ []) → (is_free_row row || has_sides row) ≡ true → is_among (row_names rows) row.name ≡ false
    → (has_sides row && leb 256 (length (sided_rows rows))) ≡ false
    → IsPassed (above ++ line_of number (data_line (row.kind ∷ row.name ∷ [])) ∷ []) sections (tables_from (rows ++ row ∷ []) [] [] [] [])
passed_row above sections rows number row now last can known fresh few =
    let tables = tables_from rows [] [] [] [] in
    let read = row_read number row.kind row.name can in
    subst (λ o. IsPassed (above ++ line_of number (data_line (row.kind ∷ row.name ∷ [])) ∷ []) sections (tables_from (rows ++ option_to_list o) [] [] [] [])) read
    (passed_data above sections tables now number row.kind (row.name ∷ []) ROWS can last
    (ap (row_fault tables) read ∙ by_rules (is_free_row row || has_sides row) (is_among (row_names rows) row.name) (has_sides row && leb 256 (length (sided_rows rows))) known fresh few))

has_sides_of : (low high : Option ℤ) (name : List ℕ) → has_sides (record { kind = kind_of low high; name = name }) ≡ true
has_sides_of None high name = refl
has_sides_of (Some low) None name = refl
has_sides_of (Some low) (Some high) name =
    elim (int_eq low high) as (λ b. has_sides (record { kind = cond b (codes "E") (codes "G"); name = name }) ≡ true) [ true ↦ refl | false ↦ refl ]

-- a row has sides
pub row_has_sides : (row : Row) → has_sides (row_line row) ≡ true
row_has_sides row = has_sides_of (whole_side row.lo) (whole_side row.hi) row.name

all_sided : (rows : List Row) → sided_rows (map row_line rows) ≡ map row_line rows
all_sided [] = refl
all_sided (row ∷ rows) = ap (λ b. cond b (row_line row ∷ sided_rows (map row_line rows)) (sided_rows (map row_line rows))) (row_has_sides row) ∙ ap (λ rest. row_line row ∷ rest) (all_sided rows)

-- the rows with sides are those of the model
pub sided_is : (rows : List Row) → sided_rows (objective_line ∷ map row_line rows) ≡ map row_line rows
sided_is rows = all_sided rows

names_are : (rows : List Row) → row_names (map row_line rows) ≡ map (λ (row : Row). row.name) rows
names_are [] = refl
names_are (row ∷ rows) = ap (λ names. row.name ∷ names) (names_are rows)

-- the names that ROWS has
pub row_names_are : (rows : List Row) → row_names (objective_line ∷ map row_line rows) ≡ objective_name ∷ map (λ (row : Row). row.name) rows
row_names_are rows = ap (λ names. objective_name ∷ names) (names_are rows)

sided_few : (rows : List Row) → length rows < 256 → leb 256 (length (sided_rows (objective_line ∷ map row_line rows))) ≡ false
sided_few rows few = ap (λ rs. leb 256 (length rs)) (sided_is rows) ∙ lt-leb 256 (length (map row_line rows)) (omega (arith, few, length-map rows row_line))

module _ (all : List Row) (sections : List Section) (last : last_or None sections ≡ Some ROWS) (can : AllByRecursion (λ row. AreFields (row_fields row)) all)
    (fresh : AreFresh (objective_name ∷ []) (map (λ (row : Row). row.name) all)) (few : length all ≤ 256) where
  abbrev RowsPassed : List Row → List Line → Type 0
  RowsPassed done above = IsPassed above sections (tables_from (objective_line ∷ map row_line done) [] [] [] [])

  step : (done rest : List Row) (row : Row) (above : List Line) (number : ℕ) → done ++ row ∷ rest ≡ all → RowsPassed done above
      → RowsPassed (done ++ row ∷ []) (above ++ line_of number (data_line (row_fields row)) ∷ [])
  step done rest row above number whole now =
      let more : length done < 256 = omega (arith, few, ap length whole, length-append done (row ∷ rest)) in
      subst (λ rows. IsPassed (above ++ line_of number (data_line (row_fields row)) ∷ []) sections (tables_from (objective_line ∷ rows) [] [] [] [])) (sym (map-append row_line done (row ∷ [])))
      (passed_row above sections (objective_line ∷ map row_line done) number (row_line row) now last
      (each_at (λ row. AreFields (row_fields row)) all done rest row whole can)
      (or_right (is_free_row (row_line row)) (has_sides (row_line row)) (row_has_sides row))
      (ap (λ names. is_among names row.name) (row_names_are done) ∙ fresh_at (λ (row : Row). row.name) (objective_name ∷ []) all done rest row whole fresh)
      (ap (λ b. has_sides (row_line row) && b) (sided_few done more) ∙ and-false (has_sides (row_line row))))

  -- behind the line of the objective
  pub rows_passed : (above : List Line) (number : ℕ) → IsPassed above sections (tables_from (objective_line ∷ []) [] [] [] [])
      → IsPassed (above ++ numbered number (map data_line (map row_fields all))) sections (tables_from (objective_line ∷ map row_line all) [] [] [] [])
  rows_passed above number now = kept_along all row_fields RowsPassed step [] all above number refl now

-- the line of the objective
pub objective_passed : (above : List Line) (sections : List Section) (number : ℕ) → IsPassed above sections (tables_from [] [] [] [] []) → last_or None sections ≡ Some ROWS
    → IsPassed (above ++ line_of number (data_line (codes "N" ∷ objective_name ∷ [])) ∷ []) sections (tables_from (objective_line ∷ []) [] [] [] [])
objective_passed above sections number now last = passed_row above sections [] number objective_line now last (record { runs = (refl, (refl, tt)); few = omega arith }) refl refl refl
