-- The lines of BOUNDS in a canonical text have no fault, and state the bounds.
use Rattle.std.proofs.Common.{◌≡◌, ℕ, Bool, true, false, cond, not, ◌&&◌, List, [], ◌∷◌, ◌++◌, map, Some, None, Ok, refl, sym, ap, subst, ◌∙◌}
use Rattle.std.specs.Prelude.{option_to_list, option_map, option_and_then, slice_get, flat_map}
use Rattle.std.specs.Fmt.{signed_decimal}
use Rattle.std.specs.List.{last_or, AllByRecursion}
use Rattle.std.proofs.lemmas.List.{map-append}
use Rattle.mps_fields.specs.Lines.{Line, numbered}
use Rattle.mps_fields.specs.Reading.{number_of}
use Rattle.mps_model.specs.declared.layout.Layout.TheVariants.{Free}
use Rattle.mps_model.specs.declared.fault.FaultKind.TheVariants as faults
use Rattle.mps_model.specs.declared.lines.section.Section.{Section}
use Rattle.mps_model.specs.declared.lines.section.Section.TheVariants.{Bounds as BOUNDS}
use Rattle.mps_model.specs.declared.lines.bound_kind.BoundKind.{BoundKind}
use Rattle.mps_model.specs.declared.lines.bound_kind.BoundKind.TheVariants.{Lo as LO, Up as UP, Fx as FX, Fr as FR, Mi as MI, Pl as PL, Bv as BV, Li as LI, Ui as UI}
use Rattle.mps_model.specs.SixFields.{value_places, bare_places}
use Rattle.mps_model.specs.Tables.{RowLine, PairLine, ColumnLine, BoundLine, Tables, bound_word, bound_kind_of, takes_value, valued_said, bare_said, bound_kind_at, bound_with, bound_at}
use Rattle.mps_model.specs.Sides.{number_at}
use Rattle.mps_model.specs.Bounds.{column_names}
use Rattle.mps_model.specs.FaultRules.{first_holding, is_among, is_not_number, is_wide_number}
use Rattle.mps_model.specs.PairFaults.{is_second_set}
use Rattle.mps_model.specs.ColumnFaults.{bound_line_fault, bound_fault}
use Rattle.int_model.specs.declared.model.Column.{Column}
use Rattle.mps_write.specs.CanonicalText.{Fields, data_line, bound_fields, bound_table}
use Rattle.mps_write.proofs.LineTexts.{free_texts-data_line}
use Rattle.mps_write.proofs.NameLaws.{each_at}
use Rattle.mps_write.proofs.Scans.{IsPassed, AreFields, line_of, passed_data, kept_along, tables_from}

-- a bound of a column
pub record ColumnBound : Type 0 where
  pub kind : BoundKind
  pub column : List ℕ
  pub value : List ℕ

-- its line
abbrev pub fields_of_bound : ColumnBound → Fields
fields_of_bound bound = bound_word bound.kind ∷ bound.column ∷ bound.value ∷ []

-- what its line says
abbrev pub bound_line : ColumnBound → BoundLine
bound_line bound = record { kind = bound.kind; set = []; column = bound.column; value = bound.value }

abbrev pub two_bounds : Column → List ColumnBound
two_bounds column =
    (record { kind = LI; column = column.name; value = signed_decimal column.lo.num })
    ∷ (record { kind = UI; column = column.name; value = signed_decimal column.hi.num }) ∷ []

abbrev pub all_bounds : List Column → List ColumnBound
all_bounds columns = flat_map two_bounds columns

-- the lines of BOUNDS are theirs
pub bound_table_is : (columns : List Column) → map fields_of_bound (all_bounds columns) ≡ bound_table columns
bound_table_is [] = refl
bound_table_is (column ∷ columns) = ap (λ rest. bound_fields column ++ rest) (bound_table_is columns)

-- a bound of a known column, whose number is read
pub record IsGoodBound (names : List (List ℕ)) (bound : ColumnBound) : Type 0 where
  pub valued : takes_value bound.kind ≡ true
  pub known : is_among names bound.column ≡ true
  pub read : number_of bound.value ≡ Ok (number_at bound.value)
  pub fields : AreFields (fields_of_bound bound)

kind_known : (kind : BoundKind) → bound_kind_of (bound_word kind) ≡ Some kind
kind_known LO = refl
kind_known UP = refl
kind_known FX = refl
kind_known FR = refl
kind_known MI = refl
kind_known PL = refl
kind_known BV = refl
kind_known LI = refl
kind_known UI = refl

module _ (number : ℕ) (bound : ColumnBound) (can : AreFields (fields_of_bound bound)) (valued : takes_value bound.kind ≡ true) where
  abbrev line : Line
  line = line_of number (data_line (fields_of_bound bound))

  kind_read : bound_kind_at Free line ≡ Some bound.kind
  kind_read = ap (λ (fields : Fields). option_and_then bound_kind_of (slice_get fields 0)) (free_texts-data_line (fields_of_bound bound) can.runs) ∙ kind_known bound.kind

  with_read : bound_with Free line bound.kind ≡ Some (bound_line bound)
  with_read =
      ap (λ fields. cond (takes_value bound.kind) (valued_said bound.kind (value_places fields)) (bare_said bound.kind (bare_places fields))) (free_texts-data_line (fields_of_bound bound) can.runs)
      ∙ ap (λ b. cond b (Some (bound_line bound)) (bare_said bound.kind (bare_places (fields_of_bound bound)))) valued

  pub bound_read : bound_at Free line ≡ Some (bound_line bound)
  bound_read = ap (option_and_then (bound_with Free line)) kind_read ∙ with_read

  pub bound_rule : (tables : Tables) → bound_fault Free tables line (bound_kind_at Free line) ≡ bound_line_fault tables (Some (bound_line bound))
  bound_rule tables = ap (bound_fault Free tables line) kind_read ∙ ap (bound_line_fault tables) with_read

no_rule : (second known valued wrong wide : Bool) → second ≡ false → known ≡ true → wrong ≡ false → wide ≡ false
    → first_holding ((second, faults.SecondSet) ∷ (not known, faults.UnknownColumn) ∷ (valued && wrong, faults.NotNumber) ∷ (valued && wide, faults.WideNumber) ∷ []) ≡ None
no_rule second known true wrong wide a b c d = rw (a, b, c, d) refl
no_rule second known false wrong wide a b c d = rw (a, b) refl

first_set : (done : List ColumnBound) → is_second_set (option_map (λ (line : BoundLine). line.set) (slice_get (map bound_line done) 0)) [] ≡ false
first_set [] = refl
first_set (bound ∷ done) = refl

module _ (all : List ColumnBound) (sections : List Section) (rows : List RowLine) (columns : List ColumnLine) (sides ranges : List PairLine) (last : last_or None sections ≡ Some BOUNDS)
    (good : AllByRecursion (IsGoodBound (column_names columns)) all) where
  abbrev BoundsPassed : List ColumnBound → List Line → Type 0
  BoundsPassed done above = IsPassed above sections (tables_from rows columns sides ranges (map bound_line done))

  bound_step : (done rest : List ColumnBound) (bound : ColumnBound) (above : List Line) (number : ℕ) → done ++ bound ∷ rest ≡ all → BoundsPassed done above
      → BoundsPassed (done ++ bound ∷ []) (above ++ line_of number (data_line (fields_of_bound bound)) ∷ [])
  bound_step done rest bound above number whole now =
      let here : IsGoodBound (column_names columns) bound = each_at (IsGoodBound (column_names columns)) all done rest bound whole good in
      let tables = tables_from rows columns sides ranges (map bound_line done) in
      let read = bound_read number bound here.fields here.valued in
      subst (λ bounds. IsPassed (above ++ line_of number (data_line (fields_of_bound bound)) ∷ []) sections (tables_from rows columns sides ranges bounds)) (sym (map-append bound_line done (bound ∷ [])))
      (subst (λ o. IsPassed (above ++ line_of number (data_line (fields_of_bound bound)) ∷ []) sections (tables_from rows columns sides ranges (map bound_line done ++ option_to_list o))) read
      (passed_data above sections tables now number (bound_word bound.kind) (bound.column ∷ bound.value ∷ []) BOUNDS here.fields last
      (bound_rule number bound here.fields here.valued tables
      ∙ no_rule (is_second_set (option_map (λ (line : BoundLine). line.set) (slice_get (map bound_line done) 0)) []) (is_among (column_names columns) bound.column)
      (takes_value bound.kind) (is_not_number (number_of bound.value)) (is_wide_number (number_of bound.value))
      (first_set done) here.known (ap is_not_number here.read) (ap is_wide_number here.read))))

  pub bounds_passed : (above : List Line) (number : ℕ) → IsPassed above sections (tables_from rows columns sides ranges [])
      → IsPassed (above ++ numbered number (map data_line (map fields_of_bound all))) sections (tables_from rows columns sides ranges (map bound_line all))
  bounds_passed above number now = kept_along all fields_of_bound BoundsPassed bound_step [] all above number refl now
