-- The bounds of a canonical text make the columns of its model again.
use Rattle.std.proofs.Common.{◌≡◌, ℕ, Bool, true, false, true≢false, cond, not, ◌||◌, ◌&&◌, List, [], ◌∷◌, ◌++◌, map, filter, filter_map, Option, Some, None, refl, sym, ap, subst, ◌∙◌, append_assoc}
use Rattle.std.specs.Prelude.{bytes_eq, slice_get, option_map, unwrap_or, is_none}
use Rattle.std.specs.Option.{option_or, option_map_or}
use Rattle.std.specs.Fmt.{signed_decimal}
use Rattle.std.specs.List.{list_any, cons_option, AllByRecursion}
use Rattle.std.proofs.lemmas.Bool.{or_parts, or_left, or_right}
use Rattle.std.proofs.lemmas.List.{map-append}
use Rattle.std.proofs.lemmas.List.Concat.{flat_map-append}
use Rattle.std.proofs.lemmas.List.Elements.{filter-append}
use Rattle.std.proofs.lemmas.List.Folds.{list_any-append}
use Rattle.exact_math.specs.Rational.{ℚ}
use Rattle.int_model.specs.declared.model.Column.{Column}
use Rattle.mps_model.specs.declared.fault.FaultKind.{FaultKind}
use Rattle.mps_model.specs.declared.fault.FaultKind.TheVariants as faults
use Rattle.mps_model.specs.declared.lines.bound_kind.BoundKind.TheVariants.{Li as LI, Ui as UI}
use Rattle.mps_model.specs.Tables.{BoundLine, Tables}
use Rattle.mps_model.specs.Sides.{zero_ℚ, is_negative, number_at}
use Rattle.mps_model.specs.Bounds.{last_of, lower_by, upper_by, column_names, is_between_markers, makes_integer, bounds_of}
use Rattle.mps_model.specs.StatedModel.{stated_column}
use Rattle.mps_model.specs.FaultRules.{first_holding, is_among}
use Rattle.mps_model.specs.Meaning.{fault_on, is_empty, first_line_of, column_fault_at, first_column_fault}
use Rattle.mps_write.specs.PlainModels.{IsPlainColumn}
use Rattle.mps_write.proofs.NameLaws.{bytes_same, bytes_differ, AreFresh, taken_apart, each_weaker, map_agrees}
use Rattle.mps_write.proofs.BoundScans.{two_bounds, all_bounds, bound_line}
use Rattle.mps_write.proofs.PlainFacts.{plain_read, both_each}

abbrev pub name_of : Column → List ℕ
name_of column = column.name

abbrev lines_for : List ℕ → List Column → List BoundLine
lines_for name columns = filter (λ (line : BoundLine). bytes_eq line.column name) (map bound_line (all_bounds columns))

other_lines : (name : List ℕ) (columns : List Column) → is_among (map name_of columns) name ≡ false → lines_for name columns ≡ []
other_lines name [] apart = refl
other_lines name (column ∷ columns) apart =
    let parts = or_parts (bytes_eq name column.name) (is_among (map name_of columns) name) apart in
    let differ : bytes_eq column.name name ≡ false = bytes_differ column.name name (λ same. absurd (true≢false (sym (bytes_same name) ∙ ap (bytes_eq name) (sym same) ∙ parts.0))) in
    let low = bound_line (record { kind = LI; column = column.name; value = signed_decimal column.lo.num }) in
    let high = bound_line (record { kind = UI; column = column.name; value = signed_decimal column.hi.num }) in
    ap (λ b. cond b (low ∷ cond b (high ∷ lines_for name columns) (lines_for name columns)) (cond b (high ∷ lines_for name columns) (lines_for name columns))) differ
    ∙ other_lines name columns parts.1

own_lines : (column : Column) (columns : List Column) → is_among (map name_of columns) column.name ≡ false → lines_for column.name (column ∷ columns) ≡ map bound_line (two_bounds column)
own_lines column columns apart =
    let low = bound_line (record { kind = LI; column = column.name; value = signed_decimal column.lo.num }) in
    let high = bound_line (record { kind = UI; column = column.name; value = signed_decimal column.hi.num }) in
    let rest = lines_for column.name columns in
    ap (λ b. cond b (low ∷ cond b (high ∷ rest) rest) (cond b (high ∷ rest) rest)) (bytes_same column.name)
    ∙ ap (λ ls. low ∷ high ∷ ls) (other_lines column.name columns apart)

split_lines : (name : List ℕ) (front rest : List Column) → lines_for name (front ++ rest) ≡ lines_for name front ++ lines_for name rest
split_lines name front rest =
    let p : BoundLine → Bool = λ line. bytes_eq line.column name in
    ap (λ bounds. filter p (map bound_line bounds)) (flat_map-append two_bounds front rest)
    ∙ ap (filter p) (map-append bound_line (all_bounds front) (all_bounds rest))
    ∙ filter-append p (map bound_line (all_bounds front)) (map bound_line (all_bounds rest))

-- the bounds of each column are its two
bounds_from : (front columns : List Column) → AreFresh (map name_of front) (map name_of columns)
    → AllByRecursion (λ (column : Column). lines_for column.name (front ++ columns) ≡ map bound_line (two_bounds column)) columns
bounds_from front [] fresh = tt
bounds_from front (column ∷ columns) fresh = (
  split_lines column.name front (column ∷ columns)
      ∙ ap (λ ls. ls ++ lines_for column.name (column ∷ columns)) (other_lines column.name front fresh.0)
      ∙ own_lines column columns
      (taken_apart (map name_of front ++ column.name ∷ []) (map name_of columns) column.name
      (list_any-append (bytes_eq column.name) (map name_of front) (column.name ∷ [])
      ∙ or_right (is_among (map name_of front) column.name) (is_among (column.name ∷ []) column.name) (or_left (bytes_eq column.name column.name) false (bytes_same column.name)))
      fresh.1),
  subst (λ all. AllByRecursion (λ (other : Column). lines_for other.name all ≡ map bound_line (two_bounds other)) columns) (append_assoc front (column ∷ []) columns)
      (bounds_from (front ++ column ∷ []) columns (subst (λ taken. AreFresh taken (map name_of columns)) (sym (map-append name_of front (column ∷ []))) fresh.1)),
)

-- ---- columns

abbrev same_column : List ℕ → ℚ → ℚ → Column
same_column name lo hi = record { name = name; lo = lo; hi = hi }

-- a column with its two bounds is the one of the model
column_back : (tables : Tables) (column : Column) → bounds_of tables column.name ≡ map bound_line (two_bounds column) → IsPlainColumn column → stated_column None tables column.name ≡ column
column_back tables column are plain =
    ap (λ bounds. same_column column.name (lower_in bounds) (upper_in bounds)) are
    ∙ ap (λ lo. same_column column.name lo (number_at (signed_decimal column.hi.num))) (plain_read column.lo plain.lo)
    ∙ ap (λ hi. same_column column.name column.lo hi) (plain_read column.hi plain.hi)
  where
    lower_in : List BoundLine → ℚ
    lower_in bounds = unwrap_or (unwrap_or (last_of (filter_map (λ (line : BoundLine). lower_by line.kind (number_at line.value)) bounds)) (Some zero_ℚ)) zero_ℚ

    upper_in : List BoundLine → ℚ
    upper_in bounds = unwrap_or (option_or (unwrap_or (last_of (filter_map (λ (line : BoundLine). upper_by line.kind (number_at line.value)) bounds)) None) None) zero_ℚ

no_rule : (between negative : Bool) → first_holding ((not (between || true), faults.Continuous) ∷ (false, faults.NoLower) ∷ (false, faults.NoUpper) ∷ (negative && false, faults.NegativeUpper) ∷ []) ≡ None
no_rule true true = refl
no_rule true false = refl
no_rule false true = refl
no_rule false false = refl

-- the fault of a column with these bounds
abbrev fault_with : Bool → List BoundLine → Option FaultKind
fault_with between bounds =
    let lowers = filter_map (λ (line : BoundLine). lower_by line.kind (number_at line.value)) bounds in
    let lower = unwrap_or (last_of lowers) (Some zero_ℚ) in
    let upper = option_or (unwrap_or (last_of (filter_map (λ (line : BoundLine). upper_by line.kind (number_at line.value)) bounds)) None) None in
    first_holding ((not (between || list_any (λ (line : BoundLine). makes_integer line.kind) bounds), faults.Continuous)
    ∷ (is_none lower, faults.NoLower)
    ∷ (is_none upper, faults.NoUpper)
    ∷ (option_map_or is_negative upper false && is_empty lowers, faults.NegativeUpper)
    ∷ [])

-- a column with its two bounds has no fault
column_clear : (tables : Tables) (column : Column) → bounds_of tables column.name ≡ map bound_line (two_bounds column) → column_fault_at None tables column.name ≡ None
column_clear tables column are =
    ap (option_map (fault_on (first_line_of tables column.name)))
    (ap (fault_with (is_between_markers tables.columns column.name)) are
    ∙ no_rule (is_between_markers tables.columns column.name) (is_negative (number_at (signed_decimal column.hi.num))))

none_first : (tables : Tables) (columns : List Column) → AllByRecursion (λ (column : Column). column_fault_at None tables column.name ≡ None) columns
    → filter_map (column_fault_at None tables) (map name_of columns) ≡ []
none_first tables [] clear = refl
none_first tables (column ∷ columns) clear =
    ap (λ o. cons_option o (filter_map (column_fault_at None tables) (map name_of columns))) clear.0 ∙ none_first tables columns clear.1

module _ (tables : Tables) (columns : List Column) (names_are : column_names tables.columns ≡ map name_of columns) (bounds_are : tables.bounds ≡ map bound_line (all_bounds columns))
    (fresh : AreFresh [] (map name_of columns)) (plain : AllByRecursion IsPlainColumn columns) where
  bounds_each : AllByRecursion (λ (column : Column). bounds_of tables column.name ≡ map bound_line (two_bounds column)) columns
  bounds_each =
      each_weaker (λ (column : Column). lines_for column.name columns ≡ map bound_line (two_bounds column)) (λ (column : Column). bounds_of tables column.name ≡ map bound_line (two_bounds column)) columns
      (λ column found. ap (filter (λ (line : BoundLine). bytes_eq line.column column.name)) bounds_are ∙ found) (bounds_from [] columns fresh)

  -- the columns that the tables state are those of the model
  pub columns_back : map (stated_column None tables) (column_names tables.columns) ≡ columns
  columns_back =
      ap (map (stated_column None tables)) names_are
      ∙ map-map columns
      ∙ map_agrees (λ (column : Column). stated_column None tables column.name) (λ column. column) columns
      (both_each (λ (column : Column). bounds_of tables column.name ≡ map bound_line (two_bounds column)) IsPlainColumn (λ (column : Column). stated_column None tables column.name ≡ column) columns
      (λ column are can. column_back tables column are can) bounds_each plain)
      ∙ map-same columns
    where
      map-map : (columns : List Column) → map (stated_column None tables) (map name_of columns) ≡ map (λ (column : Column). stated_column None tables column.name) columns
      map-map [] = refl
      map-map (column ∷ columns) = ap (λ rest. stated_column None tables column.name ∷ rest) (map-map columns)

      map-same : (columns : List Column) → map (λ (column : Column). column) columns ≡ columns
      map-same [] = refl
      map-same (column ∷ columns) = ap (λ rest. column ∷ rest) (map-same columns)

  -- and none has a fault
  pub columns_clear : first_column_fault None tables ≡ None
  columns_clear =
      ap (λ names. slice_get (filter_map (column_fault_at None tables) names) 0) names_are
      ∙ ap (λ found. slice_get found 0) (none_first tables columns
      (each_weaker (λ (column : Column). bounds_of tables column.name ≡ map bound_line (two_bounds column)) (λ (column : Column). column_fault_at None tables column.name ≡ None) columns
      (λ column are. column_clear tables column are) bounds_each))
