-- When a pair of RANGES has a fault, and what the code keeps of the ranges of rows: the ends to which they go.
use Rattle.std.proofs.Common.{◌≡◌, ℕ, ◌-◌, Bool, true, false, cond, List, [], ◌∷◌, ◌++◌, length, get_or, set, Option, Some, None, Ok, Err, is_some, slice_get, map, Bor, refl, sym, ap, ap₂, ◌∙◌}
use Rattle.std.specs.Prelude.{bytes_eq, not, option_map, unwrap_or, IfSome}
use Rattle.std.specs.Option.{option_or, option_map_or, option_copied}
use Rattle.std.specs.List.{IsDistinct}
use Rattle.std.proofs.lemmas.Bool.{false_from_ne_true}
use Rattle.std.proofs.lemmas.Option.{slice_get-map, slice_get_within, get_or_from_slice_get, same_Some}
use Rattle.exact_math.specs.Rational.{ℚ, ◌+ℚ◌}
use Rattle.frac128.specs.Range.{SumInRange}
use Rattle.mps_fields.specs.Reading.{number_of}
use Rattle.mps_fields.specs.declared.numbers.NumberFault.{NumberFault}
use Rattle.mps_fields.specs.declared.numbers.NumberFault.TheVariants as numbers
use Rattle.mps_model.specs.declared.fault.FaultKind.TheVariants as faults
use Rattle.mps_model.specs.declared.tables.row_kind.RowKind.{RowKind}
use Rattle.mps_model.specs.declared.tables.sides.SideTable.{SideTable}
use Rattle.mps_model.specs.Tables.{RowLine, Pair, PairLine, Tables}
use Rattle.mps_model.specs.Sides.{number_or_zero, is_free_row, has_sides, zero_ℚ, number_beside, pairs_of, side_in, side_of, range_step, sum_fits}
use Rattle.mps_model.specs.FaultRules.{first_holding, is_among, is_not_number, is_wide_number}
use Rattle.mps_model.specs.RowFaults.{row_names}
use Rattle.mps_model.specs.PairFaults.{row_named, has_wide_side, range_fault}
use Rattle.mps_model.specs.RowKinds.{letter_of, row_of}
use Rattle.mps_model.specs.Judging.{kind_of}
use Rattle.mps_model.specs.KeptSides.{number_in, names_in, padded, range_end, end_in, KeepsPairs, KeepsRanges}
use Rattle.mps_model.proofs.OnLines.FaultRuleLaws.{last_rule}
use Rattle.mps_model.proofs.OnTables.SumRangeLaws.{sum_fits_decides}
use Rattle.mps_model.proofs.OnTables.RowTableLaws.{free_is_not_sided}
use Rattle.mps_model.specs.FirstPlaceLaws.{IsFirst, bytes_flip, name_at, said}
use Rattle.mps_model.specs.NameListLaws.{map_changed}
use Rattle.mps_model.proofs.OnTables.PairLaws.{none_from, beside_new, beside_other, beside_found, number_at_place, padding_tells_nothing, kept_number}
use Rattle.mps_model.proofs.OnTables.SideTableLaws.{AsksOfName, full, none_kept, label_kept, pairs_push}

-- ---- the faults of a pair

pub range_asks : (above : Tables) → AsksOfName (range_fault above)
range_asks above taken other pair e =
    ap (λ b. first_holding (
    (not (is_among (row_names above.rows) pair.name), faults.UnknownRow)
    ∷ (option_map_or is_free_row (row_named above.rows pair.name) false, faults.RangeOnObjective)
    ∷ (is_not_number (number_of pair.number), faults.NotNumber)
    ∷ (is_wide_number (number_of pair.number), faults.WideNumber)
    ∷ (option_map_or (has_wide_side above pair) (row_named above.rows pair.name) false, faults.WideNumber)
    ∷ (b, faults.Duplicate)
    ∷ [])) e

module _ (above : Tables) (rows : List RowLine) (taken : List (List ℕ)) (pair : Pair) (kind : RowKind) (name : List ℕ) (are_rows : above.rows ≡ rows)
    (known : is_among (row_names rows) pair.name ≡ true) (found : row_named rows pair.name ≡ Some (row_of kind name)) where
  -- what is left to judge of a pair whose row is known
  rules : range_fault above taken pair ≡ first_holding (
      (not (has_sides (row_of kind name)), faults.RangeOnObjective)
      ∷ (is_not_number (number_of pair.number), faults.NotNumber)
      ∷ (is_wide_number (number_of pair.number), faults.WideNumber)
      ∷ (has_wide_side above pair (row_of kind name), faults.WideNumber)
      ∷ (is_among taken pair.name, faults.Duplicate)
      ∷ [])
  rules = rw (are_rows, known, found, free_is_not_sided kind name) refl

  -- the row has no sides
  pub range_on_free : has_sides (row_of kind name) ≡ false → range_fault above taken pair ≡ Some faults.RangeOnObjective
  range_on_free free = rules ∙ rw free refl

  -- the range is no number, or too wide a one
  pub range_no_number : (fault : NumberFault) → has_sides (row_of kind name) ≡ true → number_of pair.number ≡ Err fault → range_fault above taken pair ≡ Some (kind_of fault)
  range_no_number numbers.NotNumber sided e = rules ∙ rw (sided, e) refl
  range_no_number numbers.WideNumber sided e = rules ∙ rw (sided, e) refl

  module _ (q : ℚ) (sided : has_sides (row_of kind name) ≡ true) (value : number_of pair.number ≡ Ok q) where
    judged : (b : Bool) → sum_fits (side_of above pair.name) (range_step (row_of kind name) q) ≡ b
        → range_fault above taken pair ≡ first_holding ((not b, faults.WideNumber) ∷ (is_among taken pair.name, faults.Duplicate) ∷ [])
    judged b e = rules ∙ rw (sided, value, e) refl

    -- the side that the range makes is too wide
    pub range_too_wide : sum_fits (side_of above pair.name) (range_step (row_of kind name) q) ≡ false → range_fault above taken pair ≡ Some faults.WideNumber
    range_too_wide e = judged false e

    -- otherwise only the row can be taken already
    pub range_left : sum_fits (side_of above pair.name) (range_step (row_of kind name) q) ≡ true
        → range_fault above taken pair ≡ cond (is_among taken pair.name) (Some faults.Duplicate) None
    range_left e = judged true e ∙ last_rule (is_among taken pair.name) faults.Duplicate

-- ---- sums of fractions

-- a sum that is out of range does not fit
pub wide_sum : (p q : ℚ) → (SumInRange p q → ⊥) → sum_fits p q ≡ false
wide_sum p q wide = false_from_ne_true (sum_fits p q) (λ fits. wide ((sum_fits_decides p q).0 fits))

-- the side of the row at the place of a name
pub side_found : (rows : List RowLine) (above : Tables) (sides : SideTable) (name : List ℕ) (place : ℕ) (side : ℚ) → IsFirst (bytes_eq name) (row_names rows) place
    → KeepsPairs (row_names rows) above.sides sides → side ≡ unwrap_or (number_in sides.numbers.items place) zero_ℚ → side ≡ side_of above name
side_found rows above sides name place side first kept is =
    is ∙ ap (λ o. unwrap_or o zero_ℚ) (kept_number (row_names rows) above.sides sides name place kept (name_at name (row_names rows) place first))

-- ---- the end of a row

row_at : (o : Option RowLine) (name : List ℕ) (kind : RowKind) → option_map (λ (row : RowLine). row.name) o ≡ Some name
    → IfSome o (λ row. row.kind ≡ letter_of kind) → o ≡ Some (row_of kind name)
row_at None name kind e k = cc
row_at (Some row) name kind e k = ap₂ (λ letters n. Some (said letters n)) k (same_Some row.name name e)

some_mapped : {A B : Type 0} (f : A → B) (o : Option A) → is_some (option_map f o) ≡ is_some o
some_mapped f None = refl
some_mapped f (Some x) = refl

module _ (sides : List PairLine) (rows : List RowLine) (distinct : IsDistinct bytes_eq (row_names rows)) (pairs : List Pair) (pair : Pair) (place : ℕ) (kind : RowKind)
    (first : IsFirst (bytes_eq pair.name) (row_names rows) place) (letters : IfSome (slice_get rows place) (λ row. row.kind ≡ letter_of kind))
    (numbers : List (Option ℚ)) (kept : numbers ≡ map (end_in sides pairs) rows) where
  here : slice_get rows place ≡ Some (row_of kind pair.name)
  here = row_at (slice_get rows place) pair.name kind (sym (slice_get-map (λ (row : RowLine). row.name) rows place) ∙ name_at pair.name (row_names rows) place first) letters

  -- the place has an end where the name is taken
  pub end_taken : is_some (number_in numbers place) ≡ is_among (names_in pairs) pair.name
  end_taken =
      ap is_some (number_at_place (end_in sides pairs) numbers (row_of kind pair.name) rows place kept here)
      ∙ some_mapped (λ r. side_in sides pair.name +ℚ range_step (row_of kind pair.name) r) (number_beside pairs pair.name) ∙ beside_found pairs pair.name

  -- the ends with that of one more pair
  pub end_put : (q end : ℚ) → number_of pair.number ≡ Ok q → end ≡ side_in sides pair.name +ℚ range_step (row_of kind pair.name) q → is_some (number_in numbers place) ≡ false
      → set numbers place (Some end) ≡ map (end_in sides (pairs ++ pair ∷ [])) rows
  end_put q end value is free =
      let row = row_of kind pair.name in
      let none : number_beside pairs pair.name ≡ None = none_from (number_beside pairs pair.name) (beside_found pairs pair.name ∙ sym end_taken ∙ free) in
      let at : get_or rows place row ≡ row = get_or_from_slice_get rows place row row here in
      let new : end_in sides (pairs ++ pair ∷ []) row ≡ Some end = ap (range_end (side_in sides pair.name) row) (beside_new pairs pair none ∙ ap (λ r. Some (number_or_zero r)) value) ∙ ap Some (sym is) in
      ap (λ ns. set ns place (Some end)) kept
      ∙ sym (map_changed (λ (other : RowLine). other.name) (end_in sides pairs) (end_in sides (pairs ++ pair ∷ [])) rows place row distinct (slice_get_within rows place row here)
      (λ other differ.
      ap (range_end (side_in sides other.name) other)
      (beside_other pairs pair other.name (bytes_flip pair.name other.name ∙ ap (λ (r : RowLine). bytes_eq other.name r.name) (sym at) ∙ differ)))
      ∙ ap (set (map (end_in sides pairs) rows) place) (ap (end_in sides (pairs ++ pair ∷ [])) at ∙ new))

-- what is kept of one more line
pub keeps_ranges : (rows : List RowLine) (sides ranges : List PairLine) (line : PairLine) (label : Bor (List ℕ)) (old new : SideTable) → KeepsRanges rows sides ranges old
    → line.label ≡ label.now → new.set ≡ option_or old.set (Some label) → new.numbers.items ≡ map (end_in sides (pairs_of ranges ++ line.pairs)) rows
    → KeepsRanges rows sides (ranges ++ line ∷ []) new
keeps_ranges rows sides ranges line label old new kept same set numbers = record {
  set = label_kept ranges line label old new kept.set same set;
  ends =
      full rows (end_in sides (pairs_of ranges ++ line.pairs)) new.numbers.items numbers
      ∙ ap (λ pairs. map (end_in sides pairs) rows) (sym (pairs_push ranges line));
}

-- before the first line of RANGES there may be other lines of RHS
pub keeps_no_ranges : (rows : List RowLine) (sides : List PairLine) (table : SideTable) → table.set ≡ None → table.numbers.items ≡ [] → KeepsRanges rows sides [] table
keeps_no_ranges rows sides table no_set no_numbers = record { set = ap option_copied no_set; ends = rw no_numbers (none_kept rows) }

-- ---- the sides at the end

module _ (tables : Tables) (sides ranges : SideTable) (row : RowLine) (place : ℕ) (at : slice_get tables.rows place ≡ Some row)
    (kept : KeepsPairs (row_names tables.rows) tables.sides sides) (kept_ranges : KeepsRanges tables.rows tables.sides tables.ranges ranges) where
  pub kept_side : unwrap_or (number_in sides.numbers.items place) zero_ℚ ≡ side_of tables row.name
  kept_side =
      ap (λ o. unwrap_or o zero_ℚ)
      (kept_number (row_names tables.rows) tables.sides sides row.name place kept (slice_get-map (λ line. line.name) tables.rows place ∙ ap (option_map (λ line. line.name)) at))

  pub kept_end : number_in ranges.numbers.items place ≡ range_end (side_of tables row.name) row (number_beside (pairs_of tables.ranges) row.name)
  kept_end =
      sym (padding_tells_nothing ranges.numbers.items (length tables.rows - length ranges.numbers.items) place)
      ∙ number_at_place (end_in tables.sides (pairs_of tables.ranges)) (padded (length tables.rows) ranges.numbers.items) row tables.rows place kept_ranges.ends at
