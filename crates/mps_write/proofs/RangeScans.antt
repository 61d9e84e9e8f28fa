-- The lines of RANGES in a canonical text have no fault.
use Rattle.std.proofs.Common.{◌≡◌, ℕ, Bool, true, false, not, List, [], ◌∷◌, ◌++◌, map, Some, None, refl, ap, subst, ◌∙◌}
use Rattle.std.specs.Prelude.{option_to_list}
use Rattle.std.specs.Option.{option_map_or}
use Rattle.std.specs.List.{last_or, AllByRecursion}
use Rattle.mps_fields.specs.Lines.{Line, numbered}
use Rattle.mps_fields.specs.Reading.{number_of}
use Rattle.mps_model.specs.declared.fault.FaultKind.TheVariants as faults
use Rattle.mps_model.specs.declared.lines.section.Section.{Section}
use Rattle.mps_model.specs.declared.lines.section.Section.TheVariants.{Ranges as RANGES}
use Rattle.mps_model.specs.Tables.{RowLine, Pair, PairLine, ColumnLine}
use Rattle.mps_model.specs.Sides.{is_free_row}
use Rattle.mps_model.specs.FaultRules.{first_holding, is_among, is_not_number, is_wide_number}
use Rattle.mps_model.specs.RowFaults.{row_names}
use Rattle.mps_model.specs.PairFaults.{row_named, has_wide_side, range_fault, set_fault}
use Rattle.mps_write.specs.CanonicalText.{data_line, unlabelled}
use Rattle.mps_write.proofs.NameLaws.{AreFresh, each_at, fresh_at}
use Rattle.mps_write.proofs.Scans.{IsPassed, line_of, passed_data, kept_along, tables_from}
use Rattle.mps_write.proofs.PairScans.{IsGoodPair, alone, set_line, SayPairs, say_none, say_more, set_read, set_clear, two_fields}

-- a pair of RANGES: its row has sides, and the side that it makes is in range
pub record IsGoodRange (rows : List RowLine) (columns : List ColumnLine) (sides : List PairLine) (pair : Pair) : Type 0 where
  pub good : IsGoodPair (row_names rows) pair
  pub sided : option_map_or is_free_row (row_named rows pair.name) false ≡ false
  pub fits : option_map_or (has_wide_side (tables_from rows columns sides [] []) pair) (row_named rows pair.name) false ≡ false

no_rule : (known free wrong wide side taken : Bool) → known ≡ true → free ≡ false → wrong ≡ false → wide ≡ false → side ≡ false → taken ≡ false
    → first_holding ((not known, faults.UnknownRow) ∷ (free, faults.RangeOnObjective) ∷ (wrong, faults.NotNumber) ∷ (wide, faults.WideNumber) ∷ (side, faults.WideNumber) ∷ (taken, faults.Duplicate) ∷ []) ≡ None
no_rule known free wrong wide side taken a b c d e f = rw (a, b, c, d, e, f) refl

-- the lines of RANGES are passed, and say these pairs
pub record RangesPassed (sections : List Section) (rows : List RowLine) (columns : List ColumnLine) (sides : List PairLine) (pairs : List Pair) (above : List Line) : Type 0 where
  pub lines : List PairLine
  pub passed : IsPassed above sections (tables_from rows columns sides lines [])
  pub said : SayPairs lines pairs

module _ (all : List Pair) (sections : List Section) (rows : List RowLine) (columns : List ColumnLine) (sides : List PairLine) (last : last_or None sections ≡ Some RANGES)
    (good : AllByRecursion (IsGoodRange rows columns sides) all) (fresh : AreFresh [] (map (λ (pair : Pair). pair.name) all)) where
  range_step : (done rest : List Pair) (pair : Pair) (above : List Line) (number : ℕ) → done ++ pair ∷ rest ≡ all → RangesPassed sections rows columns sides done above
      → RangesPassed sections rows columns sides (done ++ pair ∷ []) (above ++ line_of number (data_line (unlabelled pair)) ∷ [])
  range_step done rest pair above number whole now =
      let here : IsGoodRange rows columns sides pair = each_at (IsGoodRange rows columns sides) all done rest pair whole good in
      let can = two_fields (row_names rows) pair here.good in
      let read = set_read number pair can in
      let tables = tables_from rows columns sides now.lines [] in
      let taken = map (λ (pair : Pair). pair.name) done in
      let clear : range_fault tables taken pair ≡ None =
      no_rule (is_among (row_names rows) pair.name) (option_map_or is_free_row (row_named rows pair.name) false) (is_not_number (number_of pair.number)) (is_wide_number (number_of pair.number))
      (option_map_or (has_wide_side tables pair) (row_named rows pair.name) false) (is_among taken pair.name)
      here.good.known here.sided (ap is_not_number here.good.read) (ap is_wide_number here.good.read) here.fits (fresh_at (λ (pair : Pair). pair.name) [] all done rest pair whole fresh)
      in
      record {
        lines = now.lines ++ set_line number pair ∷ [];
        passed = subst (λ o. IsPassed (above ++ line_of number (data_line (unlabelled pair)) ∷ []) sections (tables_from rows columns sides (now.lines ++ option_to_list o) [])) read
            (passed_data above sections tables now.passed number pair.name (pair.number ∷ []) RANGES can last
            (ap (set_fault (range_fault tables) now.lines) read
            ∙ set_clear (range_fault tables) now.lines done number pair now.said (alone (range_fault tables) taken pair clear)));
        said = say_more now.lines done number pair now.said;
      }

  pub ranges_passed : (above : List Line) (number : ℕ) → IsPassed above sections (tables_from rows columns sides [] [])
      → RangesPassed sections rows columns sides all (above ++ numbered number (map data_line (map unlabelled all)))
  ranges_passed above number now =
      kept_along all unlabelled (RangesPassed sections rows columns sides) range_step [] all above number refl (record { lines = []; passed = now; said = say_none })
