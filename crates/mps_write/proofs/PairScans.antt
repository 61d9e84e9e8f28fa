-- Pairs of a row and a number that a canonical text has, and its lines of RHS.
use Rattle.std.proofs.Common.{◌≡◌, ℕ, ◌≤◌, Bool, true, false, not, List, [], ◌∷◌, ◌++◌, length, map, Option, Some, None, refl, ap, subst, ◌∙◌, length-append, arith, Ok}
use Rattle.std.specs.Prelude.{bytes_eq, codes, option_to_list}
use Rattle.std.specs.Option.{option_or}
use Rattle.std.specs.List.{last_or, AllByRecursion}
use Rattle.std.proofs.lemmas.List.Concat.{flat_map-append}
use Rattle.mps_fields.specs.Lines.{Line, numbered}
use Rattle.mps_fields.specs.Reading.{number_of}
use Rattle.mps_model.specs.declared.layout.Layout.TheVariants.{Free}
use Rattle.mps_model.specs.declared.fault.FaultKind.{FaultKind}
use Rattle.mps_model.specs.declared.fault.FaultKind.TheVariants as faults
use Rattle.mps_model.specs.declared.lines.section.Section.{Section}
use Rattle.mps_model.specs.declared.lines.section.Section.TheVariants.{Rhs as RHS}
use Rattle.mps_model.specs.SixFields.{set_places}
use Rattle.mps_model.specs.Tables.{RowLine, Pair, PairLine, ColumnLine, set_said, set_at}
use Rattle.mps_model.specs.Sides.{number_at, pairs_of}
use Rattle.mps_model.specs.FaultRules.{first_holding, is_among, is_not_number, is_wide_number}
use Rattle.mps_model.specs.RowFaults.{row_names}
use Rattle.mps_model.specs.PairFaults.{pairs_fault, pair_fault, pair_names, is_second_set, first_label, set_fault}
use Rattle.mps_write.specs.CanonicalText.{data_line, unlabelled}
use Rattle.mps_write.proofs.LineTexts.{is_field, free_texts-data_line}
use Rattle.mps_write.proofs.NameLaws.{AreFresh, each_at, fresh_at}
use Rattle.mps_write.proofs.Scans.{IsPassed, AreFields, line_of, passed_data, kept_along, tables_from}

-- a pair whose row is one of these, and whose number is read
pub record IsGoodPair (rows : List (List ℕ)) (pair : Pair) : Type 0 where
  pub known : is_among rows pair.name ≡ true
  pub read : number_of pair.number ≡ Ok (number_at pair.number)
  pub name : is_field pair.name ≡ true
  pub number : is_field pair.number ≡ true
  pub unmarked : bytes_eq (codes "'MARKER'") pair.name ≡ false
  pub short_name : length pair.name ≤ 100
  pub short_number : length pair.number ≤ 30

no_rule : (known wrong wide taken : Bool) → known ≡ true → wrong ≡ false → wide ≡ false → taken ≡ false
    → first_holding ((not known, faults.UnknownRow) ∷ (wrong, faults.NotNumber) ∷ (wide, faults.WideNumber) ∷ (taken, faults.Duplicate) ∷ []) ≡ None
no_rule true false false false a b c d = refl
no_rule false wrong wide taken a b c d = cc
no_rule true true wide taken a b c d = cc
no_rule true false true taken a b c d = cc
no_rule true false false true a b c d = cc

-- a pair that is the only one of its line
pub alone : (rule : List (List ℕ) → Pair → Option FaultKind) (taken : List (List ℕ)) (pair : Pair) → rule taken pair ≡ None → pairs_fault rule taken (pair ∷ []) ≡ None
unfolding pairs_fault
alone rule taken pair clear = ap (λ o. option_or o None) clear

pub pair_clear : (rows : List RowLine) (taken : List (List ℕ)) (pair : Pair) → IsGoodPair (row_names rows) pair → is_among taken pair.name ≡ false
    → pairs_fault (pair_fault rows) taken (pair ∷ []) ≡ None
pair_clear rows taken pair good fresh =
    alone (pair_fault rows) taken pair
    (no_rule (is_among (row_names rows) pair.name) (is_not_number (number_of pair.number)) (is_wide_number (number_of pair.number)) (is_among taken pair.name)
    good.known (ap is_not_number good.read) (ap is_wide_number good.read) fresh)

-- ---- lines without a set name

-- what a line without a set name says
abbrev pub set_line : ℕ → Pair → PairLine
set_line number pair = record { at = number; label = []; pairs = pair ∷ [] }

-- lines without set names, with these pairs
pub record SayPairs (lines : List PairLine) (pairs : List Pair) : Type 0 where
  pub are : pairs_of lines ≡ pairs
  pub unnamed : AllByRecursion (λ (line : PairLine). line.label ≡ []) lines

pub say_none : SayPairs [] []
say_none = record { are = refl; unnamed = tt }

pub say_more : (lines : List PairLine) (pairs : List Pair) (number : ℕ) (pair : Pair) → SayPairs lines pairs → SayPairs (lines ++ set_line number pair ∷ []) (pairs ++ pair ∷ [])
say_more lines pairs number pair now = record {
  are = flat_map-append (λ (line : PairLine). line.pairs) lines (set_line number pair ∷ []) ∙ ap (λ ps. ps ++ pair ∷ []) now.are;
  unnamed = more lines now.unnamed;
}
  where
    more : (lines : List PairLine) → AllByRecursion (λ (line : PairLine). line.label ≡ []) lines → AllByRecursion (λ (line : PairLine). line.label ≡ []) (lines ++ set_line number pair ∷ [])
    more [] h = (refl, tt)
    more (line ∷ lines) h = (h.0, more lines h.1)

-- no second set name comes
pub no_second_set : (lines : List PairLine) → AllByRecursion (λ (line : PairLine). line.label ≡ []) lines → is_second_set (first_label lines) [] ≡ false
no_second_set [] h = refl
no_second_set (line ∷ lines) h = ap (λ name. is_second_set (Some name) []) h.0

pub set_read : (number : ℕ) (pair : Pair) → AreFields (unlabelled pair) → set_at Free (line_of number (data_line (unlabelled pair))) ≡ Some (set_line number pair)
set_read number pair can = ap (λ fields. set_said number (set_places fields)) (free_texts-data_line (unlabelled pair) can.runs)

pub set_clear : (rule : List (List ℕ) → Pair → Option FaultKind) (lines : List PairLine) (pairs : List Pair) (number : ℕ) (pair : Pair) → SayPairs lines pairs
    → pairs_fault rule (map (λ (pair : Pair). pair.name) pairs) (pair ∷ []) ≡ None → set_fault rule lines (Some (set_line number pair)) ≡ None
set_clear rule lines pairs number pair now clear =
    ap (λ b. option_or (first_holding ((b, faults.SecondSet) ∷ [])) (pairs_fault rule (pair_names lines) (pair ∷ []))) (no_second_set lines now.unnamed)
    ∙ ap (λ ps. pairs_fault rule (map (λ (pair : Pair). pair.name) ps) (pair ∷ [])) now.are ∙ clear

-- a name and a number fit a line
pub two_fields : (rows : List (List ℕ)) (pair : Pair) → IsGoodPair rows pair → AreFields (unlabelled pair)
two_fields rows pair good = record {
  runs = (good.name, (good.number, tt));
  few = omega (arith, length-append pair.name (32 ∷ (pair.number ++ [])), length-append pair.number [], good.short_name, good.short_number);
}

-- ---- the lines of RHS

-- the lines of RHS are passed, and say these pairs
pub record SidesPassed (sections : List Section) (rows : List RowLine) (columns : List ColumnLine) (pairs : List Pair) (above : List Line) : Type 0 where
  pub lines : List PairLine
  pub passed : IsPassed above sections (tables_from rows columns lines [] [])
  pub said : SayPairs lines pairs

module _ (all : List Pair) (sections : List Section) (rows : List RowLine) (columns : List ColumnLine) (last : last_or None sections ≡ Some RHS)
    (good : AllByRecursion (IsGoodPair (row_names rows)) all) (fresh : AreFresh [] (map (λ (pair : Pair). pair.name) all)) where
  side_step : (done rest : List Pair) (pair : Pair) (above : List Line) (number : ℕ) → done ++ pair ∷ rest ≡ all → SidesPassed sections rows columns done above
      → SidesPassed sections rows columns (done ++ pair ∷ []) (above ++ line_of number (data_line (unlabelled pair)) ∷ [])
  side_step done rest pair above number whole now =
      let here : IsGoodPair (row_names rows) pair = each_at (IsGoodPair (row_names rows)) all done rest pair whole good in
      let can = two_fields (row_names rows) pair here in
      let read = set_read number pair can in
      let tables = tables_from rows columns now.lines [] [] in
      record {
        lines = now.lines ++ set_line number pair ∷ [];
        passed = subst (λ o. IsPassed (above ++ line_of number (data_line (unlabelled pair)) ∷ []) sections (tables_from rows columns (now.lines ++ option_to_list o) [] [])) read
            (passed_data above sections tables now.passed number pair.name (pair.number ∷ []) RHS can last
            (ap (set_fault (pair_fault rows) now.lines) read
            ∙ set_clear (pair_fault rows) now.lines done number pair now.said
            (pair_clear rows (map (λ (pair : Pair). pair.name) done) pair here (fresh_at (λ (pair : Pair). pair.name) [] all done rest pair whole fresh))));
        said = say_more now.lines done number pair now.said;
      }

  pub sides_passed : (above : List Line) (number : ℕ) → IsPassed above sections (tables_from rows columns [] [] [])
      → SidesPassed sections rows columns all (above ++ numbered number (map data_line (map unlabelled all)))
  sides_passed above number now =
      kept_along all unlabelled (SidesPassed sections rows columns) side_step [] all above number refl (record { lines = []; passed = now; said = say_none })
