-- What the code keeps beside the rows, as one more pair of a line of COLUMNS is judged and taken.
use Rattle.std.proofs.Common.{◌≡◌, ℕ, ◌<◌, length, get_or, set, take, slice_get, ◌+◌, Bool, true, false, cond, not, List, [], ◌∷◌, ◌++◌, map, position, Option, Some, None, Result, Ok, Err, nat_abs, refl, sym, ap, subst, ◌∙◌, arith}
use Rattle.std.specs.Prelude.{bytes_eq, IfSome}
use Rattle.std.specs.List.{cons_option, IsDistinct}
use Rattle.std.proofs.lemmas.Bool.{eq-eqb, ne_eqb}
use Rattle.std.proofs.lemmas.List.{get_or-map, length-map, append-nil, map_more}
use Rattle.std.proofs.lemmas.List.Quantifiers.{position-Some}
use Rattle.std.proofs.lemmas.Option.{slice_get-get_or}
use Rattle.mps_fields.specs.BooleanLaws.{either}
use Rattle.mps_fields.specs.declared.numbers.NumberFault.{NumberFault}
use Rattle.mps_fields.specs.declared.numbers.NumberFault.TheVariants as numbers
use Rattle.mps_fields.specs.Reading.{number_of}
use Rattle.exact_math.specs.Rational.{ℚ}
use Rattle.int_model.specs.declared.model.Item.{Item}
use Rattle.mps_model.specs.declared.fault.FaultKind.{FaultKind}
use Rattle.mps_model.specs.declared.fault.FaultKind.TheVariants as faults
use Rattle.mps_model.specs.declared.tables.factors.RowFactors.{RowFactors}
use Rattle.mps_model.specs.Tables.{RowLine, Pair, PairLine, ColumnLine}
use Rattle.mps_model.specs.Sides.{number_or_zero, number_at}
use Rattle.mps_model.specs.Bounds.{without_repeats, lines_of_column}
use Rattle.mps_model.specs.StatedModel.{item_with, items_of}
use Rattle.mps_model.specs.FaultRules.{first_holding, is_among, is_not_number, is_wide_number}
use Rattle.mps_model.specs.RowFaults.{row_names}
use Rattle.mps_model.specs.PairFaults.{pair_names, pair_fault}
use Rattle.mps_model.specs.Judging.{kind_of}
use Rattle.mps_model.specs.ColumnTables.{columns_alone, last_beside, is_stated_row, with_pair, IsLastColumn}
use Rattle.mps_model.specs.FactorTables.{factors_of}
use Rattle.mps_model.specs.NameListLaws.{map_changed}
use Rattle.mps_model.specs.FirstPlaceLaws.{bytes_flip, same_bytes}
use Rattle.mps_model.specs.DistinctNameLaws.{position-none, position-some}
use Rattle.mps_model.proofs.OnTables.ColumnItemLaws.{nothing_chosen, lines_to, taken_here, not_taken_here, items_of-other, last_beside-other, items_of-more, last_beside-more}

-- ---- the rules on a pair

-- the rules on a pair by what they ask
abbrev pub rules_on : Bool → Result ℚ NumberFault → Bool → Option FaultKind
rules_on known number taken = first_holding (
    (not known, faults.UnknownRow) ∷ (is_not_number number, faults.NotNumber) ∷ (is_wide_number number, faults.WideNumber) ∷ (taken, faults.Duplicate) ∷ [])

wrong_number : (fault : NumberFault) (taken : Bool) → rules_on true (Err fault) taken ≡ Some (kind_of fault)
wrong_number numbers.NotNumber taken = refl
wrong_number numbers.WideNumber taken = refl

module _ (rows : List RowLine) (taken : List (List ℕ)) (pair : Pair) where
  pub fault_unknown : is_among (row_names rows) pair.name ≡ false → pair_fault rows taken pair ≡ Some faults.UnknownRow
  fault_unknown unknown = ap (λ known. rules_on known (number_of pair.number) (is_among taken pair.name)) unknown

  pub fault_of_number : (fault : NumberFault) → is_among (row_names rows) pair.name ≡ true → number_of pair.number ≡ Err fault
      → pair_fault rows taken pair ≡ Some (kind_of fault)
  fault_of_number fault known number =
      ap (λ known. rules_on known (number_of pair.number) (is_among taken pair.name)) known
      ∙ ap (λ number. rules_on true number (is_among taken pair.name)) number
      ∙ wrong_number fault (is_among taken pair.name)

  pub fault_twice : (factor : ℚ) → is_among (row_names rows) pair.name ≡ true → number_of pair.number ≡ Ok factor → is_among taken pair.name ≡ true
      → pair_fault rows taken pair ≡ Some faults.Duplicate
  fault_twice factor known number twice =
      ap (λ known. rules_on known (number_of pair.number) (is_among taken pair.name)) known
      ∙ ap (λ number. rules_on true number (is_among taken pair.name)) number
      ∙ ap (λ taken. rules_on true (Ok factor) taken) twice

  pub fault_none : (factor : ℚ) → is_among (row_names rows) pair.name ≡ true → number_of pair.number ≡ Ok factor → is_among taken pair.name ≡ false
      → pair_fault rows taken pair ≡ None
  fault_none factor known number free =
      ap (λ known. rules_on known (number_of pair.number) (is_among taken pair.name)) known
      ∙ ap (λ number. rules_on true number (is_among taken pair.name)) number
      ∙ ap (λ taken. rules_on true (Ok factor) taken) free

-- ---- the place of a name

pub row_unknown : (rows : List RowLine) (name : List ℕ) → position (bytes_eq name) (row_names rows) ≡ None → is_among (row_names rows) name ≡ false
row_unknown rows name none = position-none (bytes_eq name) (row_names rows) none

pub row_known : (rows : List RowLine) (name : List ℕ) (place : ℕ) → position (bytes_eq name) (row_names rows) ≡ Some place → is_among (row_names rows) name ≡ true
row_known rows name place found = position-some (bytes_eq name) (row_names rows) place [] found

-- ---- the row of a pair

abbrev blank_row : RowLine
blank_row = record { kind = []; name = [] }

-- the row at a place
abbrev row_at_place : List RowLine → ℕ → RowLine
row_at_place rows place = get_or rows place blank_row

module _ (rows : List RowLine) (name : List ℕ) (place : ℕ) (found : position (bytes_eq name) (row_names rows) ≡ Some place) where
  row_within : place < length rows
  row_within =
      let at = position-Some (bytes_eq name) (row_names rows) place [] found in
      let within : place < length (row_names rows) = at.0 in
      let same : length (row_names rows) ≡ length rows = length-map rows (λ (row : RowLine). row.name) in
      omega arith

  row_named : (row_at_place rows place).name ≡ name
  row_named =
      let at = position-Some (bytes_eq name) (row_names rows) place [] found in
      sym (same_bytes name (get_or (row_names rows) place []) at.1 ∙ get_or-map (λ (row : RowLine). row.name) rows place blank_row [] row_within)

-- the items of the row of a pair behind it
abbrev more_items : RowFactors → ℕ → ℚ → List Item
more_items row column factor = row.items ++ cond row.is_stated (cons_option (item_with column factor) []) []

zero_item : (column : ℕ) (factor : ℚ) → nat_abs factor.num ≡ 0 → item_with column factor ≡ None
zero_item column factor zero = ap (λ b. cond b None (Some (record { column = column; factor = factor }))) (eq-eqb (nat_abs factor.num) 0 zero)

some_item : (column : ℕ) (factor : ℚ) → (nat_abs factor.num ≡ 0 → ⊥) → item_with column factor ≡ Some (record { column = column; factor = factor })
some_item column factor positive = ap (λ b. cond b None (Some (record { column = column; factor = factor }))) (ne_eqb (nat_abs factor.num) 0 positive)

pub more_pushed : (row : RowFactors) (column : ℕ) (factor : ℚ) (items : List Item) → row.is_stated ≡ true → (nat_abs factor.num ≡ 0 → ⊥)
    → items ≡ row.items ++ (record { column = column; factor = factor }) ∷ [] → items ≡ more_items row column factor
more_pushed row column factor items stated positive pushed =
    pushed
    ∙ ap (λ o. row.items ++ cons_option o []) (sym (some_item column factor positive))
    ∙ ap (λ b. row.items ++ cond b (cons_option (item_with column factor) []) []) (sym stated)

pub more_zero : (row : RowFactors) (column : ℕ) (factor : ℚ) → nat_abs factor.num ≡ 0 → row.items ≡ more_items row column factor
more_zero row column factor zero =
    sym (append-nil row.items)
    ∙ ap (λ found. row.items ++ found) (sym (nothing_chosen row.is_stated))
    ∙ ap (λ o. row.items ++ cond row.is_stated (cons_option o []) []) (sym (zero_item column factor zero))

pub more_unstated : (row : RowFactors) (column : ℕ) (factor : ℚ) → row.is_stated ≡ false → row.items ≡ more_items row column factor
more_unstated row column factor unstated =
    sym (append-nil row.items) ∙ ap (λ b. row.items ++ cond b (cons_option (item_with column factor) []) []) (sym unstated)

-- where the last column and the items are the same, all is
pub same_factors : {last other : Option ℕ} {items rest : List Item} (stated : Bool) → last ≡ other → items ≡ rest
    → ◌≡◌ {A = RowFactors} (record { last = last; is_stated = stated; items = cond stated items [] }) (record { last = other; is_stated = stated; items = cond stated rest [] })
same_factors {last} {other} {items} {rest} stated same kept =
    let by_last : Option ℕ → RowFactors = λ last. record { last = last; is_stated = stated; items = cond stated items [] } in
    let by_items : List Item → RowFactors = λ items. record { last = other; is_stated = stated; items = cond stated items [] } in
    ap by_last same ∙ ap by_items kept

only_where : (b : Bool) (items rest : List Item) → cond b (items ++ rest) [] ≡ cond b items [] ++ cond b rest []
only_where true items rest = refl
only_where false items rest = refl

-- ---- one more pair

module _ (rows : List RowLine) (above : List ColumnLine) (line : PairLine) (pair : Pair) (column place : ℕ) (kept : List RowFactors) (row : RowFactors)
    (distinct : IsDistinct bytes_eq (row_names rows)) (found : position (bytes_eq pair.name) (row_names rows) ≡ Some place)
    (last : IsLastColumn (lines_to above line) line.label column) (keeps : kept ≡ map (factors_of rows (lines_to above line)) rows)
    (read : row ≡ get_or kept place row) where
  row_is : row ≡ factors_of rows (lines_to above line) (row_at_place rows place)
  row_is =
      read ∙ ap (λ found. get_or found place row) keeps ∙ get_or-map (factors_of rows (lines_to above line)) rows place blank_row row (row_within rows pair.name place found)

  last_is : row.last ≡ last_beside (lines_to above line) pair.name
  last_is = ap (λ (row : RowFactors). row.last) row_is ∙ ap (last_beside (lines_to above line)) (row_named rows pair.name place found)

  is_free : (row.last ≡ Some column → ⊥) → is_among (pair_names (lines_of_column (lines_to above line) line.label)) pair.name ≡ false
  is_free differ =
      either (is_among (pair_names (lines_of_column (lines_to above line) line.label)) pair.name)
      (λ here. absurd (differ (last_is ∙ taken_here (lines_to above line) last.others line.label pair.name last.names here ∙ ap Some last.number)))
      (λ e. e)

  is_taken : row.last ≡ Some column → is_among (pair_names (lines_of_column (lines_to above line) line.label)) pair.name ≡ true
  is_taken same =
      either (is_among (pair_names (lines_of_column (lines_to above line) line.label)) pair.name)
      (λ e. e)
      (λ free. absurd (not_taken_here (lines_to above line) last.others line.label pair.name last.names free (sym last_is ∙ same ∙ ap Some (sym last.number))))

  -- a row that the column has named already
  pub pair_twice : (factor : ℚ) → number_of pair.number ≡ Ok factor → row.last ≡ Some column
      → pair_fault rows (pair_names (lines_of_column (lines_to above line) line.label)) pair ≡ Some faults.Duplicate
  pair_twice factor number same =
      fault_twice rows (pair_names (lines_of_column (lines_to above line) line.label)) pair factor (row_known rows pair.name place found) number (is_taken same)

  -- the other rows stay as they are
  others_same : (other : RowLine) → bytes_eq other.name (row_at_place rows place).name ≡ false
      → factors_of rows (lines_to above (with_pair line pair)) other ≡ factors_of rows (lines_to above line) other
  others_same other differ =
      let apart : bytes_eq pair.name other.name ≡ false =
      bytes_flip pair.name other.name ∙ ap (bytes_eq other.name) (sym (row_named rows pair.name place found)) ∙ differ in
      same_factors (is_stated_row rows other) (last_beside-other above line pair other.name apart) (items_of-other above line pair other.name apart)

  row_behind : (factor : ℚ) → number_of pair.number ≡ Ok factor → (row.last ≡ Some column → ⊥)
      → factors_of rows (lines_to above (with_pair line pair)) (row_at_place rows place)
      ≡ record { last = Some column; is_stated = row.is_stated; items = more_items row column factor }
  row_behind factor number differ =
      let here : RowLine = row_at_place rows place in
      let named : here.name ≡ pair.name = row_named rows pair.name place found in
      let stated : Bool = is_stated_row rows here in
      same_factors stated
      (ap (last_beside (lines_to above (with_pair line pair))) named ∙ last_beside-more above line pair last.others last.names ∙ ap Some last.number)
      (ap (items_of (columns_alone (lines_to above (with_pair line pair)))) named
      ∙ items_of-more above line pair last.others last.names (is_free differ)
      ∙ ap (λ n. items_of (columns_alone (lines_to above line)) pair.name ++ cons_option (item_with n (number_at pair.number)) []) last.number
      ∙ ap (λ q. items_of (columns_alone (lines_to above line)) pair.name ++ cons_option (item_with column q) []) (ap number_or_zero number)
      ∙ ap (λ name. items_of (columns_alone (lines_to above line)) name ++ cons_option (item_with column factor) []) (sym named))
      ∙ ap (λ items. record { last = Some column; is_stated = stated; items = items })
      (only_where stated (items_of (columns_alone (lines_to above line)) here.name) (cons_option (item_with column factor) []))
      ∙ ap (λ (row : RowFactors). record { last = Some column; is_stated = row.is_stated; items = more_items row column factor }) (sym row_is)

  -- a pair without fault
  pub pair_taken : (factor : ℚ) → number_of pair.number ≡ Ok factor → (row.last ≡ Some column → ⊥)
      → (items : List Item) → items ≡ more_items row column factor
      → (pair_fault rows (pair_names (lines_of_column (lines_to above line) line.label)) pair ≡ None)
      × (set kept place (record { last = Some column; is_stated = row.is_stated; items = items }) ≡ map (factors_of rows (lines_to above (with_pair line pair))) rows)
  pair_taken factor number differ items more = (
    fault_none rows (pair_names (lines_of_column (lines_to above line) line.label)) pair factor (row_known rows pair.name place found) number (is_free differ),
    ap (λ items. set kept place (record { last = Some column; is_stated = row.is_stated; items = items })) more
        ∙ ap (λ kept. set kept place (record { last = Some column; is_stated = row.is_stated; items = more_items row column factor })) keeps
        ∙ ap (set (map (factors_of rows (lines_to above line)) rows) place) (sym (row_behind factor number differ))
        ∙ sym (map_changed (λ (row : RowLine). row.name) (factors_of rows (lines_to above line)) (factors_of rows (lines_to above (with_pair line pair))) rows place blank_row
        distinct (row_within rows pair.name place found) others_same),
  )

-- ---- before the first line

no_factors : (rows : List RowLine) (row : RowLine) (stated : Bool) → stated ≡ is_stated_row rows row
    → ◌≡◌ {A = RowFactors} (record { last = None; is_stated = stated; items = [] }) (factors_of rows [] row)
unfolding without_repeats
no_factors rows row stated is =
    let empty : Bool → RowFactors = λ stated. record { last = None; is_stated = stated; items = [] } in
    let of_items : List Item → RowFactors = λ items. record { last = None; is_stated = is_stated_row rows row; items = items } in
    ap empty is ∙ ap of_items (sym (nothing_chosen (is_stated_row rows row)))

pub begin_more : (rows : List RowLine) (i : ℕ) (stated : Bool) (items : List Item) (kept next : List RowFactors) → i < length rows
    → IfSome (slice_get rows i) (λ line. stated ≡ is_stated_row rows line) → items ≡ [] → kept ≡ map (factors_of rows []) (take i rows)
    → next ≡ kept ++ (record { last = None; is_stated = stated; items = items }) ∷ [] → next ≡ map (factors_of rows []) (take (i + 1) rows)
begin_more rows i stated items kept next within is bare keeps pushed =
    let here : stated ≡ is_stated_row rows (row_at_place rows i) =
    subst (λ (o : Option RowLine). IfSome o (λ line. stated ≡ is_stated_row rows line)) (slice_get-get_or rows i blank_row within) is in
    pushed
    ∙ ap (λ items. kept ++ (record { last = None; is_stated = stated; items = items }) ∷ []) bare
    ∙ ap (λ kept. kept ++ (record { last = None; is_stated = stated; items = [] }) ∷ []) keeps
    ∙ ap (λ factors. map (factors_of rows []) (take i rows) ++ factors ∷ []) (no_factors rows (row_at_place rows i) stated here)
    ∙ sym (map_more (factors_of rows []) rows i blank_row within)
