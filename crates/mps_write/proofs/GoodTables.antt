-- The lines that a plain model makes can stand in a text: their fields, their numbers and their names.
use Rattle.std.proofs.Common.{◌≡◌, ◌≢◌, ℕ, ◌^◌, ◌<◌, ◌≤◌, ℤ, pos, true, false, cond, not, List, [], ◌∷◌, ◌++◌, length, map, filter_map, Option, Some, None, IfSome, refl, sym, ap, subst, ◌∙◌, length-append, arith}
use Rattle.std.specs.Prelude.{bytes_eq, codes, option_map, nat_abs, neg_ℤ, flat_map}
use Rattle.std.specs.Ordering.{int_eq}
use Rattle.std.specs.Fmt.{signed_decimal}
use Rattle.std.specs.Option.{option_map_or}
use Rattle.std.specs.List.{AllByRecursion}
use Rattle.std.proofs.lemmas.Bool.{or_from, or_right}
use Rattle.std.proofs.lemmas.Int.{ints}
use Rattle.exact_math.specs.Rational.{ℚ, whole}
use Rattle.int_model.specs.declared.model.Column.{Column}
use Rattle.int_model.specs.declared.model.Row.{Row}
use Rattle.int_model.specs.declared.model.Model.{Model}
use Rattle.mps_model.specs.Tables.{RowLine, Pair, PairLine, ColumnLine, bound_word, takes_value}
use Rattle.mps_model.specs.declared.lines.bound_kind.BoundKind.{BoundKind}
use Rattle.mps_model.specs.declared.lines.bound_kind.BoundKind.TheVariants.{Li as LI, Ui as UI}
use Rattle.mps_model.specs.Sides.{is_free_row, number_at, side_in, range_step, sum_fits}
use Rattle.mps_model.specs.FaultRules.{is_among}
use Rattle.mps_model.specs.PairFaults.{row_named, has_wide_side}
use Rattle.mps_write.specs.PlainModels.{IsPlainNumber, ArePlainItems, IsPlainColumn, IsPlainRow, IsPlain}
use Rattle.mps_write.specs.CanonicalText.{objective_name, whole_side, row_kind, kind_of, row_right_side, row_range, row_fields, pair_of, factor_in, NamedItems, items_of_row, all_items, factor_pair, or_zero, column_pairs, some_pair, side_pairs, range_pair, range_pairs}
use Rattle.mps_write.proofs.LineTexts.{is_field}
use Rattle.mps_write.proofs.NumberTexts.{number_field, number_short}
use Rattle.mps_write.proofs.NameLaws.{bytes_differ, each, each_weaker, each-append, each-map, each_unmap, AreFresh, fresh_from, each_found}
use Rattle.mps_write.proofs.Scans.{AreFields, tables_from}
use Rattle.mps_write.proofs.RowScans.{row_line, objective_line, row_names_are}
use Rattle.mps_write.proofs.PairScans.{IsGoodPair}
use Rattle.mps_write.proofs.RangeScans.{IsGoodRange}
use Rattle.mps_write.proofs.BoundScans.{two_bounds, all_bounds, IsGoodBound}
use Rattle.mps_write.proofs.SidesBack.{sided_name, sided_number, sided_pair, all_sided, sided_pairs_are, not_free, range_fits}
use Rattle.mps_write.proofs.PlainFacts.{number_kept, whole_read, name_field, IsRowName, plain_pair, some_map, each_filter_map, both_each, each_known, fresh_some, factor_kept, right_side_small, IsRange, range_kept, range_pair_good}

pub map_map : {X Y Z : Type 0} (f : Y → Z) (g : X → Y) (xs : List X) → map f (map g xs) ≡ map (λ x. f (g x)) xs
map_map f g [] = refl
map_map f g (x ∷ xs) = ap (λ rest. f (g x) ∷ rest) (map_map f g xs)

some_weaker : {X : Type 0} (P Q : X → Type 0) (o : Option X) → ((x : X) → P x → Q x) → IfSome o P → IfSome o Q
some_weaker P Q None weaker h = tt
some_weaker P Q (Some x) weaker h = weaker x h

abbrev pub row_name : Row → List ℕ
row_name row = row.name

-- the names that the rows of a text have
abbrev pub all_names : Model → List (List ℕ)
all_names model = objective_name ∷ map row_name model.rows

module _ (model : Model) (plain : IsPlain model) where
  -- ---- names

  pub plain_rows : AllByRecursion (IsPlainRow (length model.columns)) model.rows
  plain_rows = each (IsPlainRow (length model.columns)) model.rows plain.rows

  pub fresh_rows : AreFresh (objective_name ∷ []) (map row_name model.rows)
  fresh_rows =
      fresh_from row_name (objective_name ∷ []) model.rows
      (each_weaker (IsPlainRow (length model.columns)) (λ row. is_among (objective_name ∷ []) row.name ≡ false) model.rows
      (λ row can. or_from (bytes_eq row.name objective_name) false (bytes_differ row.name objective_name can.no_objective) refl) plain_rows)
      plain.row_names

  pub fresh_names : AreFresh [] (all_names model)
  fresh_names = (refl, fresh_rows)

  none_taken : {X : Type 0} (name_of : X → List ℕ) (xs : List X) → AllByRecursion (λ x. is_among [] (name_of x) ≡ false) xs
  none_taken name_of [] = tt
  none_taken name_of (x ∷ xs) = (refl, none_taken name_of xs)

  pub fresh_rows_alone : AreFresh [] (map row_name model.rows)
  fresh_rows_alone = fresh_from row_name [] model.rows (none_taken row_name model.rows) plain.row_names

  pub fresh_columns : AreFresh [] (map (λ (column : Column). column.name) model.columns)
  fresh_columns = fresh_from (λ (column : Column). column.name) [] model.columns (none_taken (λ (column : Column). column.name) model.columns) plain.column_names

  pub fresh_sided : AreFresh [] (map sided_name (all_sided model))
  fresh_sided = subst (λ names. AreFresh [] (objective_name ∷ names)) (sym (map_map sided_name Some model.rows)) fresh_names

  pub fresh_named : AreFresh [] (map (λ (named : NamedItems). named.name) (all_items model))
  fresh_named = subst (λ names. AreFresh [] (objective_name ∷ names)) (sym (map_map (λ (named : NamedItems). named.name) items_of_row model.rows)) fresh_names

  objective_can : IsRowName (all_names model) objective_name
  objective_can = record { known = refl; field = refl; unmarked = refl; short = omega arith }

  pub rows_can : AllByRecursion (λ (row : Row). IsRowName (all_names model) row.name) model.rows
  rows_can =
      both_each (IsPlainRow (length model.columns)) (λ (row : Row). is_among (map row_name model.rows) row.name ≡ true) (λ (row : Row). IsRowName (all_names model) row.name) model.rows
      (λ row can known. record {
        known = or_right (bytes_eq row.name objective_name) (is_among (map row_name model.rows) row.name) known;
        field = name_field row.name can.name;
        unmarked = bytes_differ (codes "'MARKER'") row.name (λ same. can.no_marker (sym same));
        short = can.name.few;
      }) plain_rows (each_known row_name model.rows)

  -- ---- ROWS

  kind_fits : (low high : Option ℤ) → (is_field (kind_of low high) ≡ true) × (length (kind_of low high) ≤ 1)
  kind_fits None high = (refl, omega arith)
  kind_fits (Some low) None = (refl, omega arith)
  kind_fits (Some low) (Some high) =
      elim (int_eq low high) as (λ b. (is_field (cond b (codes "E") (codes "G")) ≡ true) × (length (cond b (codes "E") (codes "G")) ≤ 1)) [ true ↦ (refl, omega arith) | false ↦ (refl, omega arith) ]

  pub row_fields_can : AllByRecursion (λ (row : Row). AreFields (row_fields row)) model.rows
  row_fields_can =
      each_weaker (λ (row : Row). IsRowName (all_names model) row.name) (λ (row : Row). AreFields (row_fields row)) model.rows
      (λ row can.
      let kind = kind_fits (whole_side row.lo) (whole_side row.hi) in
      record {
        runs = (kind.0, (can.field, tt));
        few = omega (arith, length-append (row_kind row) (32 ∷ (row.name ++ [])), length-append row.name [], kind.1, can.short);
      }) rows_can

  -- ---- COLUMNS

  abbrev ItemsCan : NamedItems → Type 0
  ItemsCan named = IsRowName (all_names model) named.name × ArePlainItems (length model.columns) named.items

  pub items_can : AllByRecursion ItemsCan (all_items model)
  items_can = (
    (objective_can, plain.objective),
    each-map ItemsCan items_of_row model.rows
        (both_each (IsPlainRow (length model.columns)) (λ (row : Row). IsRowName (all_names model) row.name) (λ row. ItemsCan (items_of_row row)) model.rows (λ row can name. (name, can.items)) plain_rows rows_can),
  )

  with_zero : (P : Pair → Type 0) (pairs : List Pair) → P (pair_of objective_name (pos 0)) → AllByRecursion P pairs → AllByRecursion P (or_zero pairs)
  with_zero P [] zero all = (zero, tt)
  with_zero P (pair ∷ pairs) zero all = all

  pub column_pairs_good : (j : ℕ) → AllByRecursion (IsGoodPair (all_names model)) (column_pairs (all_items model) j)
  column_pairs_good j =
      with_zero (IsGoodPair (all_names model)) (filter_map (factor_pair j) (all_items model)) (plain_pair (all_names model) objective_name (pos 0) objective_can (omega arith))
      (each_filter_map (IsGoodPair (all_names model)) (factor_pair j) (all_items model)
      (each_weaker ItemsCan (λ named. IfSome (factor_pair j named) (IsGoodPair (all_names model))) (all_items model)
      (λ named can.
      some_map (IsGoodPair (all_names model)) (λ (factor : ℚ). pair_of named.name factor.num) (factor_in j named.items)
      (some_weaker (λ (factor : ℚ). IsPlainNumber factor × (factor.num ≢ pos 0)) (λ (factor : ℚ). IsGoodPair (all_names model) (pair_of named.name factor.num)) (factor_in j named.items)
      (λ factor kept. plain_pair (all_names model) named.name factor.num can.0 kept.0.size) (factor_kept j (length model.columns) named.items can.1)))
      items_can))

  zero_fresh : (pairs : List Pair) → AreFresh [] (map (λ (pair : Pair). pair.name) pairs) → AreFresh [] (map (λ (pair : Pair). pair.name) (or_zero pairs))
  zero_fresh [] fresh = (refl, tt)
  zero_fresh (pair ∷ pairs) fresh = fresh

  under_own_name : (name : List ℕ) (o : Option ℚ) → IfSome (option_map (λ (factor : ℚ). pair_of name factor.num) o) (λ (pair : Pair). pair.name ≡ name)
  under_own_name name None = tt
  under_own_name name (Some factor) = refl

  pub column_pairs_fresh : (j : ℕ) → AreFresh [] (map (λ (pair : Pair). pair.name) (column_pairs (all_items model) j))
  column_pairs_fresh j =
      zero_fresh (filter_map (factor_pair j) (all_items model))
      (fresh_some (λ (named : NamedItems). named.name) (factor_pair j) (λ named. under_own_name named.name (factor_in j named.items)) [] [] (all_items model) (λ name h. h) fresh_named)

  -- ---- RHS

  small_constant : nat_abs (neg_ℤ model.constant.num) ≤ 2 ^ 96
  small_constant = omega (arith, ints, plain.constant.size)

  abbrev SideCan : Option Row → Type 0
  SideCan x = IsRowName (all_names model) (sided_name x) × (nat_abs (sided_number model x) ≤ 2 ^ 96)

  pub sides_can : AllByRecursion SideCan (all_sided model)
  sides_can = (
    (objective_can, small_constant),
    each-map SideCan Some model.rows
        (both_each (IsPlainRow (length model.columns)) (λ (row : Row). IsRowName (all_names model) row.name) (λ row. SideCan (Some row)) model.rows
        (λ row can name. (name, right_side_small row.lo row.hi can.sides)) plain_rows rows_can),
  )

  some_pair_has : (P : Pair → Type 0) (name : List ℕ) (z : ℤ) → P (pair_of name z) → IfSome (some_pair name z) P
  some_pair_has P name z has = elim (int_eq z (pos 0)) as (λ b. IfSome (cond b None (Some (pair_of name z))) P) [ true ↦ tt | false ↦ has ]

  pub side_pairs_good : AllByRecursion (IsGoodPair (all_names model)) (side_pairs model)
  side_pairs_good =
      subst (AllByRecursion (IsGoodPair (all_names model))) (sided_pairs_are model)
      (each_filter_map (IsGoodPair (all_names model)) (sided_pair model) (all_sided model)
      (each_weaker SideCan (λ x. IfSome (sided_pair model x) (IsGoodPair (all_names model))) (all_sided model)
      (λ x can. some_pair_has (IsGoodPair (all_names model)) (sided_name x) (sided_number model x) (plain_pair (all_names model) (sided_name x) (sided_number model x) can.0 can.1)) sides_can))

  pub side_pairs_fresh : AreFresh [] (map (λ (pair : Pair). pair.name) (side_pairs model))
  side_pairs_fresh =
      subst (λ pairs. AreFresh [] (map (λ (pair : Pair). pair.name) pairs)) (sided_pairs_are model)
      (fresh_some sided_name (sided_pair model) (λ x. some_pair_has (λ (pair : Pair). pair.name ≡ sided_name x) (sided_name x) (sided_number model x) refl) [] [] (all_sided model) (λ name h. h) fresh_sided)

  -- ---- RANGES

  own_range : (name : List ℕ) (o : Option ℤ) → IfSome (option_map (pair_of name) o) (λ (pair : Pair). pair.name ≡ name)
  own_range name None = tt
  own_range name (Some z) = refl

  pub range_pairs_fresh : AreFresh [] (map (λ (pair : Pair). pair.name) (range_pairs model.rows))
  range_pairs_fresh = fresh_some row_name range_pair (λ row. own_range row.name (row_range row)) [] [] model.rows (λ name h. h) fresh_rows_alone

  pub range_pairs_plain : AllByRecursion (IsGoodPair (all_names model)) (range_pairs model.rows)
  range_pairs_plain =
      each_filter_map (IsGoodPair (all_names model)) range_pair model.rows
      (both_each (IsPlainRow (length model.columns)) (λ (row : Row). IsRowName (all_names model) row.name) (λ row. IfSome (range_pair row) (IsGoodPair (all_names model))) model.rows
      (λ row can name.
      some_map (IsGoodPair (all_names model)) (pair_of row.name) (row_range row)
      (some_weaker IsRange (λ z. IsGoodPair (all_names model) (pair_of row.name z)) (row_range row) (λ z kept. range_pair_good (all_names model) row.name z name kept) (range_kept row.lo row.hi can.sides)))
      plain_rows rows_can)

  abbrev lines_of_rows : List RowLine
  lines_of_rows = objective_line ∷ map row_line model.rows

  abbrev line_name : RowLine → List ℕ
  line_name row = row.name

  fresh_lines : AreFresh [] (map line_name lines_of_rows)
  fresh_lines = subst (λ names. AreFresh [] (objective_name ∷ names)) (sym (map_map line_name row_line model.rows)) fresh_names

  rows_named : AllByRecursion (λ (row : Row). row_named lines_of_rows row.name ≡ Some (row_line row)) model.rows
  rows_named = each_unmap (λ (line : RowLine). row_named lines_of_rows line.name ≡ Some line) row_line model.rows (each_found line_name [] lines_of_rows fresh_lines).1

  module _ (columns : List ColumnLine) (sides : List PairLine) (sides_are : AllByRecursion (λ (row : Row). side_in sides row.name ≡ whole (row_right_side row)) model.rows) where
    abbrev RowCan : Row → Type 0
    RowCan row = IsPlainRow (length model.columns) row × IsRowName (all_names model) row.name × (row_named lines_of_rows row.name ≡ Some (row_line row)) × (side_in sides row.name ≡ whole (row_right_side row))

    all_can : AllByRecursion RowCan model.rows
    all_can =
        both_each (λ (row : Row). IsPlainRow (length model.columns) row × IsRowName (all_names model) row.name)
        (λ (row : Row). (row_named lines_of_rows row.name ≡ Some (row_line row)) × (side_in sides row.name ≡ whole (row_right_side row))) RowCan model.rows
        (λ row can found. (can.0, can.1, found.0, found.1))
        (both_each (IsPlainRow (length model.columns)) (λ (row : Row). IsRowName (all_names model) row.name) (λ (row : Row). IsPlainRow (length model.columns) row × IsRowName (all_names model) row.name) model.rows
        (λ row can name. (can, name)) plain_rows rows_can)
        (both_each (λ (row : Row). row_named lines_of_rows row.name ≡ Some (row_line row)) (λ (row : Row). side_in sides row.name ≡ whole (row_right_side row))
        (λ (row : Row). (row_named lines_of_rows row.name ≡ Some (row_line row)) × (side_in sides row.name ≡ whole (row_right_side row))) model.rows
        (λ row found side. (found, side)) rows_named sides_are)

    -- the range of a row, where it has one
    range_good : (row : Row) (o : Option ℤ) → row_range row ≡ o → RowCan row → IfSome o IsRange → IfSome (option_map (pair_of row.name) o) (IsGoodRange lines_of_rows columns sides)
    range_good row None e can kept = tt
    range_good row (Some z) e can kept =
        let small : nat_abs z < 2 ^ 127 = subst (λ y. nat_abs y < 2 ^ 127) (sym kept.1.0) (omega (arith, kept.1.1)) in
        record {
          good = subst (λ names. IsGoodPair names (pair_of row.name z)) (sym (row_names_are model.rows)) (range_pair_good (all_names model) row.name z can.1 kept);
          sided = ap (λ o. option_map_or is_free_row o false) can.2 ∙ not_free row;
          fits = ap (λ o. option_map_or (has_wide_side (tables_from lines_of_rows columns sides [] []) (pair_of row.name z)) o false) can.2
              ∙ ap (λ q. not (sum_fits q (range_step (row_line row) (number_at (signed_decimal z))))) can.3
              ∙ ap (λ q. not (sum_fits (whole (row_right_side row)) (range_step (row_line row) q))) (whole_read z small)
              ∙ ap not (range_fits row.lo row.hi row.name z can.0.sides e);
        }

    pub range_pairs_good : AllByRecursion (IsGoodRange lines_of_rows columns sides) (range_pairs model.rows)
    range_pairs_good =
        each_filter_map (IsGoodRange lines_of_rows columns sides) range_pair model.rows
        (each_weaker RowCan (λ (row : Row). IfSome (range_pair row) (IsGoodRange lines_of_rows columns sides)) model.rows
        (λ row can. range_good row (row_range row) refl can (range_kept row.lo row.hi can.0.sides)) all_can)

  -- ---- BOUNDS

  pub plain_columns : AllByRecursion IsPlainColumn model.columns
  plain_columns = each IsPlainColumn model.columns plain.columns

  one_bound : (names : List (List ℕ)) (kind : BoundKind) (name : List ℕ) (z : ℤ) → takes_value kind ≡ true → is_field (bound_word kind) ≡ true → length (bound_word kind) ≤ 2
      → is_among names name ≡ true → is_field name ≡ true → length name ≤ 100 → nat_abs z ≤ 2 ^ 96 → IsGoodBound names (record { kind = kind; column = name; value = signed_decimal z })
  one_bound names kind name z valued word few known field short small = record {
    valued = valued;
    known = known;
    read = number_kept z (omega (arith, small));
    fields = record {
      runs = (word, (field, (number_field z (omega (arith, small)), tt)));
      few = omega (
        arith,
        length-append (bound_word kind) (32 ∷ (name ++ 32 ∷ (signed_decimal z ++ []))),
        length-append name (32 ∷ (signed_decimal z ++ [])),
        length-append (signed_decimal z) [],
        few,
        short,
        number_short z small,
      );
    };
  }

  each_flat : {X Y : Type 0} (P : Y → Type 0) (f : X → List Y) (xs : List X) → AllByRecursion (λ x. AllByRecursion P (f x)) xs → AllByRecursion P (flat_map f xs)
  each_flat P f [] all = tt
  each_flat P f (x ∷ xs) all = each-append P (f x) (flat_map f xs) all.0 (each_flat P f xs all.1)

  pub bounds_good : (names : List (List ℕ)) → names ≡ map (λ (column : Column). column.name) model.columns → AllByRecursion (IsGoodBound names) (all_bounds model.columns)
  bounds_good names are =
      each_flat (IsGoodBound names) two_bounds model.columns
      (both_each IsPlainColumn (λ (column : Column). is_among (map (λ (column : Column). column.name) model.columns) column.name ≡ true) (λ column. AllByRecursion (IsGoodBound names) (two_bounds column)) model.columns
      (λ column can known.
      let among = ap (λ ns. is_among ns column.name) are ∙ known in
      let field = name_field column.name can.name in (
        one_bound names LI column.name column.lo.num refl refl (omega arith) among field can.name.few can.lo.size,
        (one_bound names UI column.name column.hi.num refl refl (omega arith) among field can.name.few can.hi.size, tt),
      )) plain_columns (each_known (λ (column : Column). column.name) model.columns))
