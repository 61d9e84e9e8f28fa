-- A market model, put together number by number, and that it is plain.
use Rattle.std.proofs.Common.{◌≡◌, ◌≢◌, ℕ, zero, suc, ◌+◌, ◌*◌, ◌/◌, ◌^◌, ◌<◌, ◌≤◌, pos, true, false, cond, eqb, leb, List, [], ◌∷◌, ◌++◌, length, map, filter_map, get_or, drop, decimal, Option, Some, None, refl, sym, ap, subst, ◌∙◌, add-one, arith}
use Rattle.std.specs.Prelude.{sum, option_to_list, All, AllPairs, nat_abs, codes}
use Rattle.std.specs.List.{range_with_len, cons_option, list_all}
use Rattle.std.proofs.lemmas.Bool.{and_parts, leb-true}
use Rattle.std.proofs.lemmas.Fmt.{decimal_injective, length-decimal-le}
use Rattle.std.proofs.lemmas.List.Elements.{All-nil, All-cons}
use Rattle.std.proofs.lemmas.List.Sums.{sum_by_push}
use Rattle.std.proofs.lemmas.List.FromFn.{map-range_with_len_more, length-map-range_with_len}
use Rattle.std.proofs.lemmas.List.Kept.{AllPairs-cons}
use Rattle.exact_math.specs.Rational.{ℚ, whole}
use Rattle.exact_math.specs.RationalOrder.{le_refl}
use Rattle.mps_fields.specs.BooleanLaws.{either, above_zero}
use Rattle.mps_fields.specs.Decimal.{is_digit}
use Rattle.mps_fields.specs.ReadingLaws.{is_digits-all}
use Rattle.int_model.specs.declared.model.Item.{Item}
use Rattle.int_model.specs.declared.model.Column.{Column}
use Rattle.int_model.specs.declared.model.Row.{Row}
use Rattle.int_model.specs.declared.model.Model.{Model}
use Rattle.mps_write.specs.PlainModels.{IsPlainNumber, IsNameByte, IsPlainName, IsPlainItem, IsPlainColumn, IsPlainRow, IsPlain}
use Rattle.mps_write.specs.Markets.{next_number, stream_at, market_factor, market_factors, market_item, numbered_name, market_row, market_column, market_model}
use Rattle.mps_write.proofs.ItemLaws.{Rise, rise_later, distinct_is_rise}
use Rattle.mps_write.proofs.NumberTexts.{decimal_digits}
use Rattle.mps_write.proofs.CodeLaws.{filter_map-push}

-- ---- the stream

pub stream_next : (start k : ℕ) → stream_at start (k + 1) ≡ next_number (stream_at start k)
unfolding stream_at
stream_next start k = ap (stream_at start) (add-one k)

pub stream_start : (start : ℕ) → stream_at start 0 ≡ start
unfolding stream_at
stream_start start = refl

-- ---- one column more

range_push : (n : ℕ) → range_with_len 0 (n + 1) ≡ range_with_len 0 n ++ n ∷ []
range_push n = sym (map-same (range_with_len 0 (n + 1))) ∙ map-range_with_len_more (λ i. i) 0 n n (omega arith) ∙ ap (λ front. front ++ n ∷ []) (map-same (range_with_len 0 n))
  where
    map-same : (xs : List ℕ) → map (λ i. i) xs ≡ xs
    map-same [] = refl
    map-same (x ∷ xs) = ap (λ rest. x ∷ rest) (map-same xs)

pub sum_more : (f : ℕ → ℕ) (n s : ℕ) → s ≡ sum (map f (range_with_len 0 n)) → s + f n ≡ sum (map f (range_with_len 0 (n + 1)))
sum_more f n s is =
    ap (λ t. t + f n) is ∙ sym (sum_by_push (λ x. x) (map f (range_with_len 0 n)) (f n)) ∙ ap sum (sym (map-range_with_len_more f 0 n n (omega arith)))

pub items_more : (f : ℕ → Option Item) (n : ℕ) (items next : List Item) → items ≡ filter_map f (range_with_len 0 n) → next ≡ items ++ option_to_list (f n) → next ≡ filter_map f (range_with_len 0 (n + 1))
items_more f n items next is then =
    then ∙ ap (λ front. front ++ option_to_list (f n)) is ∙ sym (ap (filter_map f) (range_push n) ∙ filter_map-push f (range_with_len 0 n) n)

pub each_more : {X : Type 0} (f : ℕ → X) (n : ℕ) (xs next : List X) (x : X) → xs ≡ map f (range_with_len 0 n) → next ≡ xs ++ x ∷ [] → x ≡ f n → next ≡ map f (range_with_len 0 (n + 1))
each_more f n xs next x is then here =
    then ∙ ap (λ front. front ++ x ∷ []) is ∙ ap (λ y. map f (range_with_len 0 n) ++ y ∷ []) here ∙ sym (map-range_with_len_more f 0 n n (omega arith))

-- ---- what holds of each of a range

all_range : {X : Type 0} (P : X → Type 0) (f : ℕ → X) (j k : ℕ) → ((i : ℕ) → i < j + k → P (f i)) → All P (map f (range_with_len j k))
all_range P f j zero holds = All-nil P
all_range P f j (suc k) holds = All-cons P (f j) (map f (range_with_len (j + 1) k)) (holds j (omega arith)) (all_range P f (j + 1) k (λ i h. holds i (omega arith)))

later_range : {X : Type 0} (P : X → Type 0) (f : ℕ → X) (j k low : ℕ) → low ≤ j → ((i : ℕ) → low ≤ i → i < j + k → P (f i)) → All P (map f (range_with_len j k))
later_range P f j zero low le holds = All-nil P
later_range P f j (suc k) low le holds =
    All-cons P (f j) (map f (range_with_len (j + 1) k)) (holds j le (omega arith)) (later_range P f (j + 1) k low (omega arith) (λ i h g. holds i h (omega arith)))

pairs_range : {X : Type 0} (R : X → X → Type 0) (f : ℕ → X) (j k : ℕ) → ((i h : ℕ) → i < h → h < j + k → R (f i) (f h)) → AllPairs R (map f (range_with_len j k))
pairs_range R f j zero apart = λ a b d lt within. absurd (omega (arith, within))
pairs_range R f j (suc k) apart =
    AllPairs-cons R (f j) (map f (range_with_len (j + 1) k))
    (later_range (R (f j)) f (j + 1) k (j + 1) (omega arith) (λ i low high. apart j i (omega arith) (omega arith)))
    (pairs_range R f (j + 1) k (λ i h lt within. apart i h lt (omega arith)))

-- ---- names

names_apart : (letter i j : ℕ) → i < j → j < 1000 → numbered_name letter i ≢ numbered_name letter j
names_apart letter i j lt small same =
    let digits : decimal (i + 1) ≡ decimal (j + 1) = ap (λ name. drop 1 name) same in
    omega (arith, lt, decimal_injective (i + 1) (j + 1) (omega arith) (omega arith) digits)

digit_bytes : (digits : List ℕ) → list_all is_digit digits ≡ true → All IsNameByte digits
digit_bytes [] h = All-nil IsNameByte
digit_bytes (digit ∷ digits) h =
    let both = and_parts (is_digit digit) (list_all is_digit digits) h in
    let range = and_parts (leb 48 digit) (leb digit 57) both.0 in
    All-cons IsNameByte digit digits (omega (arith, leb-true 48 digit range.0), omega (arith, leb-true digit 57 range.1)) (digit_bytes digits both.1)

plain_name : (letter place : ℕ) → 33 ≤ letter → letter ≤ 126 → place < 1000 → IsPlainName (numbered_name letter place)
plain_name letter place low high small = record {
  some = omega arith;
  few = omega (arith, length-decimal-le 4 (place + 1) (omega arith) (omega arith) (omega arith));
  printed = All-cons IsNameByte letter (decimal (place + 1)) (low, high) (digit_bytes (decimal (place + 1)) (is_digits-all (decimal (place + 1)) (decimal_digits (place + 1) (omega arith))));
}

other_letter : (letter place other : ℕ) (rest : List ℕ) → letter ≢ other → numbered_name letter place ≢ other ∷ rest
other_letter letter place other rest differ same = differ (ap (λ name. get_or name 0 0) same)

-- ---- numbers and terms

small_number : (n : ℕ) → n ≤ 2 ^ 96 → IsPlainNumber (whole (pos n))
unfolding whole
small_number n small = record { is_whole = refl; size = small }

plain_item : (factor column : ℕ) → factor < 100 → 0 < factor → IsPlainItem (record { column = column; factor = whole (pos factor) })
unfolding whole
plain_item factor column small some = record { number = small_number factor (omega arith); some = λ zero. omega (arith, some, ap nat_abs zero) }

-- the terms of a row rise, and are plain
items_rise : (f : ℕ → ℕ) (j k : ℕ) → Rise j (j + k) (filter_map (λ column. market_item (f column) column) (range_with_len j k))
items_rise f j zero = tt
items_rise f j (suc k) =
    let rest : Rise (j + 1) (j + suc k) (filter_map (λ column. market_item (f column) column) (range_with_len (j + 1) k)) =
    subst (λ end. Rise (j + 1) end (filter_map (λ column. market_item (f column) column) (range_with_len (j + 1) k))) (omega arith) (items_rise f (j + 1) k)
    in
    onto (f j) j (j + suc k) (filter_map (λ column. market_item (f column) column) (range_with_len (j + 1) k)) (omega arith) rest
  where
    onto : (factor j end : ℕ) (items : List Item) → j < end → Rise (j + 1) end items → Rise j end (cons_option (market_item factor j) items)
    onto factor j end items within rest =
        elim (eqb factor 0) as (λ b. Rise j end (cons_option (cond b None (Some (record { column = j; factor = whole (pos factor) }))) items))
        [ true ↦ rise_later (j + 1) j end items rest (omega arith) | false ↦ (omega arith, within, rest) ]

items_plain : (f : ℕ → ℕ) (j k : ℕ) → ((i : ℕ) → f i < 100) → All IsPlainItem (filter_map (λ column. market_item (f column) column) (range_with_len j k))
items_plain f j zero small = All-nil IsPlainItem
items_plain f j (suc k) small =
    either (eqb (f j) 0)
    (λ zero. subst (λ o. All IsPlainItem (cons_option o (filter_map (λ column. market_item (f column) column) (range_with_len (j + 1) k))))
    (sym (ap (λ b. cond b None (Some (record { column = j; factor = whole (pos (f j)) }))) zero)) (items_plain f (j + 1) k small))
    (λ some. subst (λ o. All IsPlainItem (cons_option o (filter_map (λ column. market_item (f column) column) (range_with_len (j + 1) k))))
    (sym (ap (λ b. cond b None (Some (record { column = j; factor = whole (pos (f j)) }))) some))
    (All-cons IsPlainItem (record { column = j; factor = whole (pos (f j)) }) (filter_map (λ column. market_item (f column) column) (range_with_len (j + 1) k))
    (plain_item (f j) j (small j) (above_zero (f j) some)) (items_plain f (j + 1) k small)))

sum_small : (f : ℕ → ℕ) (k : ℕ) → ((i : ℕ) → f i < 100) → sum (map f (range_with_len 0 k)) ≤ 99 * k
sum_small f zero small = omega arith
sum_small f (suc k) small =
    omega (
      arith,
      ap (λ n. sum (map f (range_with_len 0 n))) (add-one k),
      sum_more f k (sum (map f (range_with_len 0 k))) refl,
      small k,
      sum_small f k small,
    )

-- ---- markets

module _ (rows columns start : ℕ) (few_rows : rows ≤ 10) (few_columns : columns ≤ 100) where
  length_is : length (market_model rows columns start).columns ≡ columns
  length_is = length-map-range_with_len market_column 0 columns

  factor_small : (row column : ℕ) → market_factor start columns row column < 100
  factor_small row column = omega arith

  plain_row : (row : ℕ) → row < 10 → IsPlainRow columns (market_row start columns row)
  plain_row row small =
      let half : ℕ = sum (market_factors start columns row) / 2 in
      let number : IsPlainNumber (whole (pos half)) = small_number half (omega (arith, few_columns, sum_small (market_factor start columns row) columns (factor_small row))) in
      record {
        name = plain_name 82 row (omega arith) (omega arith) (omega arith);
        no_objective = other_letter 82 row 67 (codes "OST") (omega arith);
        no_marker = other_letter 82 row 39 (codes "MARKER'") (omega arith);
        sides = (number, number, le_refl (whole (pos half)));
        items = record {
          distinct = (distinct_is_rise columns (filter_map (λ column. market_item (market_factor start columns row column) column) (range_with_len 0 columns))).1
              (subst (λ end. Rise 0 end (filter_map (λ column. market_item (market_factor start columns row column) column) (range_with_len 0 columns))) (omega arith) (items_rise (market_factor start columns row) 0 columns));
          terms = items_plain (market_factor start columns row) 0 columns (factor_small row);
        };
      }

  -- a market is plain
  pub market_is_plain : IsPlain (market_model rows columns start)
  market_is_plain =
      let count : ℕ = length (market_model rows columns start).columns in
      record {
        few_columns = omega (arith, length_is);
        few_rows = omega (arith, length-map-range_with_len (market_row start columns) 0 rows);
        columns = all_range IsPlainColumn market_column 0 columns
            (λ i h. record { name = plain_name 88 i (omega arith) (omega arith) (omega arith); lo = small_number 0 (omega arith); hi = small_number 1 (omega arith) });
        rows = all_range (IsPlainRow count) (market_row start columns) 0 rows (λ i h. subst (λ n. IsPlainRow n (market_row start columns i)) (sym length_is) (plain_row i (omega arith)));
        column_names = pairs_range (λ (a b : Column). a.name ≢ b.name) market_column 0 columns (λ i h lt within. names_apart 88 i h lt (omega arith));
        row_names = pairs_range (λ (a b : Row). a.name ≢ b.name) (market_row start columns) 0 rows (λ i h lt within. names_apart 82 i h lt (omega arith));
        objective = record { distinct = (distinct_is_rise count []).1 tt; terms = All-nil IsPlainItem };
        constant = small_number 0 (omega arith);
      }

-- ---- a model of equal parts

pub same_parts : {columns others : List Column} {rows more : List Row} {objective terms : List Item} {constant number : ℚ} → columns ≡ others → rows ≡ more → objective ≡ terms → constant ≡ number
    → ◌≡◌ {A = Model} (record { columns = columns; rows = rows; objective = objective; constant = constant }) (record { columns = others; rows = more; objective = terms; constant = number })
same_parts p q r s = cc
