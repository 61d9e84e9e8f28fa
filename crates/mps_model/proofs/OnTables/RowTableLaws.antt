-- Rows by their kinds and names, one more row behind them, and when a line of ROWS has a fault.
use Rattle.std.proofs.Common.{◌≡◌, ℕ, zero, suc, ◌+◌, ◌<◌, ◌≤◌, length, get_or, Bool, true, false, cond, leb, ◌&&◌, not, List, [], ◌∷◌, ◌++◌, position, Option, Some, None, slice_get, refl, sym, ap, subst, ◌∙◌, arith, length-append}
use Rattle.std.specs.Prelude.{bytes_eq, filter, IfSome}
use Rattle.std.specs.Bool.{then_some}
use Rattle.std.specs.Int.{from_bool}
use Rattle.std.specs.Option.{option_or}
use Rattle.std.specs.List.{position_from}
use Rattle.std.proofs.lemmas.Bool.{leb-false}
use Rattle.std.proofs.lemmas.List.{length_push}
use Rattle.std.proofs.lemmas.List.Elements.{filter-append}
use Rattle.std.proofs.lemmas.Iterator.Adapters.{position_from-zero}
use Rattle.std.proofs.lemmas.Slice.Eq.{bytes_eq-Decides}
use Rattle.mps_model.specs.declared.tables.row_kind.RowKind.{RowKind}
use Rattle.mps_model.specs.declared.tables.row_kind.RowKind.TheVariants.{Free, Equal, AtMost, AtLeast}
use Rattle.mps_model.specs.declared.fault.FaultKind.TheVariants as faults
use Rattle.mps_model.specs.Tables.{RowLine, Tables}
use Rattle.mps_model.specs.Sides.{is_free_row, has_sides, sided_rows}
use Rattle.mps_model.specs.FaultRules.{first_holding, is_among}
use Rattle.mps_model.specs.RowFaults.{row_names, row_fault}
use Rattle.mps_model.specs.RowKinds.{letter_of, row_kinds, row_kind_of, row_of, rows_of, IsRowTable}
use Rattle.mps_model.specs.FirstItemLaws.{find_passes}
use Rattle.mps_model.specs.FirstPlaceLaws.{said}
use Rattle.mps_model.proofs.OnLines.FaultRuleLaws.{rule_holds, rule_passes}

-- ---- rows by their kinds and names

pub names_of_rows : (kinds : List RowKind) (names : List (List ℕ)) → length kinds ≡ length names → row_names (rows_of kinds names) ≡ names
names_of_rows [] [] h = refl
names_of_rows [] (name ∷ names) h = absurd (omega (arith, h))
names_of_rows (kind ∷ kinds) [] h = absurd (omega (arith, h))
names_of_rows (kind ∷ kinds) (name ∷ names) h = ap (λ rest. name ∷ rest) (names_of_rows kinds names (omega (arith, h)))

pub length-rows_of : (kinds : List RowKind) (names : List (List ℕ)) → length kinds ≡ length names → length (rows_of kinds names) ≡ length kinds
length-rows_of [] names h = refl
length-rows_of (kind ∷ kinds) [] h = absurd (omega (arith, h))
length-rows_of (kind ∷ kinds) (name ∷ names) h = ap suc (length-rows_of kinds names (omega (arith, h)))

module _ (kinds : List RowKind) (names : List (List ℕ)) (rows : List RowLine) (paired : length kinds ≡ length names) (are_rows : rows_of kinds names ≡ rows) where
  pub table_names : names ≡ row_names rows
  table_names = sym (names_of_rows kinds names paired) ∙ ap row_names are_rows

  pub table_length : length names ≡ length rows
  table_length = sym paired ∙ sym (length-rows_of kinds names paired) ∙ ap length are_rows

pub rows_of-push : (kinds : List RowKind) (names : List (List ℕ)) (kind : RowKind) (name : List ℕ) → length kinds ≡ length names
    → rows_of (kinds ++ kind ∷ []) (names ++ name ∷ []) ≡ rows_of kinds names ++ row_of kind name ∷ []
rows_of-push [] [] kind name h = refl
rows_of-push [] (n ∷ names) kind name h = absurd (omega (arith, h))
rows_of-push (k ∷ kinds) [] kind name h = absurd (omega (arith, h))
rows_of-push (k ∷ kinds) (n ∷ names) kind name h = ap (λ rest. row_of k n ∷ rest) (rows_of-push kinds names kind name (omega (arith, h)))

pub kind_at : (kinds : List RowKind) (names : List (List ℕ)) (i : ℕ) (d : RowKind) → i < length kinds → IfSome (slice_get (rows_of kinds names) i) (λ line. line.kind ≡ letter_of (get_or kinds i d))
kind_at [] names i d h = absurd (omega (arith, h))
kind_at (k ∷ kinds) [] i d h = tt
kind_at (k ∷ kinds) (n ∷ names) zero d h = refl
kind_at (k ∷ kinds) (n ∷ names) (suc i) d h = kind_at kinds names i d (omega (arith, h))

-- ---- one more behind a list

pub position_from-push : {X : Type 0} (p : X → Bool) (n : ℕ) (xs : List X) (y : X)
    → position_from p n (xs ++ y ∷ []) ≡ option_or (position_from p n xs) (then_some (p y) (n + length xs))
position_from-push p n [] y = elim (p y) as (λ t. cond t (Some n) None ≡ then_some t (n + 0)) [ true ↦ ap Some (omega arith) | false ↦ refl ]
position_from-push p n (x ∷ xs) y =
    elim (p x) as (λ t. cond t (Some n) (position_from p (n + 1) (xs ++ y ∷ [])) ≡ option_or (cond t (Some n) (position_from p (n + 1) xs)) (then_some (p y) (n + suc (length xs)))) [
      | true ↦ refl
      | false ↦ position_from-push p (n + 1) xs y ∙ ap (λ m. option_or (position_from p (n + 1) xs) (then_some (p y) m)) (omega arith)
    ]

pub position-push : {X : Type 0} (p : X → Bool) (xs : List X) (y : X) → position p (xs ++ y ∷ []) ≡ option_or (position p xs) (then_some (p y) (length xs))
position-push p xs y =
    position_from-zero p (xs ++ y ∷ []) ∙ position_from-push p 0 xs y
    ∙ ap (λ o. option_or o (then_some (p y) (0 + length xs))) (sym (position_from-zero p xs))
    ∙ ap (λ m. option_or (position p xs) (then_some (p y) m)) (omega arith)

pub length-filter-push : {X : Type 0} (p : X → Bool) (xs : List X) (y : X) → length (filter p (xs ++ y ∷ [])) ≡ length (filter p xs) + cond (p y) 1 0
length-filter-push p xs y =
    ap length (filter-append p xs (y ∷ [])) ∙ length-append (filter p xs) (filter p (y ∷ []))
    ∙ ap (λ n. length (filter p xs) + n) (elim (p y) as (λ t. length (cond t (y ∷ []) []) ≡ cond t 1 0) [ true ↦ refl | false ↦ refl ])

-- ---- a table of rows

from_bool-cond : (b : Bool) → from_bool b ≡ cond b 1 0
from_bool-cond true = refl
from_bool-cond false = refl

pub free_is_not_sided : (kind : RowKind) (name : List ℕ) → is_free_row (row_of kind name) ≡ not (has_sides (row_of kind name))
free_is_not_sided Free name = refl
free_is_not_sided Equal name = refl
free_is_not_sided AtMost name = refl
free_is_not_sided AtLeast name = refl

module _ (kinds : List RowKind) (names : List (List ℕ)) (objective : Option ℕ) (sided : ℕ) (table : IsRowTable kinds names objective sided)
    (kind : RowKind) (name : List ℕ) where
  -- the table with one more row
  pub table_push : (other : Option ℕ) (count n : ℕ) (sides : Bool) → sides ≡ has_sides (row_of kind name) → n ≡ length kinds
      → other ≡ option_or objective (then_some (not sides) n) → count ≡ sided + from_bool sides → length (sided_rows (rows_of kinds names ++ row_of kind name ∷ [])) ≤ 256
      → IsRowTable (kinds ++ kind ∷ []) (names ++ name ∷ []) other count
  table_push other count n sides are_sides is_length is_other is_count few =
      let rows = rows_of kinds names in
      let pushed = rows_of-push kinds names kind name table.paired in
      let long = length-rows_of kinds names table.paired in
      let counted = length-filter-push has_sides rows (row_of kind name) in
      let same : count ≡ length (sided_rows (rows ++ row_of kind name ∷ [])) =
      is_count ∙ ap (λ m. sided + m) (from_bool-cond sides) ∙ ap (λ b. sided + cond b 1 0) are_sides ∙ ap (λ m. m + cond (has_sides (row_of kind name)) 1 0) table.counted ∙ sym counted
      in
      record {
        paired = length_push kinds kind ∙ ap (λ n. n + 1) table.paired ∙ sym (length_push names name);
        first_free =
            is_other ∙ ap (λ o. option_or o (then_some (not sides) n)) table.first_free
            ∙ ap (λ m. option_or (position is_free_row rows) (then_some (not sides) m)) is_length
            ∙ ap (λ b. option_or (position is_free_row rows) (then_some (not b) (length kinds))) are_sides
            ∙ ap (λ b. option_or (position is_free_row rows) (then_some b (length kinds))) (sym (free_is_not_sided kind name))
            ∙ ap (λ m. option_or (position is_free_row rows) (then_some (is_free_row (row_of kind name)) m)) (sym long)
            ∙ sym (position-push is_free_row rows (row_of kind name)) ∙ ap (position is_free_row) (sym pushed);
        counted = same ∙ ap (λ r. length (sided_rows r)) (sym pushed);
        few = subst (λ n. n ≤ 256) (sym same) few;
      }

-- ---- the faults of a line

-- a row with letters of a kind is that kind's
pub known_row : (letters name : List ℕ) (kind : RowKind) → row_kind_of letters ≡ Some kind → said letters name ≡ row_of kind name
known_row letters name kind h =
    ap (λ k. said k name) ((bytes_eq-Decides letters (letter_of kind)).0 (find_passes (λ k. bytes_eq letters (letter_of k)) row_kinds kind h))

-- what is left to judge of a row of a known kind
judged : (above : Tables) (kind : RowKind) (name : List ℕ) → row_fault above (Some (row_of kind name))
    ≡ first_holding ((is_among (row_names above.rows) name, faults.Duplicate) ∷ (has_sides (row_of kind name) && leb 256 (length (sided_rows above.rows)), faults.TooManyRows) ∷ [])
judged above Free name = refl
judged above Equal name = refl
judged above AtMost name = refl
judged above AtLeast name = refl

module _ (above : Tables) (rows : List RowLine) (kind : RowKind) (name : List ℕ) (are_rows : above.rows ≡ rows) where
  pub row_again : is_among (row_names rows) name ≡ true → row_fault above (Some (row_of kind name)) ≡ Some faults.Duplicate
  row_again again =
      judged above kind name
      ∙ rule_holds (is_among (row_names above.rows) name) faults.Duplicate ((has_sides (row_of kind name) && leb 256 (length (sided_rows above.rows)), faults.TooManyRows) ∷ []) (ap (λ r. is_among (row_names r) name) are_rows ∙ again)

  new_row : is_among (row_names rows) name ≡ false → row_fault above (Some (row_of kind name)) ≡ first_holding ((has_sides (row_of kind name) && leb 256 (length (sided_rows above.rows)), faults.TooManyRows) ∷ [])
  new_row fresh =
      judged above kind name
      ∙ rule_passes (is_among (row_names above.rows) name) faults.Duplicate ((has_sides (row_of kind name) && leb 256 (length (sided_rows above.rows)), faults.TooManyRows) ∷ []) (ap (λ r. is_among (row_names r) name) are_rows ∙ fresh)

  pub row_beyond : is_among (row_names rows) name ≡ false → (has_sides (row_of kind name) && leb 256 (length (sided_rows rows))) ≡ true
      → row_fault above (Some (row_of kind name)) ≡ Some faults.TooManyRows
  row_beyond fresh full =
      new_row fresh ∙ rule_holds _ faults.TooManyRows [] (ap (λ r. has_sides (row_of kind name) && leb 256 (length (sided_rows r))) are_rows ∙ full)

  pub row_fine : is_among (row_names rows) name ≡ false → (has_sides (row_of kind name) && leb 256 (length (sided_rows rows))) ≡ false
      → row_fault above (Some (row_of kind name)) ≡ None
  row_fine fresh room =
      new_row fresh ∙ rule_passes _ faults.TooManyRows [] (ap (λ r. has_sides (row_of kind name) && leb 256 (length (sided_rows r))) are_rows ∙ room)

has_room : (b : Bool) (n : ℕ) → n ≤ 256 → (b && leb 256 n) ≡ false → n + cond b 1 0 ≤ 256
has_room false n few room = omega (arith, few)
has_room true n few room = omega (arith, leb-false 256 n room)

-- one more row is not too many, where it has no sides or fewer than 256 rows have
pub room_for : (rows : List RowLine) (row : RowLine) → length (sided_rows rows) ≤ 256 → (has_sides row && leb 256 (length (sided_rows rows))) ≡ false
    → length (sided_rows (rows ++ row ∷ [])) ≤ 256
room_for rows row few room = subst (λ n. n ≤ 256) (sym (length-filter-push has_sides rows row)) (has_room (has_sides row) (length (sided_rows rows)) few room)
