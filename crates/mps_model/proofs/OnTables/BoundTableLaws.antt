-- What one more line of BOUNDS says of each column.
use Rattle.std.proofs.Common.{◌≡◌, ◌⊎◌, ℕ, ◌-◌, ◌<◌, ◌≤◌, length, get_or, set, take, replicate, inl, inr, Bool, true, false, not, ◌&&◌, ◌||◌, cond, List, [], ◌∷◌, ◌++◌, filter, Option, Some, None, Result, Ok, Err, Bor, refl, sym, ap, subst, ◌∙◌, arith, length-append, length-take}
use Rattle.std.specs.Prelude.{bytes_eq, filter_map, position, IsErrAnd}
use Rattle.std.specs.Bool.{OnTrue}
use Rattle.std.specs.Option.{option_or, option_copied}
use Rattle.std.specs.List.{list_any, last_or, cons_option, IsDistinct}
use Rattle.std.proofs.Math.Bool.{or-false}
use Rattle.std.proofs.lemmas.Bool.{cases_eq, cases_lt}
use Rattle.std.proofs.lemmas.List.{append-nil, length-replicate, get_or_append_left, get_or-append_right, get_or-take, get_or-replicate, get_or_past, get_or_read, get_or-set_same, get_or-set_other}
use Rattle.std.proofs.lemmas.List.Elements.{filter-append, filter_map-append}
use Rattle.std.proofs.lemmas.List.Folds.{list_any-append}
use Rattle.std.proofs.lemmas.List.Quantifiers.{position-Some}
use Rattle.exact_math.specs.Rational.{ℚ}
use Rattle.mps_fields.specs.declared.numbers.NumberFault.{NumberFault}
use Rattle.mps_fields.specs.declared.numbers.NumberFault.TheVariants as numbers
use Rattle.mps_fields.specs.Reading.{number_of}
use Rattle.mps_model.specs.declared.lines.bound_kind.BoundKind.{BoundKind}
use Rattle.mps_model.specs.declared.lines.bound_kind.BoundKind.TheVariants.{Lo as LO, Up as UP, Fx as FX, Fr as FR, Mi as MI, Pl as PL, Bv as BV, Li as LI, Ui as UI}
use Rattle.mps_model.specs.declared.tables.bounds.ColumnBounds.{ColumnBounds}
use Rattle.mps_model.specs.declared.tables.bounds.BoundTable.{BoundTable}
use Rattle.mps_model.specs.declared.fault.FaultKind.{FaultKind}
use Rattle.mps_model.specs.declared.fault.FaultKind.TheVariants as faults
use Rattle.mps_model.specs.declared.line_stop.LineStop.{LineStop}
use Rattle.mps_model.specs.declared.line_stop.LineStop.TheVariants.{Fault as stop_at, NoMemory as no_memory}
use Rattle.mps_model.specs.Tables.{takes_value, BoundLine, Tables}
use Rattle.mps_model.specs.Sides.{number_or_zero, number_at}
use Rattle.mps_model.specs.Bounds.{last_of, column_names, lower_by, upper_by, makes_integer}
use Rattle.mps_model.specs.FaultRules.{first_holding, is_among, is_not_number, is_wide_number}
use Rattle.mps_model.specs.PairFaults.{is_second_set}
use Rattle.mps_model.specs.ColumnFaults.{is_known_column, bound_line_fault}
use Rattle.mps_model.specs.Judging.{Judges, kind_of}
use Rattle.mps_model.specs.KeptBounds.{said_of, nothing_said, with_entry, first_set, KeepsBounds}
use Rattle.mps_model.specs.DistinctNameLaws.{apart, position-none, position-some}
use Rattle.mps_model.specs.FirstPlaceLaws.{same_bytes}

-- ---- over plain lists

last_or-more : {A : Type 0} (o last : Option A) (xs : List A) → last_or o (xs ++ cons_option last []) ≡ option_or last (last_or o xs)
last_or-more o None [] = refl
last_or-more o (Some y) [] = refl
last_or-more o last (x ∷ xs) = last_or-more (Some x) last xs

module _ {A : Type 0} (p : A → Bool) (xs : List A) (x : A) where
  filter-passed : p x ≡ true → filter p (xs ++ x ∷ []) ≡ filter p xs ++ x ∷ []
  filter-passed e = filter-append p xs (x ∷ []) ∙ ap (λ t. filter p xs ++ cond t (x ∷ []) []) e

  filter-left : p x ≡ false → filter p (xs ++ x ∷ []) ≡ filter p xs
  filter-left e = filter-append p xs (x ∷ []) ∙ ap (λ t. filter p xs ++ cond t (x ∷ []) []) e ∙ append-nil (filter p xs)

  last_mapped : {B : Type 0} (h : A → Option B) → p x ≡ true → last_of (filter_map h (filter p (xs ++ x ∷ []))) ≡ option_or (h x) (last_of (filter_map h (filter p xs)))
  last_mapped h e =
      ap (λ ys. last_of (filter_map h ys)) (filter-passed e)
      ∙ ap last_of (filter_map-append h (filter p xs) (x ∷ []))
      ∙ last_or-more None (h x) (filter_map h (filter p xs))

  any_more : (q : A → Bool) → p x ≡ true → list_any q (filter p (xs ++ x ∷ [])) ≡ (list_any q (filter p xs) || q x)
  any_more q e =
      ap (list_any q) (filter-passed e) ∙ list_any-append q (filter p xs) (x ∷ []) ∙ ap (λ b. list_any q (filter p xs) || b) (or-false (q x))

-- ys is xs cut to n items or filled up to them
record IsFilled {A : Type 0} (n : ℕ) (xs : List A) (x : A) (ys : List A) : Type 0 where
  len : length ys ≡ n
  at : (j : ℕ) → j < n → get_or ys j x ≡ get_or xs j x

filled_at : {A : Type 0} (n : ℕ) (xs : List A) (x : A) (j : ℕ) → j < n → (j < length xs) ⊎ (length xs ≤ j)
    → get_or (take n xs ++ replicate (n - length xs) x) j x ≡ get_or xs j x
filled_at n xs x j within (inl inside) =
    get_or_append_left (take n xs) (replicate (n - length xs) x) x j (omega (arith, length-take n xs)) ∙ get_or-take n xs j x within
filled_at n xs x j within (inr past) =
    get_or-append_right (take n xs) (replicate (n - length xs) x) (length xs) j x (omega (arith, length-take n xs)) past
    ∙ get_or-replicate (n - length xs) (j - length xs) x x (omega arith)
    ∙ sym (get_or_past xs j x past)

filled : {A : Type 0} (n : ℕ) (xs : List A) (x : A) → IsFilled n xs x (take n xs ++ replicate (n - length xs) x)
filled n xs x = record {
  len = omega (arith, length-append (take n xs) (replicate (n - length xs) x), length-take n xs, length-replicate (n - length xs) x);
  at = λ j within. filled_at n xs x j within (cases_lt j (length xs));
}

-- ---- what lines say of a column

module _ (above : List BoundLine) (line : BoundLine) (column : List ℕ) where
  pub said_of_entry : bytes_eq line.column column ≡ true → said_of (above ++ line ∷ []) column ≡ with_entry (said_of above column) line.kind (number_at line.value)
  unfolding said_of
  said_of_entry e =
      let lower = last_mapped (λ (l : BoundLine). bytes_eq l.column column) above line (λ (l : BoundLine). lower_by l.kind (number_at l.value)) e in
      let upper = last_mapped (λ (l : BoundLine). bytes_eq l.column column) above line (λ (l : BoundLine). upper_by l.kind (number_at l.value)) e in
      let integer = any_more (λ (l : BoundLine). bytes_eq l.column column) above line (λ (l : BoundLine). makes_integer l.kind) e in
      cc (lower, upper, integer)

  pub said_of_other : bytes_eq line.column column ≡ false → said_of (above ++ line ∷ []) column ≡ said_of above column
  unfolding said_of
  said_of_other e =
      let kept = filter-left (λ (l : BoundLine). bytes_eq l.column column) above line e in
      cc kept

-- the number beside a kind counts only where the kind takes one
entry_same : (said : ColumnBounds) (kind : BoundKind) (text : List ℕ) (value : ℚ) → OnTrue (takes_value kind) (number_of text ≡ Ok value)
    → with_entry said kind (number_at text) ≡ with_entry said kind value
entry_same said LO text value h = ap (λ r. with_entry said LO (number_or_zero r)) h
entry_same said UP text value h = ap (λ r. with_entry said UP (number_or_zero r)) h
entry_same said FX text value h = ap (λ r. with_entry said FX (number_or_zero r)) h
entry_same said FR text value h = refl
entry_same said MI text value h = refl
entry_same said PL text value h = refl
entry_same said BV text value h = refl
entry_same said LI text value h = ap (λ r. with_entry said LI (number_or_zero r)) h
entry_same said UI text value h = ap (λ r. with_entry said UI (number_or_zero r)) h

-- ---- where a value is no number

found_fault : (number : Result ℚ NumberFault) (P : NumberFault → Type 0) → IsErrAnd number P → (fault : NumberFault) × (number ≡ Err fault) × P fault
found_fault (Ok value) P h = absurd h
found_fault (Err fault) P h = (fault, refl, h)

judges_fault : {A : Type 0} (fault : Option FaultKind) (taken : Type 0) (result : Result A LineStop) (stop : LineStop) (kind : FaultKind)
    → IsErrAnd result (λ found. found ≡ stop) → stop ≡ stop_at kind → fault ≡ Some kind → Judges fault taken result
judges_fault fault taken (Ok done) stop kind h s f = absurd h
judges_fault fault taken (Err no_memory) stop kind h s f = tt
judges_fault fault taken (Err (stop_at found)) stop kind h s f = cc

-- ---- the rules of a line

abbrev rules : Bool → Bool → Bool → Result ℚ NumberFault → Option FaultKind
rules second known takes number = first_holding (
    (second, faults.SecondSet)
    ∷ (not known, faults.UnknownColumn)
    ∷ (takes && is_not_number number, faults.NotNumber)
    ∷ (takes && is_wide_number number, faults.WideNumber)
    ∷ [])

rules-unknown : (second known takes : Bool) (number : Result ℚ NumberFault) → second ≡ false → known ≡ false → rules second known takes number ≡ Some faults.UnknownColumn
rules-unknown true known takes number e f = cc
rules-unknown false true takes number e f = cc
rules-unknown false false takes number e f = refl

rules-number : (second known takes : Bool) (number : Result ℚ NumberFault) (fault : NumberFault)
    → second ≡ false → known ≡ true → takes ≡ true → number ≡ Err fault → rules second known takes number ≡ Some (kind_of fault)
rules-number true known takes number fault e f t n = cc
rules-number false false takes number fault e f t n = cc
rules-number false true false number fault e f t n = cc
rules-number false true true number numbers.NotNumber e f t n = ap (rules false true true) n
rules-number false true true number numbers.WideNumber e f t n = ap (rules false true true) n

rules-none : (second known takes : Bool) (number : Result ℚ NumberFault) (value : ℚ)
    → second ≡ false → known ≡ true → OnTrue takes (number ≡ Ok value) → rules second known takes number ≡ None
rules-none true known takes number value e f n = cc
rules-none false false takes number value e f n = cc
rules-none false true false number value e f n = refl
rules-none false true true number value e f n = ap (rules false true true) n

module _ (above : Tables) (line : BoundLine) (first : Option (List ℕ)) (names : List (List ℕ)) (set_is : first ≡ first_set above.bounds) (named : names ≡ column_names above.columns) where
  known_is : (b : Bool) → is_among names line.column ≡ b → is_known_column above line.column ≡ b
  known_is b e = ap (λ ns. is_among ns line.column) (sym named) ∙ e

  second_is : (b : Bool) → is_second_set first line.set ≡ b → is_second_set (first_set above.bounds) line.set ≡ b
  second_is b e = ap (λ s. is_second_set s line.set) (sym set_is) ∙ e

  pub unknown_column : is_second_set first line.set ≡ false → position (bytes_eq line.column) names ≡ None → bound_line_fault above (Some line) ≡ Some faults.UnknownColumn
  unknown_column e f =
      rules-unknown (is_second_set (first_set above.bounds) line.set) (is_known_column above line.column) (takes_value line.kind) (number_of line.value)
      (second_is false e) (known_is false (position-none (bytes_eq line.column) names f))

  pub bad_number : (i : ℕ) (fault : NumberFault) → is_second_set first line.set ≡ false → position (bytes_eq line.column) names ≡ Some i
      → takes_value line.kind ≡ true → number_of line.value ≡ Err fault → bound_line_fault above (Some line) ≡ Some (kind_of fault)
  bad_number i fault e f t n =
      rules-number (is_second_set (first_set above.bounds) line.set) (is_known_column above line.column) (takes_value line.kind) (number_of line.value) fault
      (second_is false e) (known_is true (position-some (bytes_eq line.column) names i [] f)) t n

  pub bad_value : {A : Type 0} (i : ℕ) (stop : LineStop) (taken : Type 0) (result : Result A LineStop) → is_second_set first line.set ≡ false
      → position (bytes_eq line.column) names ≡ Some i → takes_value line.kind ≡ true
      → IsErrAnd (number_of line.value) (λ fault. stop ≡ stop_at (kind_of fault)) → IsErrAnd result (λ found. found ≡ stop)
      → Judges (bound_line_fault above (Some line)) taken result
  bad_value i stop taken result e f t n r =
      let found = found_fault (number_of line.value) (λ fault. stop ≡ stop_at (kind_of fault)) n in
      judges_fault (bound_line_fault above (Some line)) taken result stop (kind_of found.0) r found.2 (bad_number i found.0 e f t found.1)

  pub no_bound_fault : (i : ℕ) (value : ℚ) → is_second_set first line.set ≡ false → position (bytes_eq line.column) names ≡ Some i
      → OnTrue (takes_value line.kind) (number_of line.value ≡ Ok value) → bound_line_fault above (Some line) ≡ None
  no_bound_fault i value e f n =
      rules-none (is_second_set (first_set above.bounds) line.set) (is_known_column above line.column) (takes_value line.kind) (number_of line.value) value
      (second_is false e) (known_is true (position-some (bytes_eq line.column) names i [] f)) n

-- ---- what is kept of the lines

first_set-more : (first : Option (Bor (List ℕ))) (set : Bor (List ℕ)) (above : List BoundLine) (line : BoundLine)
    → option_copied first ≡ first_set above → set.now ≡ line.set → option_copied (option_or first (Some set)) ≡ first_set (above ++ line ∷ [])
first_set-more None set [] line e s = cc
first_set-more (Some first) set [] line e s = cc
first_set-more None set (x ∷ xs) line e s = cc
first_set-more (Some first) set (x ∷ xs) line e s = e

pub nothing_kept : (names : List (List ℕ)) (table : BoundTable) → table.set ≡ None → table.columns.items ≡ [] → KeepsBounds names [] table
unfolding said_of
nothing_kept names table set columns = record { set = ap option_copied set; columns = λ i within. ap (λ items. get_or items i nothing_said) columns }

module _ (above : List BoundLine) (line : BoundLine) (names : List (List ℕ)) (i : ℕ) (distinct : IsDistinct bytes_eq names) (found : position (bytes_eq line.column) names ≡ Some i) where
  -- what is said of the column of the line
  said_here : (old new : ColumnBounds) (value : ℚ) → OnTrue (takes_value line.kind) (number_of line.value ≡ Ok value)
      → old ≡ said_of above (get_or names i []) → new ≡ with_entry old line.kind value → new ≡ said_of (above ++ line ∷ []) (get_or names i [])
  said_here old new value taken was now =
      now ∙ ap (λ said. with_entry said line.kind value) was
      ∙ sym (entry_same (said_of above (get_or names i [])) line.kind line.value value taken)
      ∙ sym (said_of_entry above line (get_or names i []) (position-Some (bytes_eq line.column) names i [] found).1)

  -- another column has another name
  other_name : (j : ℕ) → j < length names → (j ≡ i → ⊥) → bytes_eq line.column (get_or names j []) ≡ false
  other_name j within other =
      let at = position-Some (bytes_eq line.column) names i [] found in
      let name = same_bytes line.column (get_or names i []) at.1 in
      ap (λ n. bytes_eq n (get_or names j [])) name ∙ apart names i j distinct at.0 within (λ e. other (sym e))

  said_at : (old new : ColumnBounds) (columns kept : List ColumnBounds) (value : ℚ) → IsFilled (length names) kept nothing_said columns
      → ((j : ℕ) → j < length names → get_or kept j nothing_said ≡ said_of above (get_or names j []))
      → OnTrue (takes_value line.kind) (number_of line.value ≡ Ok value)
      → old ≡ get_or columns i old → new ≡ with_entry old line.kind value
      → (j : ℕ) → j < length names → (j ≡ i) ⊎ (j ≡ i → ⊥) → get_or (set columns i new) j nothing_said ≡ said_of (above ++ line ∷ []) (get_or names j [])
  said_at old new columns kept value fill keeps taken was now j within (inl same) =
      let inside : i < length columns = omega (arith, fill.len) in
      let before : old ≡ said_of above (get_or names i []) =
      get_or_read columns i old inside was nothing_said ∙ fill.at i (omega arith) ∙ keeps i (omega arith) in
      ap (λ k. get_or (set columns i new) k nothing_said) same
      ∙ get_or-set_same columns i new nothing_said inside
      ∙ said_here old new value taken before now
      ∙ ap (λ k. said_of (above ++ line ∷ []) (get_or names k [])) (sym same)
  said_at old new columns kept value fill keeps taken was now j within (inr other) =
      get_or-set_other columns i j new nothing_said other
      ∙ fill.at j within ∙ keeps j within
      ∙ sym (said_of_other above line (get_or names j []) (other_name j within other))

  -- the table after one more line
  pub keeps_more : (table new : BoundTable) (columns : List ColumnBounds) (set_name : Bor (List ℕ)) (said changed : ColumnBounds) (value : ℚ)
      → KeepsBounds names above table
      → OnTrue (takes_value line.kind) (number_of line.value ≡ Ok value)
      → set_name.now ≡ line.set
      → columns ≡ take (length names) table.columns.items ++ replicate (length names - length table.columns.items) nothing_said
      → said ≡ get_or columns i said
      → changed ≡ with_entry said line.kind value
      → new.set ≡ option_or table.set (Some set_name)
      → new.columns.items ≡ set columns i changed
      → KeepsBounds names (above ++ line ∷ []) new
  keeps_more table new columns set_name said changed value keeps taken named filled_is was now set_is columns_are = record {
    set = ap option_copied set_is ∙ first_set-more table.set set_name above line keeps.set named;
    columns = λ j within.
        ap (λ items. get_or items j nothing_said) columns_are
        ∙ said_at said changed columns table.columns.items value (subst (IsFilled (length names) table.columns.items nothing_said) (sym filled_is) (filled (length names) table.columns.items nothing_said))
        keeps.columns taken was now j within (cases_eq j i);
  }
