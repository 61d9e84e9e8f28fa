-- The fault of a column by what the lines of BOUNDS say of it.
use Rattle.std.proofs.Common.{◌≡◌, ℕ, suc, ◌+◌, ◌<◌, ◌≤◌, ℤ, Bool, true, false, ◌&&◌, ◌||◌, cond, not, List, [], ◌∷◌, ◌++◌, length, get_or, take, drop, map, Option, Some, None, refl, sym, ap, ◌∙◌, drop-cons}
use Rattle.std.specs.Bool.{then_some}
use Rattle.std.specs.Prelude.{is_some, is_none, option_map, unwrap_or, slice_get, filter_map}
use Rattle.std.specs.Option.{option_or, option_map_or}
use Rattle.std.specs.List.{last_or, cons_option}
use Rattle.std.proofs.lemmas.List.{take-append-drop, take_more, take_all, length-map, get_or-map}
use Rattle.std.proofs.lemmas.List.Elements.{filter_map-append}
use Rattle.exact_math.specs.Rational.{ℚ, whole}
use Rattle.mps_model.specs.declared.tables.bounds.ColumnBounds.{ColumnBounds}
use Rattle.mps_model.specs.declared.tables.columns.ColumnStart.{ColumnStart}
use Rattle.mps_model.specs.declared.fault.FaultKind.{FaultKind}
use Rattle.mps_model.specs.declared.fault.FaultKind.TheVariants as faults
use Rattle.mps_model.specs.Tables.{Tables}
use Rattle.mps_model.specs.Sides.{zero_ℚ, is_negative}
use Rattle.mps_model.specs.Bounds.{last_of, column_names, is_between_markers, lower_entries}
use Rattle.mps_model.specs.FaultRules.{first_holding}
use Rattle.mps_model.specs.Meaning.{fault_on, is_empty, column_kind, first_line_of, column_fault_at}
use Rattle.mps_model.specs.KeptBounds.{said_of}
use Rattle.mps_model.specs.KeptColumns.{start_of}

-- ---- the rules, over plain values

abbrev rules : Bool → Option ℚ → Option ℚ → Bool → Option FaultKind
rules integer lower upper unset = first_holding (
    (not integer, faults.Continuous)
    ∷ (is_none lower, faults.NoLower)
    ∷ (is_none upper, faults.NoUpper)
    ∷ (option_map_or is_negative upper false && unset, faults.NegativeUpper)
    ∷ [])

rules-continuous : (integer : Bool) (lower upper : Option ℚ) (unset : Bool) → integer ≡ false → rules integer lower upper unset ≡ Some faults.Continuous
rules-continuous true lower upper unset e = cc
rules-continuous false lower upper unset e = refl

rules-no_lower : (integer : Bool) (lower upper : Option ℚ) (unset : Bool) → integer ≡ true → is_none lower ≡ true → rules integer lower upper unset ≡ Some faults.NoLower
rules-no_lower true None upper unset e l = refl
rules-no_lower true (Some x) upper unset e l = cc
rules-no_lower false lower upper unset e l = cc

rules-no_upper : (integer : Bool) (lower upper : Option ℚ) (unset : Bool) → integer ≡ true → is_none lower ≡ false → upper ≡ None
    → rules integer lower upper unset ≡ Some faults.NoUpper
rules-no_upper true None upper unset e l u = cc
rules-no_upper true (Some x) None unset e l u = refl
rules-no_upper true (Some x) (Some y) unset e l u = cc
rules-no_upper false lower upper unset e l u = cc

rules-last : (integer : Bool) (lower upper : Option ℚ) (unset : Bool) (high : ℚ) → integer ≡ true → is_none lower ≡ false → upper ≡ Some high
    → rules integer lower upper unset ≡ cond (is_negative high && unset) (Some faults.NegativeUpper) None
rules-last true None upper unset high e l u = cc
rules-last true (Some x) None unset high e l u = cc
rules-last true (Some x) (Some y) unset high e l u =
    ap (λ o. rules true (Some x) o unset) u
    ∙ elim (is_negative high && unset) as (λ b. first_holding ((false, faults.Continuous) ∷ (false, faults.NoLower) ∷ (false, faults.NoUpper) ∷ (b, faults.NegativeUpper) ∷ []) ≡ cond b (Some faults.NegativeUpper) None)
    [ true ↦ refl | false ↦ refl ]
rules-last false lower upper unset high e l u = cc

none_last : {A : Type 0} (x : A) (xs : List A) → is_none (last_or (Some x) xs) ≡ false
none_last x [] = refl
none_last x (y ∷ ys) = none_last y ys

unset_is : {A : Type 0} (xs : List A) → is_none (last_of xs) ≡ is_empty xs
unset_is [] = refl
unset_is (x ∷ xs) = none_last x xs

-- ---- what tests answer

pub none_from_some : {A : Type 0} (o : Option A) (b : Bool) → is_some o ≡ not b → is_none o ≡ b
none_from_some o true e = ap not e
none_from_some o false e = ap not e

pub then_some-cond : {A : Type 0} (a b c : Bool) (x : A) → c ≡ b → then_some (a && c) x ≡ cond (a && b) (Some x) None
then_some-cond a b c x e = ap (λ d. then_some (a && d) x) e ∙ elim (a && b) as (λ d. then_some d x ≡ cond d (Some x) None) [ true ↦ refl | false ↦ refl ]

-- ---- of a column

module _ (tables : Tables) (column : List ℕ) (upper : Option ℤ) (is_between : Bool) (said : ColumnBounds) (given : Option ℚ)
    (between : is_between ≡ is_between_markers tables.columns column) (says : said ≡ said_of tables.bounds column) (gives : given ≡ option_map whole upper) where
  kind_is : rules (is_between || said.is_integer) (unwrap_or said.lower (Some zero_ℚ)) (option_or (unwrap_or said.upper None) given) (is_none said.lower)
      ≡ column_kind upper tables column
  unfolding said_of
  kind_is =
      ap (λ b. rules (b || said.is_integer) (unwrap_or said.lower (Some zero_ℚ)) (option_or (unwrap_or said.upper None) given) (is_none said.lower)) between
      ∙ ap (λ (s : ColumnBounds). rules (is_between_markers tables.columns column || s.is_integer) (unwrap_or s.lower (Some zero_ℚ)) (option_or (unwrap_or s.upper None) given) (is_none s.lower)) says
      ∙ ap (λ g. rules (is_between_markers tables.columns column || (said_of tables.bounds column).is_integer) (unwrap_or (said_of tables.bounds column).lower (Some zero_ℚ))
      (option_or (unwrap_or (said_of tables.bounds column).upper None) g) (is_none (said_of tables.bounds column).lower)) gives
      ∙ ap (λ u. rules (is_between_markers tables.columns column || (said_of tables.bounds column).is_integer) (unwrap_or (said_of tables.bounds column).lower (Some zero_ℚ))
      (option_or (unwrap_or (said_of tables.bounds column).upper None) (option_map whole upper)) u) (unset_is (lower_entries tables column))

  pub continuous : (is_between || said.is_integer) ≡ false → column_kind upper tables column ≡ Some faults.Continuous
  continuous e = sym kind_is ∙ rules-continuous (is_between || said.is_integer) (unwrap_or said.lower (Some zero_ℚ)) (option_or (unwrap_or said.upper None) given) (is_none said.lower) e

  pub no_lower : (is_between || said.is_integer) ≡ true → is_none (unwrap_or said.lower (Some zero_ℚ)) ≡ true → column_kind upper tables column ≡ Some faults.NoLower
  no_lower e l = sym kind_is ∙ rules-no_lower (is_between || said.is_integer) (unwrap_or said.lower (Some zero_ℚ)) (option_or (unwrap_or said.upper None) given) (is_none said.lower) e l

  pub no_upper : (is_between || said.is_integer) ≡ true → is_none (unwrap_or said.lower (Some zero_ℚ)) ≡ false → option_or (unwrap_or said.upper None) given ≡ None
      → column_kind upper tables column ≡ Some faults.NoUpper
  no_upper e l u = sym kind_is ∙ rules-no_upper (is_between || said.is_integer) (unwrap_or said.lower (Some zero_ℚ)) (option_or (unwrap_or said.upper None) given) (is_none said.lower) e l u

  pub negative_upper : (high : ℚ) → (is_between || said.is_integer) ≡ true → is_none (unwrap_or said.lower (Some zero_ℚ)) ≡ false
      → option_or (unwrap_or said.upper None) given ≡ Some high
      → column_kind upper tables column ≡ cond (is_negative high && is_none said.lower) (Some faults.NegativeUpper) None
  negative_upper high e l u = sym kind_is ∙ rules-last (is_between || said.is_integer) (unwrap_or said.lower (Some zero_ℚ)) (option_or (unwrap_or said.upper None) given) (is_none said.lower) high e l u

-- ---- the first of many

module _ {A B : Type 0} (f : A → Option B) (xs : List A) (i : ℕ) (d : A) where
  split_at : i < length xs → filter_map f xs ≡ filter_map f (take i xs) ++ filter_map f (get_or xs i d ∷ drop (suc i) xs)
  split_at within =
      ap (filter_map f) (sym (take-append-drop i xs) ∙ ap (λ rest. take i xs ++ rest) (drop-cons xs i d within))
      ∙ filter_map-append f (take i xs) (get_or xs i d ∷ drop (suc i) xs)

  pub first_found : (y : B) → i < length xs → filter_map f (take i xs) ≡ [] → f (get_or xs i d) ≡ Some y → slice_get (filter_map f xs) 0 ≡ Some y
  first_found y within none found =
      ap (λ ys. slice_get ys 0) (split_at within ∙ ap (λ ys. ys ++ filter_map f (get_or xs i d ∷ drop (suc i) xs)) none)
      ∙ ap (λ o. slice_get (cons_option o (filter_map f (drop (suc i) xs))) 0) found

  pub none_more : i < length xs → filter_map f (take i xs) ≡ [] → f (get_or xs i d) ≡ None → filter_map f (take (i + 1) xs) ≡ []
  none_more within none found =
      ap (filter_map f) (take_more xs i d within) ∙ filter_map-append f (take i xs) (get_or xs i d ∷ [])
      ∙ ap (λ ys. ys ++ filter_map f (get_or xs i d ∷ [])) none ∙ ap (λ o. cons_option o []) found

  pub none_all : length xs ≤ i → filter_map f (take i xs) ≡ [] → slice_get (filter_map f xs) 0 ≡ None
  none_all past none = ap (λ ys. slice_get (filter_map f ys) 0) (sym (take_all i xs past)) ∙ ap (λ ys. slice_get ys 0) none

-- ---- the columns in turn

module _ (tables : Tables) (starts : List ColumnStart) (i : ℕ) (begun : starts ≡ map (start_of tables.columns) (column_names tables.columns)) where
  pub same_length : length starts ≡ length (column_names tables.columns)
  same_length = ap length begun ∙ length-map (column_names tables.columns) (start_of tables.columns)

  pub start_is : (d : ColumnStart) → i < length (column_names tables.columns) → get_or starts i d ≡ start_of tables.columns (get_or (column_names tables.columns) i [])
  start_is d within = ap (λ ss. get_or ss i d) begun ∙ get_or-map (start_of tables.columns) (column_names tables.columns) i [] d within

  pub fault_is : (upper : Option ℤ) (kind : Option FaultKind) (d : ColumnStart) → i < length (column_names tables.columns)
      → kind ≡ column_kind upper tables (get_or (column_names tables.columns) i [])
      → column_fault_at upper tables (get_or (column_names tables.columns) i []) ≡ option_map (fault_on (get_or starts i d).line) kind
  fault_is upper kind d within is_kind =
      ap (option_map (fault_on (first_line_of tables (get_or (column_names tables.columns) i [])))) (sym is_kind)
      ∙ ap (λ (s : ColumnStart). option_map (fault_on s.line) kind) (sym (start_is d within))
