-- The numbers that pairs give to names, one more pair behind them, and when a pair has a fault.
use Rattle.std.proofs.Common.{◌≡◌, ℕ, zero, suc, ◌-◌, length, set, Bool, true, false, cond, ◌||◌, List, [], ◌∷◌, ◌++◌, map, Option, Some, None, Ok, is_some, refl, sym, ap, ◌∙◌}
use Rattle.std.specs.Prelude.{bytes_eq, find, option_map, unwrap_or, slice_get, replicate}
use Rattle.std.specs.Option.{option_or}
use Rattle.std.specs.List.{IsDistinct}
use Rattle.std.proofs.lemmas.Option.{slice_get-map}
use Rattle.std.proofs.lemmas.List.Folds.{find-append}
use Rattle.exact_math.specs.Rational.{ℚ}
use Rattle.mps_fields.specs.Reading.{number_of}
use Rattle.mps_model.specs.declared.fault.FaultKind.TheVariants as faults
use Rattle.mps_model.specs.declared.tables.sides.SideTable.{SideTable}
use Rattle.mps_model.specs.Tables.{RowLine, Pair, PairLine}
use Rattle.mps_model.specs.Sides.{number_or_zero, number_at, number_beside, pairs_of}
use Rattle.mps_model.specs.FaultRules.{is_among}
use Rattle.mps_model.specs.RowFaults.{row_names}
use Rattle.mps_model.specs.PairFaults.{pair_fault}
use Rattle.mps_model.specs.KeptSides.{number_in, names_in, padded, KeepsPairs}
use Rattle.mps_model.proofs.OnLines.FaultRuleLaws.{last_rule}
use Rattle.mps_model.specs.FirstPlaceLaws.{bytes_same, bytes_flip, IsFirst, name_at}
use Rattle.mps_model.specs.NameListLaws.{map_at}

-- ---- the number beside a name

pub or_none : {A : Type 0} (o : Option A) → option_or o None ≡ o
or_none None = refl
or_none (Some x) = refl

map_or : {A B : Type 0} (f : A → B) (o p : Option A) → option_map f (option_or o p) ≡ option_or (option_map f o) (option_map f p)
map_or f None p = refl
map_or f (Some x) p = refl

map_cond : {A B : Type 0} (f : A → B) (b : Bool) (x : A) → option_map f (cond b (Some x) None) ≡ cond b (Some (f x)) None
map_cond f true x = refl
map_cond f false x = refl

-- what is not there is nothing
pub none_from : {A : Type 0} (o : Option A) → is_some o ≡ false → o ≡ None
none_from None h = refl
none_from (Some x) h = cc

-- of the pairs with one more, an earlier one of the name counts
pub beside_push : (pairs : List Pair) (pair : Pair) (name : List ℕ)
    → number_beside (pairs ++ pair ∷ []) name ≡ option_or (number_beside pairs name) (cond (bytes_eq pair.name name) (Some (number_at pair.number)) None)
beside_push pairs pair name =
    ap (option_map (λ other. number_at other.number)) (find-append (λ other. bytes_eq other.name name) pairs (pair ∷ []))
    ∙ map_or (λ other. number_at other.number) (find (λ other. bytes_eq other.name name) pairs) (find (λ other. bytes_eq other.name name) (pair ∷ []))
    ∙ ap (option_or (number_beside pairs name)) (map_cond (λ other. number_at other.number) (bytes_eq pair.name name) pair)

-- with its own pair a name that had none has its number, and each other name what it had
pub beside_new : (pairs : List Pair) (pair : Pair) → number_beside pairs pair.name ≡ None → number_beside (pairs ++ pair ∷ []) pair.name ≡ Some (number_at pair.number)
beside_new pairs pair none =
    beside_push pairs pair pair.name ∙ ap (λ o. option_or o (cond (bytes_eq pair.name pair.name) (Some (number_at pair.number)) None)) none
    ∙ ap (λ b. cond b (Some (number_at pair.number)) None) (bytes_same pair.name)

pub beside_other : (pairs : List Pair) (pair : Pair) (other : List ℕ) → bytes_eq pair.name other ≡ false → number_beside (pairs ++ pair ∷ []) other ≡ number_beside pairs other
beside_other pairs pair other differ =
    beside_push pairs pair other ∙ ap (λ b. option_or (number_beside pairs other) (cond b (Some (number_at pair.number)) None)) differ ∙ or_none (number_beside pairs other)

found_step : (pair : Pair) (rest : Option Pair) (b among : Bool) → is_some (option_map (λ other. number_at other.number) rest) ≡ among
    → is_some (option_map (λ other. number_at other.number) (cond b (Some pair) rest)) ≡ (b || among)
found_step pair rest true among h = refl
found_step pair rest false among h = h

-- there is a number beside a name that is among those of the pairs
pub beside_found : (pairs : List Pair) (name : List ℕ) → is_some (number_beside pairs name) ≡ is_among (names_in pairs) name
beside_found [] name = refl
beside_found (pair ∷ pairs) name =
    found_step pair (find (λ other. bytes_eq other.name name) pairs) (bytes_eq pair.name name) (is_among (names_in pairs) name) (beside_found pairs name)
    ∙ ap (λ b. b || is_among (names_in pairs) name) (bytes_flip pair.name name)

-- no value where a test chooses none
pub not_chosen : {A : Type 0} (b : Bool) (x : A) → cond b (Some x) None ≡ None → b ≡ false
not_chosen true x h = cc
not_chosen false x h = refl

-- ---- numbers by the places of names

-- the number at the place of a name
pub number_at_place : {X : Type 0} (f : X → Option ℚ) (numbers : List (Option ℚ)) (x : X) (xs : List X) (place : ℕ) → numbers ≡ map f xs
    → slice_get xs place ≡ Some x → number_in numbers place ≡ f x
number_at_place f numbers x xs place kept at =
    ap (λ ns. number_in ns place) kept ∙ ap (λ o. unwrap_or o None) (slice_get-map f xs place ∙ ap (option_map f) at)

none_in : (k i : ℕ) → number_in (replicate k None) i ≡ None
none_in zero i = refl
none_in (suc k) zero = refl
none_in (suc k) (suc i) = none_in k i

pub padding_tells_nothing : (numbers : List (Option ℚ)) (k i : ℕ) → number_in (numbers ++ replicate k None) i ≡ number_in numbers i
padding_tells_nothing [] k i = none_in k i
padding_tells_nothing (x ∷ xs) k zero = refl
padding_tells_nothing (x ∷ xs) k (suc i) = padding_tells_nothing xs k i

-- the number that a table has at the place of a name
pub kept_number : (names : List (List ℕ)) (lines : List PairLine) (table : SideTable) (name : List ℕ) (place : ℕ) → KeepsPairs names lines table
    → slice_get names place ≡ Some name → number_in table.numbers.items place ≡ number_beside (pairs_of lines) name
kept_number names lines table name place kept at =
    sym (padding_tells_nothing table.numbers.items (length names - length table.numbers.items) place)
    ∙ number_at_place (number_beside (pairs_of lines)) (padded (length names) table.numbers.items) name names place kept.numbers at

module _ (names : List (List ℕ)) (distinct : IsDistinct bytes_eq names) (pairs : List Pair) (pair : Pair) (place : ℕ) (first : IsFirst (bytes_eq pair.name) names place)
    (numbers : List (Option ℚ)) (kept : numbers ≡ map (number_beside pairs) names) where
  -- the place has a number where the name is taken
  pub place_taken : is_some (number_in numbers place) ≡ is_among (names_in pairs) pair.name
  place_taken = ap is_some (number_at_place (number_beside pairs) numbers pair.name names place kept (name_at pair.name names place first)) ∙ beside_found pairs pair.name

  -- the numbers with that of one more pair
  pub pair_put : (q : ℚ) → number_of pair.number ≡ Ok q → is_some (number_in numbers place) ≡ false
      → set numbers place (Some q) ≡ map (number_beside (pairs ++ pair ∷ [])) names
  pair_put q value free =
      let none : number_beside pairs pair.name ≡ None = none_from (number_beside pairs pair.name) (beside_found pairs pair.name ∙ sym place_taken ∙ free) in
      ap (λ ns. set ns place (Some q)) kept
      ∙ sym (map_at (number_beside pairs) (number_beside (pairs ++ pair ∷ [])) (Some q) pair.name names place distinct first
      (beside_new pairs pair none ∙ ap (λ r. Some (number_or_zero r)) value) (beside_other pairs pair))

-- ---- the faults of a pair

-- of a known row and a number, only the row can be taken already
pub pair_left : (rows : List RowLine) (taken : List (List ℕ)) (pair : Pair) (q : ℚ) → is_among (row_names rows) pair.name ≡ true → number_of pair.number ≡ Ok q
    → pair_fault rows taken pair ≡ cond (is_among taken pair.name) (Some faults.Duplicate) None
pair_left rows taken pair q known value = rw (known, value) (last_rule (is_among taken pair.name) faults.Duplicate)
