-- One more line of RHS or of RANGES: what is judged of it, pair by pair, and what is kept of it.
use Rattle.std.proofs.Common.{◌≡◌, ℕ, ◌-◌, length, Bool, true, false, ◌||◌, List, [], ◌∷◌, ◌++◌, map, Option, Some, None, Bor, refl, sym, ap, ◌∙◌, arith}
use Rattle.std.specs.Prelude.{bytes_eq, replicate, not}
use Rattle.std.specs.Option.{option_or, option_copied}
use Rattle.std.proofs.lemmas.List.{length-map, append-nil, append_assoc}
use Rattle.std.proofs.lemmas.Grind.{flat_map-append}
use Rattle.exact_math.specs.Rational.{ℚ}
use Rattle.mps_fields.specs.Reading.{number_of}
use Rattle.mps_model.specs.declared.fault.FaultKind.{FaultKind}
use Rattle.mps_model.specs.declared.fault.FaultKind.TheVariants as faults
use Rattle.mps_model.specs.declared.tables.sides.SideTable.{SideTable}
use Rattle.mps_model.specs.Tables.{RowLine, Pair, PairLine}
use Rattle.mps_model.specs.Sides.{number_beside, pairs_of}
use Rattle.mps_model.specs.FaultRules.{first_holding, is_among, is_not_number, is_wide_number}
use Rattle.mps_model.specs.RowFaults.{row_names}
use Rattle.mps_model.specs.PairFaults.{pair_fault, pairs_fault, pair_names, first_label, set_fault}
use Rattle.mps_model.specs.KeptSides.{opening_fault, names_in, padded, KeepsPairs}
use Rattle.mps_model.proofs.OnTables.PairLaws.{or_none}

-- ---- what is judged

-- the rule asks of the names that are taken only whether the pair's is among them
abbrev pub AsksOfName : (List (List ℕ) → Pair → Option FaultKind) → Type 0
AsksOfName rule = (taken other : List (List ℕ)) (pair : Pair) → is_among taken pair.name ≡ is_among other pair.name → rule taken pair ≡ rule other pair

among_last : (name other : List ℕ) (names : List (List ℕ)) → is_among (names ++ name ∷ []) other ≡ is_among (name ∷ names) other
among_last name other [] = refl
among_last name other (x ∷ xs) = ap (λ b. bytes_eq other x || b) (among_last name other xs) ∙ or_swap (bytes_eq other x) (bytes_eq other name) (is_among xs other)
  where
    or_swap : (a b c : Bool) → (a || (b || c)) ≡ (b || (a || c))
    or_swap true true c = refl
    or_swap true false c = refl
    or_swap false true c = refl
    or_swap false false c = refl

names_push : (pairs : List Pair) (pair : Pair) → names_in (pairs ++ pair ∷ []) ≡ names_in pairs ++ pair.name ∷ []
names_push [] pair = refl
names_push (x ∷ xs) pair = ap (λ names. x.name ∷ names) (names_push xs pair)

module _ (rule : List (List ℕ) → Pair → Option FaultKind) (asks : AsksOfName rule) (lines : List PairLine) (line : PairLine)
    (fine : opening_fault (first_label lines) (Some line) ≡ None) where
  opened : set_fault rule lines (Some line) ≡ pairs_fault rule (pair_names lines) line.pairs
  opened = ap (λ o. option_or o (pairs_fault rule (pair_names lines) line.pairs)) fine

  -- the fault of the first pair is the line's
  pub first_pair : (pair : Pair) (rest : List Pair) (kind : FaultKind) → line.pairs ≡ pair ∷ rest → rule (pair_names lines) pair ≡ Some kind → set_fault rule lines (Some line) ≡ Some kind
  unfolding pairs_fault
  first_pair pair rest kind are h =
      opened ∙ ap (pairs_fault rule (pair_names lines)) are ∙ ap (λ o. option_or o (pairs_fault rule (pair.name ∷ pair_names lines) rest)) h

  -- of a line of one pair
  pub one_pair : (pair : Pair) → line.pairs ≡ pair ∷ [] → rule (pair_names lines) pair ≡ None → set_fault rule lines (Some line) ≡ None
  unfolding pairs_fault
  one_pair pair are h = opened ∙ ap (pairs_fault rule (pair_names lines)) are ∙ or_none (rule (pair_names lines) pair) ∙ h

  -- of a line of two pairs, whose first has no fault
  pub two_pairs : (pair other : Pair) → line.pairs ≡ pair ∷ other ∷ [] → rule (pair_names lines) pair ≡ None
      → rule (names_in (pairs_of lines ++ pair ∷ [])) other ≡ set_fault rule lines (Some line)
  unfolding pairs_fault
  two_pairs pair other are h = sym (
      opened ∙ ap (pairs_fault rule (pair_names lines)) are ∙ ap (λ o. option_or o (pairs_fault rule (pair.name ∷ pair_names lines) (other ∷ []))) h
      ∙ or_none (rule (pair.name ∷ pair_names lines) other)
      ∙ asks (pair.name ∷ pair_names lines) (names_in (pairs_of lines ++ pair ∷ [])) other
      (sym (among_last pair.name other.name (pair_names lines)) ∙ ap (λ names. is_among names other.name) (sym (names_push (pairs_of lines) pair))))

pub pair_asks : (rows : List RowLine) → AsksOfName (pair_fault rows)
pair_asks rows taken other pair e =
    ap (λ b. first_holding (
    (not (is_among (row_names rows) pair.name), faults.UnknownRow)
    ∷ (is_not_number (number_of pair.number), faults.NotNumber)
    ∷ (is_wide_number (number_of pair.number), faults.WideNumber)
    ∷ (b, faults.Duplicate)
    ∷ [])) e

-- ---- what is kept

label_push : (lines : List PairLine) (line : PairLine) → first_label (lines ++ line ∷ []) ≡ option_or (first_label lines) (Some line.label)
label_push [] line = refl
label_push (x ∷ xs) line = refl

copied_or : (o : Option (Bor (List ℕ))) (label : Bor (List ℕ)) → option_copied (option_or o (Some label)) ≡ option_or (option_copied o) (Some label.now)
copied_or None label = refl
copied_or (Some x) label = refl

pub pairs_push : (lines : List PairLine) (line : PairLine) → pairs_of (lines ++ line ∷ []) ≡ pairs_of lines ++ line.pairs
pairs_push lines line = flat_map-append (λ other. other.pairs) lines (line ∷ []) ∙ ap (λ pairs. pairs_of lines ++ pairs) (append-nil line.pairs)

nothing_behind : {X : Type 0} (n : ℕ) (x : X) → replicate (n - n) x ≡ []
nothing_behind n x = let e : n - n ≡ 0 = omega arith in ap (λ m. replicate m x) e

-- a full table is not padded
pub full : {X : Type 0} (xs : List X) (f : X → Option ℚ) (numbers : List (Option ℚ)) → numbers ≡ map f xs → padded (length xs) numbers ≡ map f xs
full xs f numbers e = rw (e, length-map xs f) (ap (λ rest. map f xs ++ rest) (nothing_behind (length xs) None) ∙ append-nil (map f xs))

nones : {X : Type 0} (xs : List X) → replicate {A = Option ℚ} (length xs) None ≡ map (λ (x : X). None) xs
nones [] = refl
nones (x ∷ xs) = ap (λ rest. None ∷ rest) (nones xs)

-- an empty table is padded with nothing at all
pub none_kept : {X : Type 0} (xs : List X) → padded (length xs) [] ≡ map (λ (x : X). None) xs
none_kept xs = let e : length xs - 0 ≡ length xs = omega arith in ap (λ n. replicate n None) e ∙ nones xs

-- the table before the first line
pub keeps_none : (names : List (List ℕ)) (table : SideTable) → table.set ≡ None → table.numbers.items ≡ [] → KeepsPairs names [] table
keeps_none names table no_set no_numbers = record {
  set = ap option_copied no_set;
  numbers = rw no_numbers (none_kept names);
}

-- the set name behind one more line
pub label_kept : (lines : List PairLine) (line : PairLine) (label : Bor (List ℕ)) (old new : SideTable) → option_copied old.set ≡ first_label lines
    → line.label ≡ label.now → new.set ≡ option_or old.set (Some label) → option_copied new.set ≡ first_label (lines ++ line ∷ [])
label_kept lines line label old new kept same set =
    ap option_copied set ∙ copied_or old.set label ∙ ap (λ o. option_or o (Some label.now)) kept ∙ ap (λ l. option_or (first_label lines) (Some l)) (sym same)
    ∙ sym (label_push lines line)

-- the table with one more line
pub keeps_line : (names : List (List ℕ)) (lines : List PairLine) (line : PairLine) (label : Bor (List ℕ)) (old new : SideTable) → KeepsPairs names lines old
    → line.label ≡ label.now → new.set ≡ option_or old.set (Some label) → new.numbers.items ≡ map (number_beside (pairs_of lines ++ line.pairs)) names
    → KeepsPairs names (lines ++ line ∷ []) new
keeps_line names lines line label old new kept same set numbers = record {
  set = label_kept lines line label old new kept.set same set;
  numbers =
      full names (number_beside (pairs_of lines ++ line.pairs)) new.numbers.items numbers
      ∙ ap (λ pairs. map (number_beside pairs) names) (sym (pairs_push lines line));
}

-- where there is room for each name, the numbers are those of the names
pub room_made : (names : List (List ℕ)) (rows : List RowLine) (lines : List PairLine) (old : SideTable) (numbers : List (Option ℚ)) (count : ℕ) → names ≡ row_names rows
    → KeepsPairs names lines old → count ≡ length rows → numbers ≡ old.numbers.items ++ replicate (count - length old.numbers.items) None
    → numbers ≡ map (number_beside (pairs_of lines)) names
room_made names rows lines old numbers count are kept is_count made =
    let long : count ≡ length names = is_count ∙ sym (length-map rows (λ row. row.name)) ∙ ap length (sym are) in
    made ∙ ap (λ n. old.numbers.items ++ replicate (n - length old.numbers.items) None) long ∙ kept.numbers

-- two pairs behind the others are the line's
pub both_pairs : {X : Type 0} (f : List Pair → X) (lines : List PairLine) (line : PairLine) (pair other : Pair) → line.pairs ≡ pair ∷ other ∷ []
    → f ((pairs_of lines ++ pair ∷ []) ++ other ∷ []) ≡ f (pairs_of lines ++ line.pairs)
both_pairs f lines line pair other are = ap f (append_assoc (pairs_of lines) (pair ∷ []) (other ∷ []) ∙ ap (λ pairs. pairs_of lines ++ pairs) (sym are))
