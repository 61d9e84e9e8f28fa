-- The items of lifted multipliers: what they come to, and that their numbers rise.
use Rattle.std.proofs.Common.{◌≡◌, ◌≢◌, ℕ, zero, suc, ◌+◌, ◌<◌, ◌≤◌, true, false, pos, List, [], ◌∷◌, ◌++◌, length, get_or, map, refl, sym, ap, ap₂, ◌∙◌, arith, All}
use Rattle.std.specs.Prelude.{int_lt, ⊤}
use Rattle.std.specs.Ordering.{int_eq}
use Rattle.std.specs.List.Sorted.{IsStrictlyIncreasing}
use Rattle.std.proofs.lemmas.Bool.{cond_both}
use Rattle.std.proofs.lemmas.Bool.Decides.{Decides-int_eq, not_from_Decides}
use Rattle.std.proofs.lemmas.Int.{ints}
use Rattle.std.proofs.lemmas.List.Elements.{All-nil, All-cons, All-append, All-head, All-tail}
use Rattle.exact_math.specs.Rational.{ℚ, whole, neg_ℚ, ◌+ℚ◌, ◌*ℚ◌, ◌≤ℚ◌, ◌<ℚ◌}
use Rattle.exact_math.specs.RationalLaws.{zero_from_num}
use Rattle.exact_math.specs.RationalOrder.{pos_from_num, num_nonneg}
use Rattle.exact_math.specs.RationalRing.{rationals}
use Rattle.exact_math.specs.RingLaws as Laws
use Rattle.exact_math.specs.RingSolver.{ring, reads}
use Rattle.exact_vectors.specs.Vectors.{dot}
use Rattle.exact_vectors.specs.DotLaws as Dot
use Rattle.farkas_rows.specs.declared.fracs.FracUse.{FracUse}
use Rattle.presolve_map.specs.LiftedLines.{total, numbers_of}
use Rattle.row_lifting.specs.Lifting.{none}
use Rattle.farkas_lift.specs.Joined.{joined}
use Rattle.farkas_lift.specs.NodeLifting.{side_use, equality_use, uses_of}
use Rattle.farkas_lift.specs.declared.place.Place.{Place}
use Rattle.farkas_lift.specs.declared.place.Place.TheVariants.{Side, Equality}

-- the numbers of the sides among places, and those of the equalities
abbrev pub sides_in : List Place → List ℕ
sides_in [] = []
sides_in (Side number ∷ places) = number ∷ sides_in places
sides_in (Equality number ∷ places) = sides_in places

abbrev pub equalities_in : List Place → List ℕ
equalities_in [] = []
equalities_in (Side number ∷ places) = equalities_in places
equalities_in (Equality number ∷ places) = number ∷ equalities_in places

pub sides_in-append : (xs ys : List Place) → sides_in (xs ++ ys) ≡ sides_in xs ++ sides_in ys
sides_in-append [] ys = refl
sides_in-append (Side number ∷ xs) ys = ap (λ (l : List ℕ). number ∷ l) (sides_in-append xs ys)
sides_in-append (Equality number ∷ xs) ys = sides_in-append xs ys

pub equalities_in-append : (xs ys : List Place) → equalities_in (xs ++ ys) ≡ equalities_in xs ++ equalities_in ys
equalities_in-append [] ys = refl
equalities_in-append (Side number ∷ xs) ys = equalities_in-append xs ys
equalities_in-append (Equality number ∷ xs) ys = ap (λ (l : List ℕ). number ∷ l) (equalities_in-append xs ys)

pub sides_in-joined : (part : ℕ → List Place) (count : ℕ) → sides_in (joined part count) ≡ joined (λ i. sides_in (part i)) count
sides_in-joined part zero = refl
sides_in-joined part (suc count) = sides_in-append (joined part count) (part count) ∙ ap (λ l. l ++ sides_in (part count)) (sides_in-joined part count)

pub equalities_in-joined : (part : ℕ → List Place) (count : ℕ) → equalities_in (joined part count) ≡ joined (λ i. equalities_in (part i)) count
equalities_in-joined part zero = refl
equalities_in-joined part (suc count) = equalities_in-append (joined part count) (part count) ∙ ap (λ l. l ++ equalities_in (part count)) (equalities_in-joined part count)

-- ---- what the items come to

pub total-append : (value : ℕ → ℚ) (xs ys : List FracUse) → total value (xs ++ ys) ≡ total value xs +ℚ total value ys
total-append value [] ys = sym (Laws.zero_add rationals (total value ys))
total-append value (x ∷ xs) ys = ap (λ z. x.times *ℚ value x.index +ℚ z) (total-append value xs ys) ∙ sym (rationals.add_assoc (x.times *ℚ value x.index) (total value xs) (total value ys))

-- one item alone
alone : (a : ℚ) → a +ℚ none ≡ a
alone a = rationals.add_zero a

pub total-side : (value : ℕ → ℚ) (number : ℕ) (times : ℚ) → total value (side_use number times) ≡ times *ℚ value number
total-side value number times =
    cond_both (int_eq times.num (pos 0)) [] (record { index = number; times = times } ∷ []) (λ l. total value l ≡ times *ℚ value number)
    (λ e. sym (ap (λ t. t *ℚ value number) (zero_from_num times ((Decides-int_eq times.num (pos 0)).0 e)) ∙ Laws.zero_mul rationals (value number)))
    (λ e. alone (times *ℚ value number))

turned : (t v : ℚ) → neg_ℚ t *ℚ neg_ℚ v +ℚ none ≡ t *ℚ v
turned t v = ring rationals (t ∷ v ∷ []) (search reads depth 30) (search reads depth 30) refl

pub total-equality : (value : ℕ → ℚ) (number : ℕ) (times : ℚ) → value (number + 1) ≡ neg_ℚ (value number) → total value (equality_use number times) ≡ times *ℚ value number
total-equality value number times other =
    cond_both (int_lt times.num (pos 0)) (record { index = number + 1; times = neg_ℚ times } ∷ []) (side_use number times) (λ l. total value l ≡ times *ℚ value number)
    (λ e. ap (λ v. neg_ℚ times *ℚ v +ℚ none) other ∙ turned times (value number))
    (λ e. total-side value number times)

-- the lower side of an equality has the value of the upper one with the other sign
abbrev pub IsTurned : (ℕ → ℚ) → Place → Type 0
IsTurned value (Side number) = ⊤
IsTurned value (Equality number) = value (number + 1) ≡ neg_ℚ (value number)

first_sum : (a b c d : ℚ) → a +ℚ (b +ℚ c) ≡ (a +ℚ b) +ℚ c
first_sum a b c d = sym (rationals.add_assoc a b c)

second_sum : (a b c : ℚ) → a +ℚ (b +ℚ c) ≡ b +ℚ (a +ℚ c)
second_sum a b c = Laws.add_left_comm rationals a b c

pub uses-total : (value : ℕ → ℚ) (places : List Place) (weights times : List ℚ) → length (sides_in places) ≤ length weights → length (equalities_in places) ≤ length times → All (IsTurned value) places
    → total value (uses_of places weights times) ≡ dot rationals weights (map value (sides_in places)) +ℚ dot rationals times (map value (equalities_in places))
uses-total value [] weights times h k turn = sym (ap₂ (λ a b. a +ℚ b) (Dot.dot-nil_right rationals weights) (Dot.dot-nil_right rationals times) ∙ rationals.add_zero none)
uses-total value (Side number ∷ places) [] times h k turn = absurd (omega arith)
uses-total value (Side number ∷ places) (w ∷ weights) times h k turn =
    total-append value (side_use number w) (uses_of places weights times)
    ∙ ap₂ (λ a b. a +ℚ b) (total-side value number w) (uses-total value places weights times (omega arith) k (All-tail (IsTurned value) (Side number) places turn))
    ∙ first_sum (w *ℚ value number) (dot rationals weights (map value (sides_in places))) (dot rationals times (map value (equalities_in places))) none
uses-total value (Equality number ∷ places) weights [] h k turn = absurd (omega arith)
uses-total value (Equality number ∷ places) weights (t ∷ times) h k turn =
    total-append value (equality_use number t) (uses_of places weights times)
    ∙ ap₂ (λ a b. a +ℚ b) (total-equality value number t (All-head (IsTurned value) (Equality number) places turn)) (uses-total value places weights times h (omega arith) (All-tail (IsTurned value) (Equality number) places turn))
    ∙ second_sum (t *ℚ value number) (dot rationals weights (map value (sides_in places))) (dot rationals times (map value (equalities_in places)))

-- ---- what holds of each item

module _ (P : FracUse → Type 0) (OfSide : ℕ → Type 0) (side : (number : ℕ) (times : ℚ) → OfSide number → whole (pos 0) <ℚ times → P (record { index = number; times = times })) where
  -- of an item, where it holds at the number of its place
  abbrev pub AtPlace : Place → Type 0
  AtPlace (Side number) = OfSide number
  AtPlace (Equality number) = OfSide number × OfSide (number + 1)

  above : (t : ℚ) → int_eq t.num (pos 0) ≡ false → int_lt t.num (pos 0) ≡ false → whole (pos 0) <ℚ t
  above t e f = let ne : t.num ≢ pos 0 = not_from_Decides (int_eq t.num (pos 0)) (Decides-int_eq t.num (pos 0)) e in pos_from_num t (omega (arith, ints, ne))

  above_weight : (t : ℚ) → int_eq t.num (pos 0) ≡ false → whole (pos 0) ≤ℚ t → whole (pos 0) <ℚ t
  above_weight t e h = let ne : t.num ≢ pos 0 = not_from_Decides (int_eq t.num (pos 0)) (Decides-int_eq t.num (pos 0)) e in let s = num_nonneg t h in pos_from_num t (omega (arith, ints, ne))

  below : (t : ℚ) → int_lt t.num (pos 0) ≡ true → whole (pos 0) <ℚ neg_ℚ t
  unfolding neg_ℚ
  below t e = pos_from_num (neg_ℚ t) (omega (arith, ints))

  side-each : (number : ℕ) (times : ℚ) → OfSide number → whole (pos 0) ≤ℚ times → All P (side_use number times)
  side-each number times h k =
      cond_both (int_eq times.num (pos 0)) [] (record { index = number; times = times } ∷ []) (All P) (λ e. All-nil P) (λ e. All-cons P _ [] (side number times h (above_weight times e k)) (All-nil P))

  equality-each : (number : ℕ) (times : ℚ) → OfSide number × OfSide (number + 1) → All P (equality_use number times)
  equality-each number times h =
      cond_both (int_lt times.num (pos 0)) (record { index = number + 1; times = neg_ℚ times } ∷ []) (side_use number times) (All P)
      (λ e. All-cons P _ [] (side (number + 1) (neg_ℚ times) h.1 (below times e)) (All-nil P))
      (λ f. cond_both (int_eq times.num (pos 0)) [] (record { index = number; times = times } ∷ []) (All P) (λ e. All-nil P) (λ e. All-cons P _ [] (side number times h.0 (above times e f)) (All-nil P)))

  pub uses-each : (places : List Place) (weights times : List ℚ) → All AtPlace places → All (λ w. whole (pos 0) ≤ℚ w) weights → All P (uses_of places weights times)
  uses-each [] weights times h k = All-nil P
  uses-each (Side number ∷ places) [] times h k = All-nil P
  uses-each (Side number ∷ places) (w ∷ weights) times h k =
      All-append P (side_use number w) (uses_of places weights times) (side-each number w (All-head AtPlace (Side number) places h) (All-head (λ v. whole (pos 0) ≤ℚ v) w weights k))
      (uses-each places weights times (All-tail AtPlace (Side number) places h) (All-tail (λ v. whole (pos 0) ≤ℚ v) w weights k))
  uses-each (Equality number ∷ places) weights [] h k = All-nil P
  uses-each (Equality number ∷ places) weights (t ∷ times) h k =
      All-append P (equality_use number t) (uses_of places weights times) (equality-each number t (All-head AtPlace (Equality number) places h)) (uses-each places weights times (All-tail AtPlace (Equality number) places h) k)

-- ---- the numbers rise

-- the places have rising numbers from `low` on, and end below `high`
abbrev pub Within : ℕ → ℕ → List Place → Type 0
Within low high [] = low ≤ high
Within low high (Side number ∷ places) = (low ≤ number) × Within (number + 1) high places
Within low high (Equality number ∷ places) = (low ≤ number) × Within (number + 2) high places

pub Within-append : (low middle high : ℕ) (xs ys : List Place) → Within low middle xs → Within middle high ys → Within low high (xs ++ ys)
Within-append low middle high [] [] h k = omega arith
Within-append low middle high [] (Side number ∷ ys) h k = (omega (arith, k.0), k.1)
Within-append low middle high [] (Equality number ∷ ys) h k = (omega (arith, k.0), k.1)
Within-append low middle high (Side number ∷ xs) ys h k = (h.0, Within-append (number + 1) middle high xs ys h.1 k)
Within-append low middle high (Equality number ∷ xs) ys h k = (h.0, Within-append (number + 2) middle high xs ys h.1 k)

pub Within-joined : (bound : ℕ → ℕ) (part : ℕ → List Place) (count : ℕ) → ((i : ℕ) → i < count → Within (bound i) (bound (suc i)) (part i)) → Within (bound 0) (bound count) (joined part count)
Within-joined bound part zero h = omega arith
Within-joined bound part (suc count) h = Within-append (bound 0) (bound count) (bound (suc count)) (joined part count) (part count) (Within-joined bound part count (λ i lt. h i (omega arith))) (h count (omega arith))

-- the numbers rise from `low` on
abbrev pub RisesFrom : ℕ → List ℕ → Type 0
RisesFrom low [] = ⊤
RisesFrom low (number ∷ numbers) = (low ≤ number) × RisesFrom (number + 1) numbers

rises-lower : (low high : ℕ) (numbers : List ℕ) → low ≤ high → RisesFrom high numbers → RisesFrom low numbers
rises-lower low high [] h r = tt
rises-lower low high (number ∷ numbers) h r = (omega (arith, r.0), r.1)

rises-cons : (a b : ℕ) (numbers : List ℕ) → a < b → ((k : ℕ) → k + 1 < length (b ∷ numbers) → get_or (b ∷ numbers) k 0 < get_or (b ∷ numbers) (k + 1) 0) → (k : ℕ) → k + 1 < length (a ∷ b ∷ numbers) → get_or (a ∷ b ∷ numbers) k 0 < get_or (a ∷ b ∷ numbers) (k + 1) 0
rises-cons a b numbers lt rest zero h = lt
rises-cons a b numbers lt rest (suc k) h = let next : suc k + 1 ≡ suc (k + 1) = omega arith in rw next (rest k (omega arith))

pub rising : (low : ℕ) (numbers : List ℕ) → RisesFrom low numbers → IsStrictlyIncreasing numbers
rising low [] r = λ k h. absurd (omega arith)
rising low (a ∷ []) r = λ k h. absurd (omega arith)
rising low (a ∷ b ∷ numbers) r = rises-cons a b numbers (omega (arith, r.1.0)) (rising (a + 1) (b ∷ numbers) r.1)

-- an item in front
side-rises : (low number : ℕ) (times : ℚ) (rest : List FracUse) → low ≤ number → RisesFrom (number + 1) (numbers_of rest) → RisesFrom low (numbers_of (side_use number times ++ rest))
side-rises low number times rest h r =
    cond_both (int_eq times.num (pos 0)) [] (record { index = number; times = times } ∷ []) (λ (l : List FracUse). RisesFrom low (numbers_of (l ++ rest)))
    (λ e. rises-lower low (number + 1) (numbers_of rest) (omega arith) r) (λ e. (h, r))

equality-rises : (low number : ℕ) (times : ℚ) (rest : List FracUse) → low ≤ number → RisesFrom (number + 2) (numbers_of rest) → RisesFrom low (numbers_of (equality_use number times ++ rest))
equality-rises low number times rest h r =
    cond_both (int_lt times.num (pos 0)) (record { index = number + 1; times = neg_ℚ times } ∷ []) (side_use number times) (λ (l : List FracUse). RisesFrom low (numbers_of (l ++ rest)))
    (λ e. (omega arith, rises-lower (number + 1 + 1) (number + 2) (numbers_of rest) (omega arith) r))
    (λ e. side-rises low number times rest h (rises-lower (number + 1) (number + 2) (numbers_of rest) (omega arith) r))

pub uses-rise : (low high : ℕ) (places : List Place) (weights times : List ℚ) → Within low high places → RisesFrom low (numbers_of (uses_of places weights times))
uses-rise low high [] weights times w = tt
uses-rise low high (Side number ∷ places) [] times w = tt
uses-rise low high (Side number ∷ places) (v ∷ weights) times w = side-rises low number v (uses_of places weights times) w.0 (uses-rise (number + 1) high places weights times w.1)
uses-rise low high (Equality number ∷ places) weights [] w = tt
uses-rise low high (Equality number ∷ places) weights (t ∷ times) w = equality-rises low number t (uses_of places weights times) w.0 (uses-rise (number + 2) high places weights times w.1)
