-- Steps of the functions that put a gap together.
use Rattle.std.proofs.Common.{◌≡◌, ◌≢◌, ℕ, suc, ◌+◌, ◌-◌, ◌^◌, ◌<◌, ◌≤◌, Bool, true, false, not, ℤ, pos, negsuc, neg_ℤ, nat_abs, ◌+ℤ◌, ◌-ℤ◌, ◌*ℤ◌, ◌≤ℤ◌, ◌<ℤ◌, List, [], ◌∷◌, ◌++◌, length, map, get_or, set, take, sym, ap, ap₂, subst, subst₂, ◌∙◌, arith, All}
use Rattle.std.specs.Int.{w128}
use Rattle.std.specs.Int.Signed.{lt_z, lt_z_yes, lt_z_no}
use Rattle.std.specs.Prelude.{FitsSigned, IfErr, IsErrAnd, Result, Ok, Err}
use Rattle.std.proofs.lemmas.Float.{T_from_true}
use Rattle.std.proofs.lemmas.Int.{fits_signed_from_abs}
use Rattle.std.proofs.lemmas.List.{append_assoc, length-map, map_more, take-map, take_all}
use Rattle.std.proofs.lemmas.List.Elements.{All-more}
use Rattle.exact_math.specs.GcdLaws.{nat_abs-neg_ℤ}
use Rattle.exact_math.specs.IntegerLaws.{zero_add}
use Rattle.exact_math.specs.IntegerRing.{linear}
use Rattle.exact_math.specs.Rational.{ℚ, whole}
use Rattle.exact_math.specs.Ring.{integers}
use Rattle.exact_vectors.specs.Range.{StaysInRange}
use Rattle.exact_vectors.specs.Vectors.{dot, zeros}
use Rattle.row_lifting.specs.Lifting.{lifted, wholes, LiftStays, SumsTo}
use Rattle.row_lifting.specs.Stops.{StopsUnless}
use Rattle.row_lifting.specs.declared.stop.LiftStop.{LiftStop}
use Rattle.reformulate.proofs.Denominators.{common-is, above_zero}
use Rattle.reformulate.proofs.GapSteps.{are_times}
use Rattle.reformulate.proofs.ShowingSteps.{length-remainder, sign_of_rest, stop-weaker}
use Rattle.reformulate.specs.GapTimes.{all_times, common_denominator, multipliers_of, remainder_of, sign_of, time_of, times_of, AreTimes, GapStays, IsSignOf, Lacks, RaisedStays, RemainderStays, RowStays, TimesStay}
use Rattle.reformulate.specs.Gaps.{forms_of, raised, sides_of, IsCeiling, IsFirst, IsNearest}
use Rattle.reformulate.specs.declared.equality.Equality.{Equality}
use Rattle.reformulate.specs.declared.miss.Miss.{Miss}

-- ---- the sign, by the test of what is left

negative_by : (r : ℤ) → lt_z r (pos 0) ≡ true → r <ℤ pos 0
negative_by r t = lt_z_yes {a = r} {b = pos 0} (T_from_true (lt_z r (pos 0)) t)

other_by : (r : ℤ) → lt_z r (pos 0) ≡ false → pos 0 ≤ℤ r
other_by r f = lt_z_no {a = r} {b = pos 0} (T_from_true (not (lt_z r (pos 0))) (ap not f))

pub sign_by_test : (miss : Miss) → miss.value ≡ pos 0 → ((q : ℤ) → miss.value *ℤ q ≢ miss.rest) → IsSignOf miss (lt_z miss.rest (pos 0))
sign_by_test miss e none = sign_of_rest miss (lt_z miss.rest (pos 0)) e none (negative_by miss.rest) (other_by miss.rest)

-- ---- the common denominator

-- a positive number in range
pub small_size : (z : ℤ) → pos 0 <ℤ z → FitsSigned w128 z → nat_abs z < 2 ^ 127
small_size (pos n) h f = f.sfits
small_size (negsuc n) h f = absurd (omega (linear, h))

-- a number of such a size, with the other sign
pub turned_fits : (z : ℤ) → nat_abs z < 2 ^ 127 → FitsSigned w128 (pos 0 +ℤ neg_ℤ z)
turned_fits z h = fits_signed_from_abs w128 (pos 0 +ℤ neg_ℤ z) (subst (λ k. k < 2 ^ 127) (sym (ap nat_abs (zero_add (neg_ℤ z)) ∙ nat_abs-neg_ℤ z)) h)

pub positive_common : (m : List ℚ) (z : ℤ) → z ≡ pos (common_denominator m) → pos 0 <ℤ z
positive_common m z e = subst (λ y. pos 0 <ℤ y) (sym e) (above_zero (common_denominator m) (common-is m).positive)

-- ---- whole times

pub times-more : (negative : Bool) (common : ℕ) (m : List ℚ) (i : ℕ) (q : ℚ) (time : ℤ) (times pushed : List ℤ) → i < length m → q ≡ get_or m i q → times ≡ map (time_of negative common) (take i m) → time ≡ time_of negative common q → pushed ≡ times ++ time ∷ []
    → pushed ≡ map (time_of negative common) (take (i + 1) m)
times-more negative common m i q time times pushed lt is done e p =
    p ∙ ap₂ (λ (l : List ℤ) (z : ℤ). l ++ z ∷ []) done (e ∙ ap (time_of negative common) is) ∙ sym (map_more (time_of negative common) m i q lt)

pub times_fit-more : (negative : Bool) (common : ℕ) (m : List ℚ) (i : ℕ) (q : ℚ) → i < length m → q ≡ get_or m i q → All (λ (p : ℚ). FitsSigned w128 (time_of negative common p)) (take i m) → FitsSigned w128 (time_of negative common q)
    → All (λ (p : ℚ). FitsSigned w128 (time_of negative common p)) (take (i + 1) m)
times_fit-more negative common m i q lt is all fits = All-more (λ (p : ℚ). FitsSigned w128 (time_of negative common p)) m i q lt all (subst (λ (p : ℚ). FitsSigned w128 (time_of negative common p)) is fits)

-- the time of the equality itself, and zeros behind it
pub times_all : (negative : Bool) (common sign : ℤ) (m : List ℚ) (i later : ℕ) (times before all : List ℤ) → common ≡ pos (common_denominator m) → length m ≤ i → times ≡ map (time_of negative (nat_abs common)) (take i m) → sign ≡ sign_of negative *ℤ common
    → before ≡ times ++ sign ∷ [] → all ≡ before ++ zeros integers later → all ≡ times_of negative m later
times_all negative common sign m i later times before all is past done s b a =
    a ∙ ap (λ (l : List ℤ). l ++ zeros integers later) (b ∙ ap₂ (λ (l : List ℤ) (z : ℤ). l ++ z ∷ []) earlier (s ∙ ap (λ z. sign_of negative *ℤ z) is))
    ∙ append_assoc (map (time_of negative (common_denominator m)) m) ((sign_of negative *ℤ pos (common_denominator m)) ∷ []) (zeros integers later)
  where
    earlier : times ≡ map (time_of negative (common_denominator m)) m
    earlier = done ∙ ap₂ (λ (k : ℕ) (l : List ℚ). map (time_of negative k) l) (ap nat_abs is) (take_all i m past)

pub times_stay : (negative : Bool) (common : ℤ) (m : List ℚ) (i : ℕ) → common_denominator m < 2 ^ 127 → common ≡ pos (common_denominator m) → length m ≤ i → All (λ (q : ℚ). FitsSigned w128 (time_of negative (nat_abs common) q)) (take i m) → TimesStay negative m
times_stay negative common m i small is past all = record {
  common = small;
  times = subst₂ (λ (k : ℕ) (l : List ℚ). All (λ (q : ℚ). FitsSigned w128 (time_of negative k q)) l) (ap nat_abs is) (take_all i m past) all;
}

-- ---- the remainder's length

pub entries_wide : (form row : List ℤ) (value : ℤ) (entries : List ℚ) (width : ℕ) → length row ≡ length form → entries ≡ wholes (remainder_of form value row) → width ≡ length form → length entries ≡ width
entries_wide form row value entries width e is w = ap length is ∙ length-map (remainder_of form value row) whole ∙ length-remainder form row value e ∙ sym w

-- ---- the ceiling

pub ceiling_is : (side number divisor ceiling lo : ℤ) → side ≡ number → (divisor *ℤ (ceiling -ℤ pos 1)) <ℤ side → side ≤ℤ (divisor *ℤ ceiling) → IsNearest ceiling lo → IsCeiling number divisor lo
ceiling_is side number divisor ceiling lo e above below brought = record {
  ceiling = ceiling;
  above = subst (λ z. (divisor *ℤ (ceiling -ℤ pos 1)) <ℤ z) e above;
  below = subst (λ z. z ≤ℤ (divisor *ℤ ceiling)) e below;
  brought = brought;
}

-- ---- what is shown

-- the same, from what a call answers
pub residual_stop : {A : Type 0} (r : Result A LiftStop) (stop : LiftStop) (Weak Strong : Type 0) → (Strong → Weak) → StopsUnless Weak stop → IsErrAnd r (λ e. e ≡ stop) → IfErr r (StopsUnless Strong)
residual_stop (Ok x) stop Weak Strong f h e = tt
residual_stop (Err s) stop Weak Strong f h e = subst (StopsUnless Strong) (sym e) (stop-weaker Weak Strong stop f h)

-- the forms of the equalities before one
pub forms_before : (equalities : List Equality) (at : ℕ) → forms_of (take at equalities) ≡ take at (forms_of equalities)
forms_before equalities at = sym (take-map (λ (e : Equality). e.form) at equalities)

-- what the multipliers belong to
abbrev Carries : List (List ℤ) → List ℚ → List ℚ → Type 0
Carries before row fractions = (m : List ℚ) → SumsTo before row m → SumsTo before row fractions

pub shown_times : (n : ℕ) (equalities : List Equality) (at : ℕ) (miss : Miss) (negative : Bool) (form row : List ℤ) (fractions : List ℚ) (times : List ℤ) → Lacks n equalities at miss → IsSignOf miss negative → form ≡ get_or (forms_of equalities) at [] → row ≡ miss.row
    → ((m : List ℚ) → SumsTo (forms_of (take at equalities)) (wholes (remainder_of form miss.value row)) m → SumsTo (forms_of (take at equalities)) (wholes (remainder_of form miss.value row)) fractions)
    → times ≡ times_of negative fractions (length equalities - at - 1) → AreTimes n equalities at miss times
shown_times n equalities at miss negative form row fractions times h sign form_is row_is sums is =
    let w : wholes (remainder_of form miss.value row) ≡ wholes (remainder_of (get_or (forms_of equalities) at []) miss.value miss.row) = ap₂ (λ (x y : List ℤ). wholes (remainder_of x miss.value y)) form_is row_is in
    let carried : Carries (take at (forms_of equalities)) (wholes (remainder_of (get_or (forms_of equalities) at []) miss.value miss.row)) fractions =
    subst₂ (λ (b : List (List ℤ)) (v : List ℚ). Carries b v fractions) (forms_before equalities at) w sums in
    are_times n equalities at miss negative fractions times h sign (carried h.spanned.0 h.spanned.1) (is ∙ ap (times_of negative fractions) (count (length equalities) at))
  where
    count : (a b : ℕ) → a - b - 1 ≡ a - suc b
    count a b = omega arith

pub multipliers_are : (equalities : List Equality) (at : ℕ) (miss : Miss) (form row : List ℤ) (fractions : List ℚ) → form ≡ get_or (forms_of equalities) at [] → row ≡ miss.row → fractions ≡ lifted (forms_of (take at equalities)) (wholes (remainder_of form miss.value row)) → fractions ≡ multipliers_of equalities at miss
multipliers_are equalities at miss form row fractions form_is row_is is = is ∙ ap₂ lifted (forms_before equalities at) (ap₂ (λ (x y : List ℤ). wholes (remainder_of x miss.value y)) form_is row_is)

pub times_are : (equalities : List Equality) (at : ℕ) (miss : Miss) (negative : Bool) (fractions : List ℚ) (times : List ℤ) → fractions ≡ multipliers_of equalities at miss → times ≡ times_of negative fractions (length equalities - at - 1) → times ≡ all_times equalities at miss negative
times_are equalities at miss negative fractions times f is = is ∙ ap₂ (λ (m : List ℚ) (k : ℕ). times_of negative m k) f (count (length equalities) at)
  where
    count : (a b : ℕ) → a - b - 1 ≡ a - suc b
    count a b = omega arith

-- ---- the ranges

pub lifting_stays : (equalities : List Equality) (at : ℕ) (miss : Miss) (negative : Bool) (form row : List ℤ) → form ≡ get_or (forms_of equalities) at [] → row ≡ miss.row → GapStays equalities at miss negative
    → RemainderStays form miss.value row × LiftStays (forms_of (take at equalities)) (wholes (remainder_of form miss.value row))
lifting_stays equalities at miss negative form row form_is row_is s = (
  subst₂ (λ (f r : List ℤ). RemainderStays f miss.value r) (sym form_is) (sym row_is) s.remainder,
  subst₂ (λ (b : List (List ℤ)) (w : List ℚ). LiftStays b w) (sym (forms_before equalities at)) (sym (ap₂ (λ (x y : List ℤ). wholes (remainder_of x miss.value y)) form_is row_is)) s.lifting,
)

pub times_stay_there : (equalities : List Equality) (at : ℕ) (miss : Miss) (negative : Bool) (fractions : List ℚ) → fractions ≡ multipliers_of equalities at miss → GapStays equalities at miss negative → TimesStay negative fractions
times_stay_there equalities at miss negative fractions f s = subst (TimesStay negative) (sym f) s.times

pub row_stays : (equalities : List Equality) (at : ℕ) (miss : Miss) (negative : Bool) (times : List ℤ) → times ≡ all_times equalities at miss negative → miss.value ≢ pos 0 → GapStays equalities at miss negative → RowStays equalities miss.value (get_or times at (pos 0)) times
row_stays equalities at miss negative times e some s = subst (λ (l : List ℤ). RowStays equalities miss.value (get_or l at (pos 0)) l) (sym e) (s.row some)

pub raised_stays : (equalities : List Equality) (at : ℕ) (miss : Miss) (negative : Bool) (times : List ℤ) → times ≡ all_times equalities at miss negative → miss.value ≡ pos 0 → GapStays equalities at miss negative → RaisedStays equalities times
raised_stays equalities at miss negative times e none s = subst (RaisedStays equalities) (sym e) (s.raised none)

-- the times with the divisor added
pub raised_is : (equalities : List Equality) (times : List ℤ) (place : ℕ) (item divisor time : ℤ) → item ≡ get_or times place (pos 0) → time ≡ item +ℤ divisor → set times place time ≡ raised place divisor times
raised_is equalities times place item divisor time i e = ap (set times place) (e ∙ ap (λ z. z +ℤ divisor) i)

pub raised_side_stays : (equalities : List Equality) (times : List ℤ) (place : ℕ) (divisor : ℤ) → IsFirst equalities place → divisor ≡ dot integers times (sides_of equalities) +ℤ pos 1 → RaisedStays equalities times → StaysInRange (pos 0) (raised place divisor times) (sides_of equalities)
raised_side_stays equalities times place divisor first e s = subst (λ d. StaysInRange (pos 0) (raised place d times) (sides_of equalities)) (sym e) (s.side place first)
