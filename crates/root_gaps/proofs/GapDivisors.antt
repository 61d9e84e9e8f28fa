-- No number but 1 divides the times of a gap and its divisor.
use Rattle.std.proofs.Common.{◌≡◌, ℕ, suc, ◌+◌, ◌-◌, ◌<◌, nat_abs, ℤ, pos, negsuc, neg_ℤ, ◌+ℤ◌, List, [], ◌∷◌, length, get_or, sym, ap, subst, ◌∙◌, arith, All, ⊎_elim}
use Rattle.std.specs.Int.{◌∣◌}
use Rattle.std.proofs.Math.Nat.{dvd-add, dvd-sub, eq-one_of_dvd-one}
use Rattle.std.proofs.lemmas.Bool.{cases_eq}
use Rattle.std.proofs.lemmas.List.{get_or-set_other, get_or-set_same, length-set}
use Rattle.std.proofs.lemmas.List.Elements.{All-cons, All-from_get_or, All-get_or, All-head, All-tail}
use Rattle.exact_math.specs.GcdLaws.{nat_abs-neg_ℤ}
use Rattle.exact_math.specs.IntegerRing.{linear}
use Rattle.exact_math.specs.Ring.{integers}
use Rattle.exact_vectors.specs.Vectors.{negate}
use Rattle.unimodular_pair.specs.Gathering.{common_divisor}
use Rattle.thin_forms.proofs.PartSteps.{divisor_greatest}
use Rattle.reformulate.specs.Gaps.{raised, IsGap, IsRaised}
use Rattle.reformulate.specs.declared.equality.Equality.{Equality}
use Rattle.reformulate.specs.declared.gap.Gap.{Gap}

-- ---- sums

-- what divides two numbers divides their sum
divides-sum : (g : ℕ) (x y : ℤ) → g ∣ nat_abs x → g ∣ nat_abs y → g ∣ nat_abs (x +ℤ y)
divides-sum g (pos a) (pos b) h k = dvd-add g h k
divides-sum g (pos a) (negsuc b) h k =
    let is : (a - suc b) + (suc b - a) ≡ nat_abs (pos a +ℤ negsuc b) = omega linear in
    subst (λ n. g ∣ n) is (dvd-add g (dvd-sub g h k) (dvd-sub g k h))
divides-sum g (negsuc a) (pos b) h k =
    let is : (b - suc a) + (suc a - b) ≡ nat_abs (negsuc a +ℤ pos b) = omega linear in
    subst (λ n. g ∣ n) is (dvd-add g (dvd-sub g k h) (dvd-sub g h k))
divides-sum g (negsuc a) (negsuc b) h k =
    let is : suc a + suc b ≡ nat_abs (negsuc a +ℤ negsuc b) = omega linear in
    subst (λ n. g ∣ n) is (dvd-add g h k)

-- what divides a sum and one summand divides the other
divides-summand : (g : ℕ) (x y : ℤ) → g ∣ nat_abs (x +ℤ y) → g ∣ nat_abs y → g ∣ nat_abs x
divides-summand g x y h k =
    let is : (x +ℤ y) +ℤ neg_ℤ y ≡ x = omega linear in
    subst (λ z. g ∣ nat_abs z) is (divides-sum g (x +ℤ y) (neg_ℤ y) h (subst (λ n. g ∣ n) (sym (nat_abs-neg_ℤ y)) k))

-- ---- times

-- the number divides each of them
abbrev pub DividesEach : ℕ → List ℤ → Type 0
DividesEach d times = All (λ time. d ∣ nat_abs time) times

-- what divides times, one of them raised by a multiple, divides them
divides-before : (d place : ℕ) (more : ℤ) (times : List ℤ) → DividesEach d (raised place more times) → d ∣ nat_abs more → DividesEach d times
divides-before d place more times each whole_more = All-from_get_or (λ time. d ∣ nat_abs time) times (pos 0) at
  where
    after : (k : ℕ) → k < length times → d ∣ nat_abs (get_or (raised place more times) k (pos 0))
    after k lt = All-get_or (λ time. d ∣ nat_abs time) (raised place more times) k (pos 0) (omega (arith, lt, length-set times place (get_or times place (pos 0) +ℤ more))) each

    at : (k : ℕ) → k < length times → d ∣ nat_abs (get_or times k (pos 0))
    at k lt =
        ⊎_elim
        (λ (same : k ≡ place). divides-summand d (get_or times k (pos 0)) more
        (subst (λ (z : ℤ). d ∣ nat_abs z)
        (ap (λ (j : ℕ). get_or (raised place more times) j (pos 0)) same ∙ get_or-set_same times place (get_or times place (pos 0) +ℤ more) (pos 0) (omega (arith, same, lt)) ∙ ap (λ (j : ℕ). get_or times j (pos 0) +ℤ more) (sym same)) (after k lt))
        whole_more)
        (λ (apart : k ≡ place → ⊥). subst (λ (z : ℤ). d ∣ nat_abs z) (get_or-set_other times place k (get_or times place (pos 0) +ℤ more) (pos 0) apart) (after k lt))
        (cases_eq k place)

one-divides : (d : ℕ) (times : List ℤ) → common_divisor times ≡ 1 → DividesEach d times → d ≡ 1
one-divides d times lowest each = eq-one_of_dvd-one (subst (λ (n : ℕ). d ∣ n) lowest (divisor_greatest times d each))

-- those of a gap, with its divisor
pub gap-lowest : (n : ℕ) (equalities : List Equality) (gap : Gap) → IsGap n equalities gap → (d : ℕ) → DividesEach d gap.times → d ∣ nat_abs gap.divisor → d ≡ 1
gap-lowest n equalities gap shown d each whole_divisor =
    ⊎_elim
    (λ (lowest : common_divisor gap.times ≡ 1). one-divides d gap.times lowest each)
    (λ (before : IsRaised n equalities gap). one-divides d before.times before.lowest
    (⊎_elim
    (λ none. subst (DividesEach d) none.1 each)
    (λ some. divides-before d some.0 gap.divisor before.times (subst (DividesEach d) some.2 each) whole_divisor)
    before.added))
    shown.lowest

-- what divides minus the times divides them
pub divides-turned : (d : ℕ) (times : List ℤ) → DividesEach d (negate integers times) → DividesEach d times
divides-turned d [] each = each
divides-turned d (a ∷ times) each =
    All-cons (λ time. d ∣ nat_abs time) a times (subst (λ (n : ℕ). d ∣ n) (nat_abs-neg_ℤ a) (All-head (λ time. d ∣ nat_abs time) (neg_ℤ a) (negate integers times) each))
    (divides-turned d times (All-tail (λ time. d ∣ nat_abs time) (neg_ℤ a) (negate integers times) each))
