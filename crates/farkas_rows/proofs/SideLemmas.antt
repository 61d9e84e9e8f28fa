-- The form, the sizes and the limits of a side.
use Rattle.std.proofs.Common.{◌≡◌, ℕ, zero, suc, ◌+◌, ◌<◌, ◌≤◌, List, [], ◌∷◌, length, get_or, set, ℤ, pos, neg_ℤ, ◌+ℤ◌, ◌*ℤ◌, refl, sym, ap, ◌∙◌, subst, below_more, ⊎_elim, arith}
use Rattle.std.specs.Prelude.{sum_by, unsigned_abs, max}
use Rattle.std.proofs.lemmas.List.{get_or-set_same, get_or-set_other}
use Rattle.std.proofs.lemmas.Bool.{cases_eq}
use Rattle.std.proofs.lemmas.List.Sums.{sum_by-cons}
use Rattle.exact_math.specs.Ring.{integers}
use Rattle.exact_math.specs.IntegerRing.{linear, mul_neg, neg_mul, mul_one, mul_zero}
use Rattle.exact_vectors.specs.Vectors.{negate, zeros}
use Rattle.exact_vectors.specs.MatrixLaws as Matrices
use Rattle.farkas_rows.specs.declared.side.Factors.{Factors}
use Rattle.farkas_rows.specs.declared.side.Factors.TheVariants.{Unit as OfColumn}
use Rattle.farkas_rows.specs.declared.side.Bound.{Bound}
use Rattle.farkas_rows.specs.declared.side.Bound.TheVariants.{AtMost, Below, AtLeast}
use Rattle.farkas_rows.specs.Inequalities.{unit}
use Rattle.farkas_rows.specs.Refutes.{inequality_weight}
use Rattle.farkas_rows.specs.Sides.{IsFormIn, form_in, limit_of, times_form, bounded}

-- a turned form has the same sizes
pub sizes-negate : (form : List ℤ) → sum_by unsigned_abs (negate integers form) ≡ sum_by unsigned_abs form
sizes-negate [] = refl
sizes-negate (a ∷ form) = sum_by-cons unsigned_abs (neg_ℤ a) (negate integers form) ∙ omega (linear, sizes-negate form) ∙ sym (sum_by-cons unsigned_abs a form)

-- zeros have no size
sizes-zeros : (n : ℕ) → sum_by unsigned_abs (zeros integers n) ≡ 0
sizes-zeros zero = refl
sizes-zeros (suc n) = omega (arith, sum_by-cons unsigned_abs (pos 0) (zeros integers n), sizes-zeros n)

-- the form of one column has the size 1
pub sizes-unit : (columns column : ℕ) → column < columns → sum_by unsigned_abs (unit columns column) ≡ 1
sizes-unit zero column h = absurd (omega arith)
sizes-unit (suc n) zero h = sum_by-cons unsigned_abs (pos 1) (zeros integers n) ∙ ap (λ t. 1 + t) (sizes-zeros n)
sizes-unit (suc n) (suc j) h = omega (arith, sum_by-cons unsigned_abs (pos 0) (unit n j), sizes-unit n j (omega arith))

-- the same, where the factors are found to be those of a column
pub sizes-of_column : (factors : Factors) (columns column : ℕ) → factors ≡ OfColumn column → IsFormIn columns factors → sum_by unsigned_abs (form_in columns factors) ≡ 1
sizes-of_column factors columns column is h =
    let there = subst (IsFormIn columns) is h in
    rw is (sizes-unit columns column there)

-- the weight of a side's inequality, by its form and its bound
pub weight-bounded : (form : List ℤ) (bound : Bound) → inequality_weight (bounded form bound) ≡ max 1 (unsigned_abs (limit_of bound) + sum_by unsigned_abs form)
weight-bounded form (AtMost side) = refl
weight-bounded form (Below side) = refl
weight-bounded form (AtLeast side) = ap (λ t. max 1 (unsigned_abs (neg_ℤ side) + t)) (sizes-negate form)

-- the limit of a side's inequality
pub limit-bounded : (form : List ℤ) (bound : Bound) → (bounded form bound).limit ≡ limit_of bound
limit-bounded form (AtMost side) = refl
limit-bounded form (Below side) = refl
limit-bounded form (AtLeast side) = refl

-- a turned form at a column
negate-at : (form : List ℤ) (column : ℕ) → get_or (negate integers form) column (pos 0) ≡ neg_ℤ (get_or form column (pos 0))
negate-at [] column = refl
negate-at (a ∷ form) zero = refl
negate-at (a ∷ form) (suc column) = negate-at form column

-- a multiple of a side's inequality is one of its form
pub times-bounded : (form : List ℤ) (bound : Bound) (times : ℤ) (column : ℕ) → times *ℤ get_or (bounded form bound).factors column (pos 0) ≡ times_form bound times *ℤ get_or form column (pos 0)
times-bounded form (AtMost side) times column = refl
times-bounded form (Below side) times column = refl
times-bounded form (AtLeast side) times column = ap (λ t. times *ℤ t) (negate-at form column) ∙ mul_neg times (get_or form column (pos 0)) ∙ sym (neg_mul times (get_or form column (pos 0)))

-- the form of one column there, and elsewhere
pub unit-same : (columns column : ℕ) → column < columns → get_or (unit columns column) column (pos 0) ≡ pos 1
unit-same columns column h = get_or-set_same (zeros integers columns) column (pos 1) (pos 0) (omega (arith, Matrices.length-zeros integers columns))

pub unit-other : (columns column other : ℕ) → (other ≡ column → ⊥) → get_or (unit columns column) other (pos 0) ≡ pos 0
unit-other columns column other apart = get_or-set_other (zeros integers columns) column other (pos 1) (pos 0) apart ∙ Matrices.zeros-at integers columns other

-- one more column has its multiple added
pub added-more : (now old form : List ℤ) (times : ℤ) (j : ℕ) → j < length now
    → ((k : ℕ) → k < j → get_or now k (pos 0) ≡ get_or old k (pos 0) +ℤ times *ℤ get_or form k (pos 0))
    → ((k : ℕ) → j ≤ k → get_or now k (pos 0) ≡ get_or old k (pos 0))
    → (k : ℕ) → k < j + 1 → get_or (set now j (get_or now j (pos 0) +ℤ times *ℤ get_or form j (pos 0))) k (pos 0) ≡ get_or old k (pos 0) +ℤ times *ℤ get_or form k (pos 0)
added-more now old form times j within added left =
    let new = get_or now j (pos 0) +ℤ times *ℤ get_or form j (pos 0) in
    below_more _ _
    (λ k lt. let apart : (k ≡ j → ⊥) = omega arith in get_or-set_other now j k new (pos 0) apart ∙ added k lt)
    (get_or-set_same now j new (pos 0) within ∙ ap (λ t. t +ℤ times *ℤ get_or form j (pos 0)) (left j (omega arith)))

-- and the columns after it are as they were
pub left-more : (now old : List ℤ) (new : ℤ) (j : ℕ) → ((k : ℕ) → j ≤ k → get_or now k (pos 0) ≡ get_or old k (pos 0)) → (k : ℕ) → j + 1 ≤ k → get_or (set now j new) k (pos 0) ≡ get_or old k (pos 0)
left-more now old new j left k h =
    let apart : (k ≡ j → ⊥) = omega arith in get_or-set_other now j k new (pos 0) apart ∙ left k (omega arith)

-- a column's own form, there and elsewhere, where the factors are found to be those of a column
pub of_column-same : (factors : Factors) (columns column : ℕ) → factors ≡ OfColumn column → IsFormIn columns factors → (column < columns) × (get_or (form_in columns factors) column (pos 0) ≡ pos 1)
of_column-same factors columns column is h =
    let there : column < columns = subst (IsFormIn columns) is h in
    (there, rw is (unit-same columns column there))

pub of_column-other : (factors : Factors) (columns column other : ℕ) → factors ≡ OfColumn column → (other ≡ column → ⊥) → get_or (form_in columns factors) other (pos 0) ≡ pos 0
of_column-other factors columns column other is apart = rw is (unit-other columns column other apart)

-- the multiple of a column's form is added at the column alone
pub added_at_column : (sums : List ℤ) (factors : Factors) (column : ℕ) (times : ℤ) → factors ≡ OfColumn column → IsFormIn (length sums) factors → (j : ℕ) → j < length sums → get_or (set sums column (get_or sums column (pos 0) +ℤ times)) j (pos 0) ≡ get_or sums j (pos 0) +ℤ times *ℤ get_or (form_in (length sums) factors) j (pos 0)
added_at_column sums factors column times is h j lt =
    let own = of_column-same factors (length sums) column is h in
    ⊎_elim
    (λ (e : j ≡ column). rw (e, get_or-set_same sums column (get_or sums column (pos 0) +ℤ times) (pos 0) own.0, own.1) (omega (linear, mul_one times)))
    (λ (apart : j ≡ column → ⊥). rw (get_or-set_other sums column j (get_or sums column (pos 0) +ℤ times) (pos 0) apart, of_column-other factors (length sums) column j is apart) (omega (linear, mul_zero times)))
    (cases_eq j column)
