-- Multipliers that show an answer.
use Rattle.std.proofs.Common.{◌≡◌, ℕ, zero, suc, List, [], ◌∷◌, length, refl, sym, ap, ap₂, subst, ◌∙◌, arith}
use Rattle.std.proofs.lemmas.List.{length-map}
use Rattle.exact_math.specs.Rational.{ℚ, neg_ℚ, ◌+ℚ◌, ◌-ℚ◌, ◌*ℚ◌, ◌≤ℚ◌}
use Rattle.exact_math.specs.RationalOrder as Order
use Rattle.exact_math.specs.RationalOrder.{rationals_are_ordered}
use Rattle.exact_math.specs.RationalRing.{rationals}
use Rattle.exact_math.specs.RingSolver.{ring, reads}
use Rattle.exact_math.specs.RingLaws as Laws
use Rattle.exact_vectors.specs.Vectors.{dot, negate, zeros}
use Rattle.exact_vectors.specs.Matrices.{HasWidth, times_vector, combination}
use Rattle.exact_vectors.specs.DotLaws as Dot
use Rattle.exact_vectors.specs.MatrixLaws as Matrix
use Rattle.exact_vectors.specs.OrderedVectorLaws as Ordered
use Rattle.exact_vectors.specs.RationalInequalityLaws.{farkas}
use Rattle.lp_dict.specs.Dictionaries.{none, one}
use Rattle.lp_dict.specs.Systems.{slacks, IsPoint}
use Rattle.lp_solve.specs.Certificates.{ShowsLeast, ShowsEmpty}

-- multipliers of the slacks
dot_slacks : (w : List ℚ) (rows : List (List ℚ)) (limits y : List ℚ) → length limits ≡ length rows → dot rationals w (slacks rows limits y) ≡ dot rationals w limits -ℚ dot rationals w (times_vector rationals rows y)
dot_slacks [] rows limits y e = sym (rationals.add_neg none)
dot_slacks (a ∷ w) [] [] y e = sym (rationals.add_neg none)
dot_slacks (a ∷ w) [] (h ∷ limits) y e = absurd (omega arith)
dot_slacks (a ∷ w) (row ∷ rows) [] y e = absurd (omega arith)
dot_slacks (a ∷ w) (row ∷ rows) (h ∷ limits) y e =
    ap (λ z. a *ℚ (h -ℚ dot rationals row y) +ℚ z) (dot_slacks w rows limits y (omega arith))
    ∙ ring rationals (a ∷ h ∷ dot rationals row y ∷ dot rationals w limits ∷ dot rationals w (times_vector rationals rows y) ∷ []) (search reads depth 40 fits 20000) (search reads depth 40 fits 20000) refl

-- vectors with the same product with each vector are equal
same_vectors : (n : ℕ) (v w : List ℚ) → length v ≡ n → length w ≡ n → ((y : List ℚ) → length y ≡ n → dot rationals v y ≡ dot rationals w y) → v ≡ w
same_vectors n [] [] e f h = refl
same_vectors n [] (b ∷ w) e f h = absurd (omega arith)
same_vectors n (a ∷ v) [] e f h = absurd (omega arith)
same_vectors zero (a ∷ v) (b ∷ w) e f h = absurd (omega arith)
same_vectors (suc n) (a ∷ v) (b ∷ w) e f h =
    let size : length (zeros rationals n) ≡ n = Matrix.length-zeros rationals n in
    let first : (c : ℚ) (u : List ℚ) → c *ℚ one +ℚ dot rationals u (zeros rationals n) ≡ c = λ c u. ap (λ z. c *ℚ one +ℚ z) (Dot.dot-zeros_right rationals n u) ∙ ring rationals (c ∷ []) {x = c *ℚ one +ℚ none} {y = c} (search reads depth 30) (search reads depth 30) refl in
    let rest : (c : ℚ) (u y : List ℚ) → c *ℚ none +ℚ dot rationals u y ≡ dot rationals u y = λ c u y. ring rationals (c ∷ dot rationals u y ∷ []) {x = c *ℚ none +ℚ dot rationals u y} {y = dot rationals u y} (search reads depth 30) (search reads depth 30) refl in
    ap₂ (λ (c : ℚ) (l : List ℚ). c ∷ l) (sym (first a v) ∙ h (one ∷ zeros rationals n) (ap suc size) ∙ first b w)
    (same_vectors n v w (omega arith) (omega arith) (λ y g. sym (rest a v y) ∙ h (none ∷ y) (ap suc g) ∙ rest b w y))

-- sums of numbers
from_zero : (a c : ℚ) → none ≡ (a -ℚ none) +ℚ c → a ≡ neg_ℚ c
from_zero a c e =
    ring rationals (a ∷ c ∷ []) {x = a} {y = ((a -ℚ none) +ℚ c) +ℚ neg_ℚ c} (search reads depth 30) (search reads depth 30) refl ∙ ap (λ z. z +ℚ neg_ℚ c) (sym e) ∙ Laws.zero_add rationals (neg_ℚ c)

minus : (a b c : ℚ) → a ≡ neg_ℚ c → (a -ℚ b) +ℚ c ≡ neg_ℚ b
minus a b c e = ap (λ z. (z -ℚ b) +ℚ c) e ∙ ring rationals (b ∷ c ∷ []) {x = (neg_ℚ c -ℚ b) +ℚ c} {y = neg_ℚ b} (search reads depth 30) (search reads depth 30) refl

-- multipliers that give the form at each vector, up to a constant
pub certificate : (n : ℕ) (rows : List (List ℚ)) (limits form w : List ℚ) (c : ℚ) → HasWidth n rows → length limits ≡ length rows → length form ≡ n
    → ((y : List ℚ) → length y ≡ n → dot rationals form y ≡ dot rationals w (slacks rows limits y) +ℚ c) → (combination rationals n w rows ≡ negate rationals form) × (dot rationals w limits ≡ neg_ℚ c)
certificate n rows limits form w c width many size h =
    let comb : List ℚ = combination rationals n w rows in
    let at : (y : List ℚ) → length y ≡ n → dot rationals form y ≡ (dot rationals w limits -ℚ dot rationals comb y) +ℚ c
    = λ y e. h y e ∙ ap (λ z. z +ℚ c) (dot_slacks w rows limits y many ∙ ap (λ z. dot rationals w limits -ℚ z) (Matrix.dot_times_vector rationals n w rows y width)) in
    let start : none ≡ (dot rationals w limits -ℚ none) +ℚ c
    = sym (Dot.dot-zeros_right rationals n form) ∙ at (zeros rationals n) (Matrix.length-zeros rationals n) ∙ ap (λ z. (dot rationals w limits -ℚ z) +ℚ c) (Dot.dot-zeros_right rationals n comb) in
    let limit : dot rationals w limits ≡ neg_ℚ c = from_zero (dot rationals w limits) c start in
    let same : comb ≡ negate rationals form = same_vectors n comb (negate rationals form) (Matrix.length-combination rationals n w rows width) (length-map form neg_ℚ ∙ size)
    (λ y e. sym (Laws.neg_neg rationals (dot rationals comb y)) ∙ ap neg_ℚ (sym (minus (dot rationals w limits) (dot rationals comb y) c limit) ∙ sym (at y e)) ∙ sym (Dot.dot-negate_left rationals form y)) in
    (same, limit)

-- no point has less
pub shown_least : (n : ℕ) (rows : List (List ℚ)) (limits form point : List ℚ) (value : ℚ) (w : List ℚ) → HasWidth n rows → ShowsLeast n rows limits form point value w → (y : List ℚ) → IsPoint n rows limits y → value ≤ℚ dot rationals form y
shown_least n rows limits form point value w width s y p =
    let all : dot rationals (combination rationals n w rows) y ≤ℚ dot rationals w limits = Ordered.combination_le rationals ◌≤ℚ◌ rationals_are_ordered n w rows y limits width s.not_negative p.met in
    let left : dot rationals (combination rationals n w rows) y ≡ neg_ℚ (dot rationals form y) = ap (λ l. dot rationals l y) s.factors ∙ Dot.dot-negate_left rationals form y in
    let turned : neg_ℚ (dot rationals form y) ≤ℚ neg_ℚ value = subst (λ a. a ≤ℚ neg_ℚ value) left (subst (λ b. dot rationals (combination rationals n w rows) y ≤ℚ b) s.limit all) in
    subst (λ a. a ≤ℚ dot rationals form y) (Laws.neg_neg rationals value) (subst (λ b. neg_ℚ (neg_ℚ value) ≤ℚ b) (Laws.neg_neg rationals (dot rationals form y)) (Order.neg_le (neg_ℚ (dot rationals form y)) (neg_ℚ value) turned))

-- there is no point
pub shown_empty : (n : ℕ) (rows : List (List ℚ)) (limits w : List ℚ) → HasWidth n rows → ShowsEmpty n rows limits w → (y : List ℚ) → ¬ (IsPoint n rows limits y)
shown_empty n rows limits w width s y p = farkas n w rows y limits width s.not_negative s.factors s.limit p.met
