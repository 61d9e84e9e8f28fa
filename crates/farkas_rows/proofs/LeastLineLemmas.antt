-- A least whole line is the only one, and how its multipliers are to the first one.
use Rattle.std.proofs.Common.{◌≡◌, ℕ, ◌*◌, ◌/◌, ◌^◌, ◌<◌, List, [], ◌∷◌, ◌++◌, map, ℤ, pos, ◌*ℤ◌, ◌≤ℤ◌, ◌<ℤ◌, nat_abs, refl, sym, ap, ap₂, ◌∙◌, subst, ⊎_elim, arith, mul_comm, mul_assoc}
use Rattle.std.specs.Prelude.{Option, Some, None, All, option_map, unwrap_or}
use Rattle.std.specs.List.{AllZip}
use Rattle.std.specs.Int.{◌∣◌}
use Rattle.std.proofs.Math.Nat.{dvd-mul_right, dvd_of_mul-dvd-mul_left}
use Rattle.std.proofs.lemmas.List.Elements.{All-nil, All-cons, All-head, All-tail, All-weaker, All-map}
use Rattle.exact_math.specs.Gcd.{gcd}
use Rattle.exact_math.specs.GcdLaws.{gcd_comm, gcd_pos_left, gcd-mul-div_left, gcd-mul-div_right, gcd-quotients, dvd_from_product}
use Rattle.exact_math.specs.Ring.{integers}
use Rattle.exact_math.specs.IntegerRing.{linear, expand}
use Rattle.exact_math.specs.IntegerOrder as Order
use Rattle.exact_math.specs.Rational.{ℚ, whole, ◌*ℚ◌, ◌<ℚ◌}
use Rattle.exact_math.specs.RationalRing as Ring
use Rattle.exact_math.specs.RationalOrder as Ordered
use Rattle.exact_vectors.specs.Vectors.{dot}
use Rattle.whole_rows.specs.WholeRows.{WholeRows}
use Rattle.farkas_rows.specs.declared.fracs.FracUse.{FracUse}
use Rattle.farkas_rows.specs.declared.fracs.CutFrac.{CutFrac}
use Rattle.farkas_rows.specs.declared.line.Use.{Use}
use Rattle.farkas_rows.specs.declared.line.CutUse.{CutUse}
use Rattle.farkas_rows.specs.declared.line.Line.{Line}
use Rattle.farkas_rows.specs.declared.path.Slice.{Slice}
use Rattle.farkas_rows.specs.Inequalities.{Inequality, inequality_at}
use Rattle.farkas_rows.specs.Refutes.{nothing, cut_inequalities, multipliers, used, weights, line_weight}
use Rattle.farkas_rows.specs.LeastLine.{IsLeastWhole, IsLeastLine, fractions}
use Rattle.farkas_rows.proofs.LineLemmas.{multipliers_within, length-multipliers}
use Rattle.farkas_rows.proofs.LeastLemmas.{product_positive, whole_num}

-- ---- the only whole numbers

-- a positive multiple of a positive number is positive
pub multiple_positive : (factor q : ℚ) (w : ℤ) → whole (pos 0) <ℚ factor → whole (pos 0) <ℚ q → whole w ≡ factor *ℚ q → pos 1 ≤ℤ w
multiple_positive factor q w hf hq e =
    let above : whole (pos 0) <ℚ whole w = subst (λ (r : ℚ). whole (pos 0) <ℚ r) (sym e) (product_positive factor q hf hq) in
    let num : pos 0 <ℤ w = subst (λ z. pos 0 <ℤ z) (whole_num w).0 (Ordered.num_pos (whole w) above) in
    omega linear

-- all of them
pub multiples_positive : (factor : ℚ) (parts : List ℚ) (numbers : List ℤ) → whole (pos 0) <ℚ factor → All (λ part. whole (pos 0) <ℚ part) parts → AllZip (λ part number. whole number ≡ factor *ℚ part) parts numbers → All (λ number. pos 1 ≤ℤ number) numbers
multiples_positive factor [] [] hf hp h = All-nil _
multiples_positive factor [] (w ∷ numbers) hf hp h = absurd h
multiples_positive factor (q ∷ parts) [] hf hp h = absurd h
multiples_positive factor (q ∷ parts) (w ∷ numbers) hf hp h =
    All-cons (λ number. pos 1 ≤ℤ number) w numbers (multiple_positive factor q w hf (All-head (λ part. whole (pos 0) <ℚ part) q parts hp) h.0) (multiples_positive factor parts numbers hf (All-tail (λ part. whole (pos 0) <ℚ part) q parts hp) h.1)

-- equal whole numbers as rational ones
whole_same : (a b : ℤ) → whole a ≡ whole b → a ≡ b
whole_same a b e = sym (whole_num a).0 ∙ ap (λ (r : ℚ). r.num) e ∙ (whole_num b).0

-- multiples of two numbers by two factors, crosswise
cross : (j k p q : ℚ) (a b m n : ℤ) → whole m ≡ j *ℚ p → whole n ≡ k *ℚ p → whole a ≡ j *ℚ q → whole b ≡ k *ℚ q → a *ℤ n ≡ b *ℤ m
cross j k p q a b m n hm hn ha hb =
    whole_same (a *ℤ n) (b *ℤ m) (Ring.whole_mul a n ∙ ap₂ ◌*ℚ◌ ha hn ∙ turned j k p q ∙ sym (ap₂ ◌*ℚ◌ hb hm) ∙ sym (Ring.whole_mul b m))
  where
    turned : (j k p q : ℚ) → (j *ℚ q) *ℚ (k *ℚ p) ≡ (k *ℚ q) *ℚ (j *ℚ p)
    turned j k p q =
        Ring.mul_assoc j q (k *ℚ p) ∙ ap (λ x. j *ℚ x) (sym (Ring.mul_assoc q k p) ∙ ap (λ x. x *ℚ p) (Ring.mul_comm q k)) ∙ sym (Ring.mul_assoc j (k *ℚ q) p) ∙ ap (λ x. x *ℚ p) (Ring.mul_comm j (k *ℚ q)) ∙ Ring.mul_assoc (k *ℚ q) j p

-- the same of two lists
crosses : (j k p : ℚ) (m n : ℤ) (parts : List ℚ) (v w : List ℤ) → whole m ≡ j *ℚ p → whole n ≡ k *ℚ p → AllZip (λ part number. whole number ≡ j *ℚ part) parts v → AllZip (λ part number. whole number ≡ k *ℚ part) parts w → AllZip (λ a b. a *ℤ n ≡ b *ℤ m) v w
crosses j k p m n [] [] [] hm hn hv hw = tt
crosses j k p m n [] [] (b ∷ w) hm hn hv hw = absurd hw
crosses j k p m n [] (a ∷ v) w hm hn hv hw = absurd hv
crosses j k p m n (q ∷ parts) [] w hm hn hv hw = absurd hv
crosses j k p m n (q ∷ parts) (a ∷ v) [] hm hn hv hw = absurd hw
crosses j k p m n (q ∷ parts) (a ∷ v) (b ∷ w) hm hn hv hw = (cross j k p q a b m n hm hn hv.0 hw.0, crosses j k p m n parts v w hm hn hv.1 hw.1)

-- what is crosswise equal is a multiple of the quotient by the greatest common divisor
quotient_divides : (a b m n : ℤ) → pos 1 ≤ℤ m → a *ℤ n ≡ b *ℤ m → nat_abs m / gcd (nat_abs m) (nat_abs n) ∣ nat_abs a
quotient_divides a b m n one e =
    let M = nat_abs m in
    let N = nat_abs n in
    let g = gcd M N in
    let some : 0 < g = gcd_pos_left M N (omega linear) in
    let sizes : nat_abs a * N ≡ nat_abs b * M = sym (Order.abs_mul a n) ∙ ap nat_abs e ∙ Order.abs_mul b m in
    let left : g * (N / g * nat_abs a) ≡ nat_abs a * N = sym (mul_assoc g (N / g) (nat_abs a)) ∙ ap (λ t. t * nat_abs a) (gcd-mul-div_right M N) ∙ mul_comm N (nat_abs a) in
    let right : g * (M / g * nat_abs b) ≡ nat_abs b * M = sym (mul_assoc g (M / g) (nat_abs b)) ∙ ap (λ t. t * nat_abs b) (gcd-mul-div_left M N) ∙ mul_comm M (nat_abs b) in
    let both : g * (M / g) ∣ g * (N / g * nat_abs a) = subst (λ t. g * (M / g) ∣ t) (mul_assoc g (M / g) (nat_abs b) ∙ right ∙ sym sizes ∙ sym left) (dvd-mul_right (g * (M / g)) (nat_abs b)) in
    dvd_from_product (M / g) (N / g) (nat_abs a) (gcd-quotients M N some) (dvd_of_mul-dvd-mul_left (M / g) some both)

quotients_divide : (m n : ℤ) (v w : List ℤ) → pos 1 ≤ℤ m → AllZip (λ a b. a *ℤ n ≡ b *ℤ m) v w → All (λ a. nat_abs m / gcd (nat_abs m) (nat_abs n) ∣ nat_abs a) v
quotients_divide m n [] w one h = All-nil _
quotients_divide m n (a ∷ v) [] one h = absurd h
quotients_divide m n (a ∷ v) (b ∷ w) one h = All-cons (λ a. nat_abs m / gcd (nat_abs m) (nat_abs n) ∣ nat_abs a) a v (quotient_divides a b m n one h.0) (quotients_divide m n v w one h.1)

-- the lists the other way round
turn : (m n : ℤ) (v w : List ℤ) → AllZip (λ a b. a *ℤ n ≡ b *ℤ m) v w → AllZip (λ b a. b *ℤ m ≡ a *ℤ n) w v
turn m n [] [] h = tt
turn m n [] (b ∷ w) h = absurd h
turn m n (a ∷ v) [] h = absurd h
turn m n (a ∷ v) (b ∷ w) h = (sym h.0, turn m n v w h.1)

-- lists whose multiples are equal
same_lists : (m : ℤ) (v w : List ℤ) → pos 1 ≤ℤ m → AllZip (λ a b. a *ℤ m ≡ b *ℤ m) v w → v ≡ w
same_lists m [] [] one h = refl
same_lists m [] (b ∷ w) one h = absurd h
same_lists m (a ∷ v) [] one h = absurd h
same_lists m (a ∷ v) (b ∷ w) one h =
    let some : m ≡ pos 0 → ⊥ = λ e. omega (linear, e) in
    ap₂ (λ (z : ℤ) (l : List ℤ). z ∷ l) (Order.mul_cancel m a b some (commute m a ∙ h.0 ∙ commute b m)) (same_lists m v w one h.1)
  where
    commute : (a b : ℤ) → a *ℤ b ≡ b *ℤ a
    commute a b = simp expand (omega linear)

-- the least whole numbers are the only ones
pub IsLeastWhole-same : (parts : List ℚ) (v w : List ℤ) → (parts ≡ [] → ⊥) → All (λ part. whole (pos 0) <ℚ part) parts → IsLeastWhole parts v → IsLeastWhole parts w → v ≡ w
IsLeastWhole-same [] v w some positive hv hw = absurd (some refl)
IsLeastWhole-same (p ∷ parts) [] w some positive hv hw = absurd hv.multiple.1.1
IsLeastWhole-same (p ∷ parts) (m ∷ v) [] some positive hv hw = absurd hw.multiple.1.1
IsLeastWhole-same (p ∷ parts) (m ∷ v) (n ∷ w) some positive hv hw =
    let j = hv.multiple.0 in
    let k = hw.multiple.0 in
    let hm = hv.multiple.1.1.0 in
    let hn = hw.multiple.1.1.0 in
    let first : whole (pos 0) <ℚ p = All-head (λ part. whole (pos 0) <ℚ part) p parts positive in
    let m_one : pos 1 ≤ℤ m = multiple_positive j p m hv.multiple.1.0 first hm in
    let n_one : pos 1 ≤ℤ n = multiple_positive k p n hw.multiple.1.0 first hn in
    let all : AllZip (λ a b. a *ℤ n ≡ b *ℤ m) (m ∷ v) (n ∷ w) = crosses j k p m n (p ∷ parts) (m ∷ v) (n ∷ w) hm hn hv.multiple.1.1 hw.multiple.1.1 in
    let M = nat_abs m in
    let N = nat_abs n in
    let one_left : M / gcd M N ≡ 1 = hv.lowest (M / gcd M N) (quotients_divide m n (m ∷ v) (n ∷ w) m_one all) in
    let one_right : N / gcd N M ≡ 1 = hw.lowest (N / gcd N M) (quotients_divide n m (n ∷ w) (m ∷ v) n_one (turn m n (m ∷ v) (n ∷ w) all)) in
    let left : M ≡ gcd M N = sym (gcd-mul-div_left M N) ∙ ap (λ t. gcd M N * t) one_left ∙ times_one (gcd M N) in
    let right : N ≡ gcd N M = sym (gcd-mul-div_left N M) ∙ ap (λ t. gcd N M * t) one_right ∙ times_one (gcd N M) in
    let same : m ≡ n = omega (linear, left, right, gcd_comm M N) in
    same_lists m (m ∷ v) (n ∷ w) m_one (subst (λ (z : ℤ). AllZip (λ a b. a *ℤ z ≡ b *ℤ m) (m ∷ v) (n ∷ w)) (sym same) all)
  where
    times_one : (t : ℕ) → t * 1 ≡ t
    times_one t = omega arith

-- ---- the only line

-- the inequality of a number
abbrev named_by : WholeRows → List Slice → Option Inequality → ℕ → Inequality
named_by rows path end number = unwrap_or (inequality_at rows path end number) nothing

-- lines of the same numbers use the same inequalities
used-same : (rows : WholeRows) (path : List Slice) (end : Option Inequality) (first second : Line) → option_map (λ (cut : CutUse). cut.value) first.cut ≡ option_map (λ (cut : CutUse). cut.value) second.cut → map (λ (item : Use). item.index) first.items ≡ map (λ (item : Use). item.index) second.items → used rows path end first ≡ used rows path end second
used-same rows path end first second cuts numbers =
    ap₂ ◌++◌ (cut_part first.cut second.cut cuts) (by_numbers first.items ∙ ap (map (named_by rows path end)) numbers ∙ sym (by_numbers second.items))
  where
    cut_part : (a b : Option CutUse) → option_map (λ (cut : CutUse). cut.value) a ≡ option_map (λ (cut : CutUse). cut.value) b → cut_inequalities rows a ≡ cut_inequalities rows b
    cut_part None None e = refl
    cut_part None (Some b) e = cc
    cut_part (Some a) None e = cc
    cut_part (Some a) (Some b) e = let same : a.value ≡ b.value = cc in rw same refl

    by_numbers : (items : List Use) → map (λ (item : Use). unwrap_or (inequality_at rows path end item.index) nothing) items ≡ map (named_by rows path end) (map (λ (item : Use). item.index) items)
    by_numbers [] = refl
    by_numbers (item ∷ items) = ap {B = List Inequality} (λ l. named_by rows path end item.index ∷ l) (by_numbers items)

-- two least lines weigh the same
pub IsLeastLine-same_weight : (rows : WholeRows) (path : List Slice) (end : Option Inequality) (cut : Option CutFrac) (items : List FracUse) (first second : Line) → (fractions cut items ≡ [] → ⊥) → All (λ part. whole (pos 0) <ℚ part) (fractions cut items) → IsLeastLine cut items first → IsLeastLine cut items second → line_weight rows path end first ≡ line_weight rows path end second
IsLeastLine-same_weight rows path end cut items first second some positive hf hs =
    ap₂ (λ (times : List ℤ) (qs : List Inequality). dot integers times (weights qs)) (IsLeastWhole-same (fractions cut items) (multipliers first) (multipliers second) some positive hf.least hs.least) (used-same rows path end first second (hf.same_cut ∙ sym hs.same_cut) (hf.same_numbers ∙ sym hs.same_numbers))

-- ---- what a least line's multipliers are at least and at most

-- each is at least 1
pub least_positive : (cut : Option CutFrac) (items : List FracUse) (line : Line) → All (λ part. whole (pos 0) <ℚ part) (fractions cut items) → IsLeastLine cut items line → All (λ number. pos 1 ≤ℤ number) (multipliers line)
least_positive cut items line positive h = multiples_positive h.least.multiple.0 (fractions cut items) (multipliers line) h.least.multiple.1.0 positive h.least.multiple.1.1

-- none is negative
pub least_nonneg : (cut : Option CutFrac) (items : List FracUse) (line : Line) → All (λ part. whole (pos 0) <ℚ part) (fractions cut items) → IsLeastLine cut items line → All (λ number. pos 0 ≤ℤ number) (multipliers line)
least_nonneg cut items line positive h = All-weaker (λ number. pos 1 ≤ℤ number) (λ number. pos 0 ≤ℤ number) (λ number one. omega linear) (multipliers line) (least_positive cut items line positive h)

-- a light line has none above 2 to the power 126
pub least_narrow : (rows : WholeRows) (path : List Slice) (end : Option Inequality) (cut : Option CutFrac) (items : List FracUse) (line : Line) → All (λ part. whole (pos 0) <ℚ part) (fractions cut items) → IsLeastLine cut items line → line_weight rows path end line ≤ℤ pos (2 ^ 126) → All (λ number. number <ℤ pos (2 ^ 127)) (multipliers line)
least_narrow rows path end cut items line positive h light =
    All-weaker (λ number. number ≤ℤ pos (2 ^ 126)) (λ number. number <ℤ pos (2 ^ 127)) (λ number small. omega linear) (multipliers line) (multipliers_within (multipliers line) (used rows path end line) (pos (2 ^ 126)) (length-multipliers rows path end line) (least_positive cut items line positive h) light)

-- so a line that cannot be without a wide multiplier is heavy
pub least_heavy : (rows : WholeRows) (path : List Slice) (end : Option Inequality) (cut : Option CutFrac) (items : List FracUse) (line : Line) → All (λ part. whole (pos 0) <ℚ part) (fractions cut items) → IsLeastLine cut items line → (All (λ number. number <ℤ pos (2 ^ 127)) (multipliers line) → ⊥) → pos (2 ^ 126) <ℤ line_weight rows path end line
least_heavy rows path end cut items line positive h wide =
    ⊎_elim (λ light. absurd (wide (least_narrow rows path end cut items line positive h light))) (λ heavy. heavy) (Order.le_or_lt (line_weight rows path end line) (pos (2 ^ 126)))

-- its numbers are there where those of the fractions are
pub least_there : (P : ℕ → Type 0) (items : List FracUse) (uses : List Use) → map (λ (item : Use). item.index) uses ≡ map (λ (item : FracUse). item.index) items → All (λ (item : FracUse). P item.index) items → All (λ (item : Use). P item.index) uses
least_there P items uses e h = back uses (subst (All P) (sym e) (All-map P (λ (item : FracUse). item.index) items h))
  where
    back : (uses : List Use) → All P (map (λ (item : Use). item.index) uses) → All (λ (item : Use). P item.index) uses
    back [] h = All-nil _
    back (item ∷ uses) h = All-cons (λ (item : Use). P item.index) item uses (All-head P item.index (map (λ (item : Use). item.index) uses) h) (back uses (All-tail P item.index (map (λ (item : Use). item.index) uses) h))
