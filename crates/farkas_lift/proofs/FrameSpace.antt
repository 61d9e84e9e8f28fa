-- The rational vectors at which the forms of a frame's equalities are 0 are those of the frame.
use Rattle.std.proofs.Common.{◌≡◌, ◌≢◌, ℕ, zero, suc, ◌*◌, ◌<◌, ℤ, pos, ◌+ℤ◌, ◌*ℤ◌, List, [], ◌∷◌, length, map, refl, sym, ap, ap₂, subst, ◌∙◌, arith, mul-pos}
use Rattle.std.specs.List.{All}
use Rattle.std.proofs.lemmas.List.{length-map}
use Rattle.std.proofs.lemmas.List.Elements.{All-head, All-tail, All-nil, All-cons}
use Rattle.exact_math.specs.Ring.{integers}
use Rattle.exact_math.specs.Rational.{ℚ, whole, inv_ℚ, ◌+ℚ◌, ◌*ℚ◌}
use Rattle.exact_math.specs.RationalLaws.{den_pos, frac-self, frac-mul, same_frac, whole-frac, num_zero, pos-ne-zero}
use Rattle.exact_math.specs.RationalRing.{rationals, whole_add, whole_mul, mul_inv}
use Rattle.exact_math.specs.IntegerRing.{linear, expand}
use Rattle.exact_math.specs.RingLaws as Laws
use Rattle.exact_math.specs.RingSolver.{ring, reads}
use Rattle.exact_vectors.specs.Vectors.{dot, add, scale, negate, zeros}
use Rattle.exact_vectors.specs.Matrices.{HasWidth, times_vector}
use Rattle.exact_vectors.specs.DotLaws as Dot
use Rattle.exact_vectors.specs.MatrixLaws as Matrix
use Rattle.spaces.specs.Tables.{rows_in}
use Rattle.spaces.specs.TableLaws as Tables
use Rattle.lp_dict.specs.Systems.{wholes, whole_rows}
use Rattle.reformulate.specs.Frames.{IsFrame}
use Rattle.reformulate.specs.Solutions.{Meets, Solves}
use Rattle.reformulate.specs.Substitutions.{Substitution, dimension_of, columns_of, point_of, IsShaped}
use Rattle.reformulate.specs.declared.equality.Equality.{Equality}
use Rattle.farkas_lift.proofs.Lists as Lists

abbrev none : ℚ
none = whole (pos 0)

-- ---- whole numbers among the rational ones

whole_num : (z : ℤ) → (whole z).num ≡ z
unfolding whole
whole_num z = refl

pub whole_same : (a b : ℤ) → whole a ≡ whole b → a ≡ b
whole_same a b e = sym (whole_num a) ∙ ap (λ (q : ℚ). q.num) e ∙ whole_num b

pub length-wholes : (v : List ℤ) → length (wholes v) ≡ length v
length-wholes v = length-map v whole

pub dot-wholes : (v w : List ℤ) → dot rationals (wholes v) (wholes w) ≡ whole (dot integers v w)
dot-wholes [] w = refl
dot-wholes (a ∷ v) [] = refl
dot-wholes (a ∷ v) (x ∷ w) = ap₂ (λ p q. p +ℚ q) (sym (whole_mul a x)) (dot-wholes v w) ∙ sym (whole_add (a *ℤ x) (dot integers v w))

pub add-wholes : (v w : List ℤ) → add rationals (wholes v) (wholes w) ≡ wholes (add integers v w)
add-wholes [] w = refl
add-wholes (a ∷ v) [] = refl
add-wholes (a ∷ v) (x ∷ w) = ap₂ (λ (z : ℚ) (l : List ℚ). z ∷ l) (sym (whole_add a x)) (add-wholes v w)

pub times_vector-wholes : (rows : List (List ℤ)) (v : List ℤ) → times_vector rationals (whole_rows rows) (wholes v) ≡ wholes (times_vector integers rows v)
times_vector-wholes [] v = refl
times_vector-wholes (row ∷ rows) v = ap₂ (λ (z : ℚ) (l : List ℚ). z ∷ l) (dot-wholes row v) (times_vector-wholes rows v)

pub HasWidth-wholes : (n : ℕ) (rows : List (List ℤ)) → HasWidth n rows → HasWidth n (whole_rows rows)
HasWidth-wholes n [] h = tt
HasWidth-wholes n (row ∷ rows) h = (length-wholes row ∙ h.0, HasWidth-wholes n rows h.1)

pub wholes-same : (v w : List ℤ) → wholes v ≡ wholes w → v ≡ w
wholes-same [] [] e = refl
wholes-same [] (b ∷ w) e = absurd (cc)
wholes-same (a ∷ v) [] e = absurd (cc)
wholes-same (a ∷ v) (b ∷ w) e =
    let head : whole a ≡ whole b = cc in
    let tail : wholes v ≡ wholes w = cc in
    ap₂ (λ (z : ℤ) (l : List ℤ). z ∷ l) (whole_same a b head) (wholes-same v w tail)

-- ---- a common denominator

-- the vector times a whole number above 0 is a vector of whole numbers
pub record Cleared (z : List ℚ) : Type 0 where
  pub by : ℕ
  pub above : 0 < by
  pub numbers : List ℤ
  pub same : wholes numbers ≡ scale rationals (whole (pos by)) z

one_cleared : (q : ℚ) → whole (pos q.den) *ℚ q ≡ whole q.num
one_cleared q =
    ap₂ (λ a b. a *ℚ b) (whole-frac (pos q.den)) (sym (frac-self q))
    ∙ frac-mul (pos q.den) q.num 1 q.den (omega arith) (den_pos q)
    ∙ same_frac (pos q.den *ℤ q.num) q.num (1 * q.den) 1 (mul-pos (omega arith) (den_pos q)) (omega arith) (simp expand (omega linear))
    ∙ sym (whole-frac q.num)

scaled_wholes : (k : ℤ) (w : List ℤ) → wholes (scale integers k w) ≡ scale rationals (whole k) (wholes w)
scaled_wholes k [] = refl
scaled_wholes k (a ∷ w) = ap₂ (λ (z : ℚ) (l : List ℚ). z ∷ l) (whole_mul k a) (scaled_wholes k w)

scaled_twice : (a b : ℚ) (z : List ℚ) → scale rationals a (scale rationals b z) ≡ scale rationals (a *ℚ b) z
scaled_twice a b [] = refl
scaled_twice a b (q ∷ z) = ap₂ (λ (x : ℚ) (l : List ℚ). x ∷ l) (sym (rationals.mul_assoc a b q)) (scaled_twice a b z)

head_cleared : (q : ℚ) (d : ℕ) → whole (q.num *ℤ pos d) ≡ whole (pos (q.den * d)) *ℚ q
head_cleared q d =
    whole_mul q.num (pos d) ∙ ap (λ x. x *ℚ whole (pos d)) (sym (one_cleared q))
    ∙ ring rationals (whole (pos q.den) ∷ q ∷ whole (pos d) ∷ []) {x = (whole (pos q.den) *ℚ q) *ℚ whole (pos d)} {y = (whole (pos q.den) *ℚ whole (pos d)) *ℚ q} (search reads depth 30) (search reads depth 30) refl
    ∙ ap (λ x. x *ℚ q) (sym (whole_mul (pos q.den) (pos d)))

pub cleared : (z : List ℚ) → Cleared z
cleared [] = record { by = 1; above = omega arith; numbers = []; same = refl }
cleared (q ∷ z) = more (cleared z)
  where
    more : Cleared z → Cleared (q ∷ z)
    more c = record {
      by = q.den * c.by;
      above = mul-pos (den_pos q) c.above;
      numbers = (q.num *ℤ pos c.by) ∷ scale integers (pos q.den) c.numbers;
      same = ap₂ (λ (x : ℚ) (l : List ℚ). x ∷ l) (head_cleared q c.by)
          (scaled_wholes (pos q.den) c.numbers ∙ ap (scale rationals (whole (pos q.den))) c.same ∙ scaled_twice (whole (pos q.den)) (whole (pos c.by)) z ∙ ap (λ k. scale rationals k z) (sym (whole_mul (pos q.den) (pos c.by))));
    }

-- a factor above 0 is taken out
back_number : (k a : ℚ) → k ≢ none → inv_ℚ k *ℚ (k *ℚ a) ≡ a
back_number k a ne =
    ring rationals (k ∷ inv_ℚ k ∷ a ∷ []) {x = inv_ℚ k *ℚ (k *ℚ a)} {y = (k *ℚ inv_ℚ k) *ℚ a} (search reads depth 30) (search reads depth 30) refl ∙ ap (λ x. x *ℚ a) (mul_inv k ne) ∙ Laws.one_mul rationals a

back_list : (k : ℚ) (v : List ℚ) → k ≢ none → scale rationals (inv_ℚ k) (scale rationals k v) ≡ v
back_list k [] ne = refl
back_list k (a ∷ v) ne = ap₂ (λ (x : ℚ) (l : List ℚ). x ∷ l) (back_number k a ne) (back_list k v ne)

pub scale_same : (k : ℚ) (v w : List ℚ) → k ≢ none → scale rationals k v ≡ scale rationals k w → v ≡ w
scale_same k v w ne e = sym (back_list k v ne) ∙ ap (scale rationals (inv_ℚ k)) e ∙ back_list k w ne

pub by-ne : (d : ℕ) → 0 < d → whole (pos d) ≢ none
by-ne d h e = pos-ne-zero d h (sym (whole_num (pos d)) ∙ num_zero (whole (pos d)) e)

-- ---- frames

-- the left sides of equalities
abbrev pub forms_of : List Equality → List (List ℤ)
forms_of equalities = map (λ (equality : Equality). equality.form) equalities

-- a solution moved by a vector at which the forms are 0 is one
moved_meets : (equalities : List Equality) (x z : List ℤ) → length x ≡ length z → All (Meets x) equalities → times_vector integers (forms_of equalities) z ≡ zeros integers (length equalities) → All (Meets (add integers x z)) equalities
moved_meets [] x z long met kills = All-nil (Meets (add integers x z))
moved_meets (equality ∷ equalities) x z long met kills =
    let here : dot integers equality.form z ≡ pos 0 = cc in
    let rest : times_vector integers (forms_of equalities) z ≡ zeros integers (length equalities) = cc in
    All-cons (Meets (add integers x z)) equality equalities
    (Dot.dot-add_right integers equality.form x z long ∙ ap₂ (λ a b. a +ℤ b) (All-head (Meets x) equality equalities met) here ∙ integers.add_zero equality.side)
    (moved_meets equalities x z long (All-tail (Meets x) equality equalities met) rest)

whole_zeros : (n : ℕ) → wholes (zeros integers n) ≡ zeros rationals n
whole_zeros zero = refl
whole_zeros (suc n) = ap (λ (l : List ℚ). none ∷ l) (whole_zeros n)

module _ (equalities : List Equality) (s : Substitution) (shaped : IsShaped s) (frame : IsFrame equalities s) where
  lines_long : length (rows_in s.to_work.lines) ≡ columns_of s
  lines_long = Tables.length-rows_in s.to_work.lines

  -- x0 is a solution
  start : point_of s (zeros integers (dimension_of s)) ≡ s.to_work.base
  start =
      ap (add integers s.to_work.base) (Lists.times_vector-zeros integers (dimension_of s) (rows_in s.to_work.lines) ∙ ap (zeros integers) lines_long)
      ∙ Lists.add-zeros_right integers (columns_of s) s.to_work.base shaped.base

  pub base_solves : Solves (columns_of s) equalities s.to_work.base
  base_solves = subst (Solves (columns_of s) equalities) start (frame.into (zeros integers (dimension_of s)) (Matrix.length-zeros integers (dimension_of s)))

  -- K V z = z for whole z at which the forms are 0
  pub whole_kernel : (z : List ℤ) → length z ≡ columns_of s → times_vector integers (forms_of equalities) z ≡ zeros integers (length equalities)
      → times_vector integers (rows_in s.to_work.lines) (times_vector integers (rows_in s.back) z) ≡ z
  whole_kernel z long kills =
      let n = columns_of s in
      let base : List ℤ = s.to_work.base in
      let x : List ℤ = add integers s.to_work.base z in
      let there : length s.to_work.base ≡ columns_of s = shaped.base in
      let solves : Solves (columns_of s) equalities (add integers s.to_work.base z) = record {
        size = Matrix.length-add integers (columns_of s) s.to_work.base z there long;
        meets = moved_meets equalities s.to_work.base z (there ∙ sym long) base_solves.meets kills;
      } in
      let less : add integers (add integers s.to_work.base z) (negate integers s.to_work.base) ≡ z = Lists.less_first integers (columns_of s) s.to_work.base z there long in
      let back : add integers s.to_work.base (times_vector integers (rows_in s.to_work.lines) (times_vector integers (rows_in s.back) z)) ≡ add integers s.to_work.base z =
      ap (λ l. add integers s.to_work.base (times_vector integers (rows_in s.to_work.lines) (times_vector integers (rows_in s.back) l))) (sym less) ∙ frame.onto (add integers s.to_work.base z) solves in
      Lists.same_rest integers (columns_of s) s.to_work.base _ z there (Matrix.length-times_vector integers (rows_in s.to_work.lines) _ ∙ lines_long) long back

  -- K V z = z for rational z at which the forms are 0
  pub rational_kernel : (z : List ℚ) → length z ≡ columns_of s → times_vector rationals (whole_rows (forms_of equalities)) z ≡ zeros rationals (length equalities)
      → times_vector rationals (whole_rows (rows_in s.to_work.lines)) (times_vector rationals (whole_rows (rows_in s.back)) z) ≡ z
  rational_kernel z long kills =
      let c : Cleared z = cleared z in
      let k : ℚ = whole (pos (cleared z).by) in
      let w : List ℤ = (cleared z).numbers in
      let long_w : length w ≡ columns_of s = sym (length-wholes w) ∙ ap length (cleared z).same ∙ Matrix.length-scale rationals k z ∙ long in
      let rows = whole_rows (forms_of equalities) in
      let kills_w : times_vector integers (forms_of equalities) w ≡ zeros integers (length equalities) =
      wholes-same _ _ (sym (times_vector-wholes (forms_of equalities) w) ∙ ap (times_vector rationals (whole_rows (forms_of equalities))) (cleared z).same ∙ Matrix.times_vector-scale rationals (whole_rows (forms_of equalities)) k z ∙ ap (scale rationals k) kills ∙ Lists.scale-zeros rationals (length equalities) k ∙ sym (whole_zeros (length equalities))) in
      let kernel = whole_kernel w long_w kills_w in
      let lines = whole_rows (rows_in s.to_work.lines) in
      let back = whole_rows (rows_in s.back) in
      scale_same k _ z (by-ne (cleared z).by (cleared z).above)
      (sym (Matrix.times_vector-scale rationals (whole_rows (rows_in s.to_work.lines)) k (times_vector rationals (whole_rows (rows_in s.back)) z))
      ∙ ap (times_vector rationals (whole_rows (rows_in s.to_work.lines))) (sym (Matrix.times_vector-scale rationals (whole_rows (rows_in s.back)) k z) ∙ ap (times_vector rationals (whole_rows (rows_in s.back))) (sym (cleared z).same) ∙ times_vector-wholes (rows_in s.back) w)
      ∙ times_vector-wholes (rows_in s.to_work.lines) (times_vector integers (rows_in s.back) w)
      ∙ ap wholes kernel
      ∙ (cleared z).same)
