-- A row is a combination of others, or some vector at which they are 0 shows that it is none.
use Rattle.std.proofs.Common.{◌≡◌, ◌≢◌, ◌⊎◌, inl, inr, ⊎_elim, ℕ, zero, suc, ◌<◌, ℤ, pos, negsuc, List, [], ◌∷◌, length, get_or, set, refl, sym, ap, ap₂, ◌∙◌, arith}
use Rattle.std.proofs.lemmas.List.{length-set}
use Rattle.exact_math.specs.IntegerRing.{linear}
use Rattle.exact_math.specs.Rational.{ℚ, whole, neg_ℚ, inv_ℚ, ◌+ℚ◌, ◌*ℚ◌, ◌/ℚ◌}
use Rattle.exact_math.specs.RationalLaws.{num_zero, zero_from_num}
use Rattle.exact_math.specs.RationalRing.{rationals, div_mul}
use Rattle.exact_math.specs.RingLaws as Laws
use Rattle.exact_math.specs.RingSolver.{ring, reads}
use Rattle.exact_vectors.specs.Vectors.{dot, add, scale, zeros}
use Rattle.exact_vectors.specs.Matrices.{HasWidth, times_vector, combination}
use Rattle.exact_vectors.specs.DotLaws as Dot
use Rattle.exact_vectors.specs.MatrixLaws as Matrix
use Rattle.farkas_lift.proofs.Lists as Lists

abbrev pub none : ℚ
none = whole (pos 0)

-- a whole number is 0 or not
number_or : (z : ℤ) → (z ≡ pos 0) ⊎ (z ≢ pos 0)
number_or (pos zero) = inl refl
number_or (pos (suc n)) = inr (λ e. absurd (omega linear))
number_or (negsuc n) = inr (λ e. absurd (omega linear))

-- so is a fraction
pub zero_or : (a : ℚ) → (a ≡ none) ⊎ (a.num ≢ pos 0)
zero_or a = ⊎_elim (λ e. inl (zero_from_num a e)) (λ ne. inr ne) (number_or a.num)

-- a list is all 0, or has an item that is not
zeros_or : (v : List ℚ) → (v ≡ zeros rationals (length v)) ⊎ ((j : ℕ) × (j < length v) × ((get_or v j none).num ≢ pos 0))
zeros_or [] = inl refl
zeros_or (a ∷ v) =
    ⊎_elim
    (λ e. ⊎_elim
    (λ rest. inl (ap₂ (λ (z : ℚ) (l : List ℚ). z ∷ l) e rest))
    (λ (found : (j : ℕ) × (j < length v) × ((get_or v j none).num ≢ pos 0)). inr (suc found.0, omega (arith, found.1), found.2))
    (zeros_or v))
    (λ ne. inr (0, omega arith, ne))
    (zero_or a)

-- the multipliers sum the forms up to the row
pub record Sums (n : ℕ) (forms : List (List ℚ)) (h : List ℚ) : Type 0 where
  pub multipliers : List ℚ
  pub as_many : length multipliers ≡ length forms
  pub sum : combination rationals n multipliers forms ≡ h

-- each form is 0 at the vector, and the row is not
pub record Witness (n : ℕ) (forms : List (List ℚ)) (h : List ℚ) : Type 0 where
  pub vector : List ℚ
  pub long : length vector ≡ n
  pub kills : times_vector rationals forms vector ≡ zeros rationals (length forms)
  pub keeps : (dot rationals h vector).num ≢ pos 0

one : ℚ
one = whole (pos 1)

unit_value : (p q : ℚ) → p +ℚ q *ℚ (whole (pos 1) +ℚ neg_ℚ (whole (pos 0))) ≡ p +ℚ q
unit_value p q = ring rationals (p ∷ q ∷ []) (search reads depth 30) (search reads depth 30) refl

-- the row has this value at a unit vector
dot_unit : (n j : ℕ) (h : List ℚ) → j < n → dot rationals h (set (zeros rationals n) j (whole (pos 1))) ≡ get_or h j none
dot_unit n j h lt =
    Dot.dot-set_right rationals h (zeros rationals n) j (whole (pos 1)) none (omega (arith, Matrix.length-zeros rationals n))
    ∙ ap₂ (λ p q. p +ℚ get_or h j none *ℚ (whole (pos 1) +ℚ neg_ℚ q)) (Dot.dot-zeros_right rationals n h) (Matrix.zeros-at rationals n j)
    ∙ unit_value none (get_or h j none)
    ∙ Laws.zero_add rationals (get_or h j none)

-- what is left of a value
left_over : (a b : ℚ) → b.num ≢ pos 0 → a +ℚ neg_ℚ (a /ℚ b) *ℚ b ≡ none
left_over a b ne =
    ring rationals (a ∷ b ∷ inv_ℚ b ∷ []) {x = a +ℚ neg_ℚ (a *ℚ inv_ℚ b) *ℚ b} {y = a +ℚ neg_ℚ ((a *ℚ inv_ℚ b) *ℚ b)} (search reads depth 30) (search reads depth 30) refl
    ∙ ap (λ z. a +ℚ neg_ℚ z) (div_mul a b ne)
    ∙ rationals.add_neg a

exchanged : (hv fv hz i : ℚ) → hv +ℚ neg_ℚ (fv *ℚ i) *ℚ hz ≡ hv +ℚ neg_ℚ (hz *ℚ i) *ℚ fv
exchanged hv fv hz i = ring rationals (hv ∷ fv ∷ hz ∷ i ∷ []) (search reads depth 30) (search reads depth 30) refl

-- the value of a row with a multiple added
dot_more : (n : ℕ) (u f z : List ℚ) (k : ℚ) → length u ≡ n → length f ≡ n → dot rationals (add rationals u (scale rationals k f)) z ≡ dot rationals u z +ℚ k *ℚ dot rationals f z
dot_more n u f z k e g = Dot.dot-add_left rationals u (scale rationals k f) z (e ∙ sym (Matrix.length-scale rationals k f ∙ g)) ∙ ap (λ t. dot rationals u z +ℚ t) (Dot.dot-scale_left rationals k f z)

-- the value at a vector with a multiple added
dot_at_more : (n : ℕ) (h u z : List ℚ) (k : ℚ) → length u ≡ n → length z ≡ n → dot rationals h (add rationals u (scale rationals k z)) ≡ dot rationals h u +ℚ k *ℚ dot rationals h z
dot_at_more n h u z k e g = Dot.dot-add_right rationals h u (scale rationals k z) (e ∙ sym (Matrix.length-scale rationals k z ∙ g)) ∙ ap (λ t. dot rationals h u +ℚ t) (Dot.dot-scale_right rationals k h z)

-- forms that are 0 at two vectors are 0 at one with a multiple of the other added
kills_more : (n : ℕ) (forms : List (List ℚ)) (u z : List ℚ) (k : ℚ) → length u ≡ n → length z ≡ n → times_vector rationals forms u ≡ zeros rationals (length forms) → times_vector rationals forms z ≡ zeros rationals (length forms)
    → times_vector rationals forms (add rationals u (scale rationals k z)) ≡ zeros rationals (length forms)
kills_more n forms u z k e g a b =
    Matrix.times_vector-add rationals forms u (scale rationals k z) (e ∙ sym (Matrix.length-scale rationals k z ∙ g))
    ∙ ap₂ (add rationals) a (Matrix.times_vector-scale rationals forms k z ∙ ap (scale rationals k) b ∙ Lists.scale-zeros rationals (length forms) k)
    ∙ Lists.add-zeros_right rationals (length forms) (zeros rationals (length forms)) (Matrix.length-zeros rationals (length forms))

-- a combination of forms that are 0 at a vector is 0 there
combined_kill : (n : ℕ) (forms : List (List ℚ)) (m h v : List ℚ) → HasWidth n forms → combination rationals n m forms ≡ h → times_vector rationals forms v ≡ zeros rationals (length forms) → dot rationals h v ≡ none
combined_kill n forms m h v width sum kill =
    ap (λ l. dot rationals l v) (sym sum) ∙ sym (Matrix.dot_times_vector rationals n m forms v width) ∙ ap (dot rationals m) kill ∙ Dot.dot-zeros_right rationals (length forms) m

pub sum_or_witness : (n : ℕ) (forms : List (List ℚ)) (h : List ℚ) → HasWidth n forms → length h ≡ n → Sums n forms h ⊎ Witness n forms h
sum_or_witness n [] h width e =
    ⊎_elim
    (λ all. inl (record { multipliers = []; as_many = refl; sum = ap (zeros rationals) (sym e) ∙ sym all }))
    (λ (found : (j : ℕ) × (j < length h) × ((get_or h j none).num ≢ pos 0)).
    inr (record {
      vector = set (zeros rationals n) found.0 (whole (pos 1));
      long = length-set (zeros rationals n) found.0 (whole (pos 1)) ∙ Matrix.length-zeros rationals n;
      kills = refl;
      keeps = λ z. found.2 (ap (λ (q : ℚ). q.num) (sym (dot_unit n found.0 h (omega (arith, found.1)))) ∙ z);
    }))
    (zeros_or h)
sum_or_witness n (f ∷ forms) h width e =
    ⊎_elim
    (λ (s : Sums n forms f). ⊎_elim (dependent s) (dependent_not s) (sum_or_witness n forms h width.1 e))
    (λ (w : Witness n forms f). ⊎_elim (taken w) (taken_not w) (sum_or_witness n forms (add rationals h (scale rationals (neg_ℚ (dot rationals h w.vector /ℚ dot rationals f w.vector)) f)) width.1 (Matrix.length-add rationals n h _ e (Matrix.length-scale rationals _ f ∙ width.0))))
    (sum_or_witness n forms f width.1 width.0)
  where
    dependent : Sums n forms f → Sums n forms h → Sums n (f ∷ forms) h ⊎ Witness n (f ∷ forms) h
    dependent s t = inl (record {
      multipliers = none ∷ t.multipliers;
      as_many = ap suc t.as_many;
      sum = Lists.add-none_left rationals n f (combination rationals n t.multipliers forms) width.0 (Matrix.length-combination rationals n t.multipliers forms width.1) ∙ t.sum;
    })

    dependent_not : Sums n forms f → Witness n forms h → Sums n (f ∷ forms) h ⊎ Witness n (f ∷ forms) h
    dependent_not s v = inr (record {
      vector = v.vector;
      long = v.long;
      kills = ap₂ (λ (z : ℚ) (l : List ℚ). z ∷ l) (combined_kill n forms s.multipliers f v.vector width.1 s.sum v.kills) v.kills;
      keeps = v.keeps;
    })

    taken : (w : Witness n forms f) → Sums n forms (add rationals h (scale rationals (neg_ℚ (dot rationals h w.vector /ℚ dot rationals f w.vector)) f)) → Sums n (f ∷ forms) h ⊎ Witness n (f ∷ forms) h
    taken w t = inl (record {
      multipliers = (dot rationals h w.vector /ℚ dot rationals f w.vector) ∷ t.multipliers;
      as_many = ap suc t.as_many;
      sum = ap (add rationals (scale rationals (dot rationals h w.vector /ℚ dot rationals f w.vector) f)) t.sum ∙ Lists.put_back rationals (dot rationals h w.vector /ℚ dot rationals f w.vector) n f h width.0 e;
    })

    taken_not : (w : Witness n forms f) → Witness n forms (add rationals h (scale rationals (neg_ℚ (dot rationals h w.vector /ℚ dot rationals f w.vector)) f)) → Sums n (f ∷ forms) h ⊎ Witness n (f ∷ forms) h
    taken_not w v =
        let hz : ℚ = dot rationals h w.vector in
        let fz : ℚ = dot rationals f w.vector in
        let fv : ℚ = dot rationals f v.vector in
        let hv : ℚ = dot rationals h v.vector in
        let moved : List ℚ = add rationals v.vector (scale rationals (neg_ℚ (dot rationals f v.vector /ℚ dot rationals f w.vector)) w.vector) in
        let of_f : dot rationals f moved ≡ none = dot_at_more n f v.vector w.vector _ v.long w.long ∙ left_over fv fz w.keeps in
        let of_h : dot rationals h moved ≡ dot rationals (add rationals h (scale rationals (neg_ℚ (dot rationals h w.vector /ℚ dot rationals f w.vector)) f)) v.vector =
        dot_at_more n h v.vector w.vector _ v.long w.long ∙ exchanged hv fv hz (inv_ℚ fz) ∙ sym (dot_more n h f v.vector _ e width.0) in
        inr (record {
          vector = moved;
          long = Matrix.length-add rationals n v.vector _ v.long (Matrix.length-scale rationals _ w.vector ∙ w.long);
          kills = ap₂ (λ (z : ℚ) (l : List ℚ). z ∷ l) of_f (kills_more n forms v.vector w.vector _ v.long w.long v.kills w.kills);
          keeps = λ z. v.keeps (ap (λ (q : ℚ). q.num) (sym of_h) ∙ z);
        })

-- a row that is 0 at each vector at which the forms are 0 is a combination of them
pub sums_where_orthogonal : (n : ℕ) (forms : List (List ℚ)) (h : List ℚ) → HasWidth n forms → length h ≡ n
    → ((z : List ℚ) → length z ≡ n → times_vector rationals forms z ≡ zeros rationals (length forms) → dot rationals h z ≡ none) → Sums n forms h
sums_where_orthogonal n forms h width e orthogonal =
    ⊎_elim (λ s. s) (λ (w : Witness n forms h). absurd (w.keeps (num_zero _ (orthogonal w.vector w.long w.kills)))) (sum_or_witness n forms h width e)
