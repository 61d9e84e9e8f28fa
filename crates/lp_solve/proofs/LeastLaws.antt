-- The last dictionary shows that its vertex is least: where the points are bounded no ray of them leads on.
use Rattle.std.proofs.Common.{◌≡◌, ◌≢◌, ℕ, zero, suc, ◌+◌, ◌<◌, ◌≤◌, ◌⊎◌, inl, inr, ℤ, pos, negsuc, ◌≤ℤ◌, ◌<ℤ◌, ◌*◌, ◌*ℤ◌, List, [], ◌∷◌, ◌++◌, length, map, get_or, set, refl, sym, ap, ap₂, subst, ◌∙◌, arith, All}
use Rattle.std.proofs.lemmas.Int.{ints}
use Rattle.std.proofs.lemmas.List.{length-map, length-set, get_or-map, get_or-set_same, get_or-set_other}
use Rattle.std.proofs.lemmas.List.Elements.{All-set}
use Rattle.std.proofs.Math.Seq.{get_or-append_seam}
use Rattle.exact_math.specs.IntegerRing.{expand, linear}
use Rattle.exact_math.specs.Rational.{ℚ, whole, neg_ℚ, ◌+ℚ◌, ◌-ℚ◌, ◌*ℚ◌, ◌≤ℚ◌, ◌<ℚ◌}
use Rattle.exact_math.specs.RationalLaws.{den_pos, frac-self, frac-mul, same_frac, whole-frac}
use Rattle.exact_math.specs.RationalOrder as Order
use Rattle.exact_math.specs.RationalRing.{rationals}
use Rattle.exact_math.specs.RingSolver.{ring, reads}
use Rattle.exact_math.specs.RingLaws as Laws
use Rattle.exact_vectors.specs.Vectors.{dot, zeros}
use Rattle.exact_vectors.specs.Matrices.{HasWidth}
use Rattle.exact_vectors.specs.DotLaws as Dot
use Rattle.exact_vectors.specs.MatrixLaws as Matrix
use Rattle.lp_dict.specs.Dictionaries.{Dictionary, none, one, Solves, entry_at, numbers_from}
use Rattle.lp_dict.specs.Systems.{slacks, IsPoint}
use Rattle.lp_solve.specs.Certificates.{ShowsLeast, IsBounded}
use Rattle.lp_solve.specs.Rule.{Lowers, Limits, NoneFree, NoneBelow, constant_at, form_at}
use Rattle.lp_solve.specs.Steps.{IsEnd}
use Rattle.lp_solve.specs.Values.{value_of, constants, vertex, form_multipliers}
use Rattle.lp_solve.proofs.CertificateLaws.{certificate}
use Rattle.lp_solve.proofs.EndLaws.{not_negative, one_nonneg, row_equation, free_entry}
use Rattle.lp_solve.proofs.ExchangeLaws.{exchange}
use Rattle.lp_solve.proofs.ReachedLaws.{IsReached, outside_distinct, outside_bound}
use Rattle.lp_solve.proofs.SolutionLaws.{gives, given, point, point_value, outside_given, is_point, given_at, length-point, vertex_gives, vertex_is, zero_size}
use Rattle.lp_solve.proofs.StartLaws.{values_at, slacks_at, point_solves, numbers-at, length-numbers}
use Rattle.lp_solve.proofs.ValueLaws.{value_of-cases}

-- one more is not less
one_more : (b : ℚ) → ¬ ((b +ℚ one) ≤ℚ b)
one_more b h =
    let less : (b +ℚ one +ℚ neg_ℚ b) ≤ℚ (b +ℚ neg_ℚ b) = Order.add_le_right (b +ℚ one) b (neg_ℚ b) h in
    let left : b +ℚ one +ℚ neg_ℚ b ≡ one = ring rationals (b ∷ []) {x = b +ℚ one +ℚ neg_ℚ b} {y = one} (search reads depth 30) (search reads depth 30) refl in
    let turned : one ≤ℚ none = subst (λ z. z ≤ℚ none) left (subst (λ z. (b +ℚ one +ℚ neg_ℚ b) ≤ℚ z) (rationals.add_neg b) less) in
    let no_way : pos 1 ≤ℤ pos 0 = Order.le_from_whole (pos 1) (pos 0) turned in
    absurd (omega (arith, ints))

-- a number times its denominator
times_den : (q : ℚ) → q *ℚ whole (pos q.den) ≡ whole q.num
times_den q =
    let h : 0 < q.den = den_pos q in
    let k : 0 < q.den * 1 = omega arith in
    ap₂ (λ a b. a *ℚ b) (sym (frac-self q)) (whole-frac (pos q.den)) ∙ frac-mul q.num (pos q.den) q.den 1 h (omega arith)
    ∙ same_frac (q.num *ℤ pos q.den) q.num (q.den * 1) 1 k (omega arith) (simp expand (omega linear)) ∙ sym (whole-frac q.num)

-- zeros, with one value in the place `q`
dot_single : (n q : ℕ) (t : ℚ) (row : List ℚ) → q < n → dot rationals row (set (zeros rationals n) q t) ≡ get_or row q none *ℚ t
dot_single n q t row h =
    let place : q < length (zeros rationals n) = omega (arith, Matrix.length-zeros rationals n) in
    Dot.dot-set_right rationals row (zeros rationals n) q t none place
    ∙ ap₂ (λ a b. a +ℚ get_or row q none *ℚ (t -ℚ b)) (Dot.dot-zeros_right rationals n row) (Matrix.zeros-at rationals n q)
    ∙ ring rationals (get_or row q none ∷ t ∷ []) {x = none +ℚ get_or row q none *ℚ (t -ℚ none)} {y = get_or row q none *ℚ t} (search reads depth 30) (search reads depth 30) refl

-- between bounds a form has a bound
lower_bound : (form : List ℚ) (b : ℚ) → (k : ℚ) × ((y : List ℚ) → length y ≡ length form → All (λ v. (neg_ℚ b ≤ℚ v) × (v ≤ℚ b)) y → neg_ℚ k ≤ℚ dot rationals form y)
lower_bound [] b = (none, λ y e h. subst (λ z. z ≤ℚ none) (sym (Laws.neg_zero rationals)) (Order.le_refl none))
lower_bound (a ∷ form) b = go (Order.le_or_lt none a) (lower_bound form b)
  where
    joined : (c k : ℚ) (x : ℚ) (y : List ℚ) → neg_ℚ c ≤ℚ (a *ℚ x) → neg_ℚ k ≤ℚ dot rationals form y → neg_ℚ (c +ℚ k) ≤ℚ (a *ℚ x +ℚ dot rationals form y)
    joined c k x y f g = subst (λ z. z ≤ℚ (a *ℚ x +ℚ dot rationals form y)) (sym (Laws.neg_add rationals c k)) (Order.add_le (neg_ℚ c) (a *ℚ x) (neg_ℚ k) (dot rationals form y) f g)

    go : (none ≤ℚ a) ⊎ (a <ℚ none) → (k : ℚ) × ((y : List ℚ) → length y ≡ length form → All (λ v. (neg_ℚ b ≤ℚ v) × (v ≤ℚ b)) y → neg_ℚ k ≤ℚ dot rationals form y)
        → (k : ℚ) × ((y : List ℚ) → length y ≡ suc (length form) → All (λ v. (neg_ℚ b ≤ℚ v) × (v ≤ℚ b)) y → neg_ℚ k ≤ℚ dot rationals (a ∷ form) y)
    go (inl up) rest = (a *ℚ b +ℚ rest.0, up_case)
      where
        up_case : (y : List ℚ) → length y ≡ suc (length form) → All (λ v. (neg_ℚ b ≤ℚ v) × (v ≤ℚ b)) y → neg_ℚ (a *ℚ b +ℚ rest.0) ≤ℚ dot rationals (a ∷ form) y
        up_case [] e h = absurd (omega arith)
        up_case (x ∷ y) e h = joined (a *ℚ b) rest.0 x y (subst (λ z. z ≤ℚ (a *ℚ x)) (Laws.mul_neg rationals a b) (Order.mul_le a (neg_ℚ b) x up (h 0 none (omega arith)).0)) (rest.1 y (omega arith) (λ k d lt. h (suc k) d (omega arith)))
    go (inr down) rest = (neg_ℚ a *ℚ b +ℚ rest.0, down_case)
      where
        up' : none ≤ℚ neg_ℚ a
        up' = subst (λ z. z ≤ℚ neg_ℚ a) (Laws.neg_zero rationals) (Order.neg_le a none (Order.le_of_lt a none down))

        down_case : (y : List ℚ) → length y ≡ suc (length form) → All (λ v. (neg_ℚ b ≤ℚ v) × (v ≤ℚ b)) y → neg_ℚ (neg_ℚ a *ℚ b +ℚ rest.0) ≤ℚ dot rationals (a ∷ form) y
        down_case [] e h = absurd (omega arith)
        down_case (x ∷ y) e h =
            let scaled : (neg_ℚ a *ℚ x) ≤ℚ (neg_ℚ a *ℚ b) = Order.mul_le (neg_ℚ a) x b up' (h 0 none (omega arith)).1 in
            let turned : neg_ℚ (neg_ℚ a *ℚ b) ≤ℚ neg_ℚ (neg_ℚ a *ℚ x) = Order.neg_le (neg_ℚ a *ℚ x) (neg_ℚ a *ℚ b) scaled in
            let same : neg_ℚ (neg_ℚ a *ℚ x) ≡ a *ℚ x = ring rationals (a ∷ x ∷ []) {x = neg_ℚ (neg_ℚ a *ℚ x)} {y = a *ℚ x} (search reads depth 30) (search reads depth 30) refl in
            joined (neg_ℚ a *ℚ b) rest.0 x y (subst (λ z. neg_ℚ (neg_ℚ a *ℚ b) ≤ℚ z) same turned) (rest.1 y (omega arith) (λ k d lt. h (suc k) d (omega arith)))

module _ (rows : List (List ℚ)) (limits form : List ℚ) (width : HasWidth (length form) rows) (many : length limits ≡ length rows) (bounded : IsBounded (length form) rows limits) (d : Dictionary) (r : IsReached rows limits form d) (none_free : NoneFree d) (none_below : NoneBelow d) where
  -- the constants of the slacks
  constant_ok : (i : ℕ) → i < length d.basic → length form ≤ get_or d.basic i 0 → none ≤ℚ constant_at d i
  constant_ok i h slack = not_negative (constant_at d i) (λ n. none_below i h (record { slack = omega (arith, r.as_many_columns); negative = n }))

  -- the values outside on a ray
  single : ℕ → ℚ → List ℚ
  single q t = set (zeros rationals (length d.outside)) q t

  single_size : (q : ℕ) (t : ℚ) → length (single q t) ≡ length d.outside
  unfolding single
  single_size q t = length-set _ q t ∙ Matrix.length-zeros rationals (length d.outside)

  -- not below 0
  single_ok : (q j : ℕ) (t : ℚ) → none ≤ℚ t → j < length d.outside → none ≤ℚ get_or (single q t) j none
  unfolding single
  single_ok q j t ok h =
      All-set (λ z. none ≤ℚ z) (zeros rationals (length d.outside)) q t ok (λ k e lt. zero_ok (length d.outside) k e lt) j none (omega (arith, length-set (zeros rationals (length d.outside)) q t, Matrix.length-zeros rationals (length d.outside)))
    where
      zero_ok : (n k : ℕ) (e : ℚ) → k < length (zeros rationals n) → none ≤ℚ get_or (zeros rationals n) k e
      zero_ok zero k e lt = absurd (omega arith)
      zero_ok (suc n) zero e lt = Order.le_refl none
      zero_ok (suc n) (suc k) e lt = zero_ok n k e (omega arith)

  -- what a row gives on it
  ray_row : (q i : ℕ) (t : ℚ) → q < length d.outside → i < length d.rows → get_or (gives rows limits form width many d r (single q t) (single_size q t)) i none ≡ entry_at d i q *ℚ t +ℚ entry_at d i (length d.outside)
  unfolding single
  ray_row q i t h k = given_at rows limits form width many d r (single q t) (single_size q t) i k ∙ ap (λ z. z +ℚ entry_at d i (length d.outside)) (dot_single (length d.outside) q t (get_or d.rows i []) h)

  -- no coordinate is outside
  pub no_coordinate : (q : ℕ) → q < length d.outside → get_or d.outside q 0 < length d.outside → ⊥
  unfolding single point
  no_coordinate q h low =
      let t : ℚ = bounded.bound +ℚ one in
      let u : List ℚ = single q t in
      let size = single_size q t in
      let p = is_point rows limits form width many d r u size basic_ok outside_ok in
      let k : ℕ = get_or d.outside q 0 in
      let inside : k < length form = omega (arith, r.as_many_columns) in
      let place : q < length (map (given rows limits form width many d r u size) d.outside) = simp length-map h in
      let value : given rows limits form width many d r u size k ≡ t
      = sym (get_or-map (given rows limits form width many d r u size) d.outside q 0 none h) ∙ ap (λ l. get_or l q none) (outside_given rows limits form width many d r u size) ∙ get_or-set_same (zeros rationals (length d.outside)) q t none (omega (arith, Matrix.length-zeros rationals (length d.outside))) in
      let item : get_or (point rows limits form width many d r u size) k none ≡ t
      = get_or-map (given rows limits form width many d r u size) (numbers_from 0 (length form)) k 0 none (omega (arith, length-numbers 0 (length form))) ∙ ap (given rows limits form width many d r u size) (numbers-at 0 (length form) k inside ∙ (let start : 0 + k ≡ k = omega arith in start)) ∙ value in
      let within = bounded.within (point rows limits form width many d r u size) p k none (omega (arith, length-point rows limits form width many d r u size)) in
      one_more bounded.bound (subst (λ z. z ≤ℚ bounded.bound) item within.1)
    where
      basic_ok : (i : ℕ) → i < length d.basic → length form ≤ get_or d.basic i 0 → none ≤ℚ get_or (gives rows limits form width many d r (single q (bounded.bound +ℚ one)) (single_size q (bounded.bound +ℚ one))) i none
      basic_ok i k slack =
          let free : entry_at d i q ≡ none = free_entry rows limits form width many d r none_free i q k h (omega (arith, r.as_many_columns)) low in
          let row_there : i < length d.rows = omega (arith, r.shape.height) in
          subst (λ z. none ≤ℚ z) (sym (ray_row q i (bounded.bound +ℚ one) h row_there ∙ ap (λ z. z *ℚ (bounded.bound +ℚ one) +ℚ constant_at d i) free ∙ ap (λ z. z +ℚ constant_at d i) (Laws.zero_mul rationals (bounded.bound +ℚ one)) ∙ Laws.zero_add rationals (constant_at d i))) (constant_ok i k slack)

      outside_ok : (j : ℕ) → j < length d.outside → length form ≤ get_or d.outside j 0 → none ≤ℚ get_or (single q (bounded.bound +ℚ one)) j none
      outside_ok j k slack =
          let apart : j ≢ q = λ e. absurd (omega (arith, ap (λ i. get_or d.outside i 0) e, r.as_many_columns)) in
          subst (λ z. none ≤ℚ z) (sym (get_or-set_other (zeros rationals (length d.outside)) q j (bounded.bound +ℚ one) none apart ∙ Matrix.zeros-at rationals (length d.outside) j)) (Order.le_refl none)

  -- the vertex is a point
  pub vertex_point : IsPoint (length form) rows limits (vertex d)
  vertex_point =
      subst (IsPoint (length form) rows limits) (sym (vertex_is rows limits form width many d r))
      (is_point rows limits form width many d r (zeros rationals (length d.outside)) (zero_size rows limits form width many d r)
      (λ i h slack. subst (λ l. none ≤ℚ get_or l i none) (sym (vertex_gives rows limits form width many d r)) (subst (λ z. none ≤ℚ z) (sym (Matrix.column-at rationals d.rows (length d.outside) i [] none (omega (arith, r.shape.height)))) (constant_ok i h slack)))
      (λ j h slack. subst (λ z. none ≤ℚ z) (sym (Matrix.zeros-at rationals (length d.outside) j)) (Order.le_refl none)))

  -- the form's value there
  pub vertex_value : dot rationals form (vertex d) ≡ form_at d (length d.outside)
  vertex_value =
      ap (dot rationals form) (vertex_is rows limits form width many d r)
      ∙ point_value rows limits form width many d r (zeros rationals (length d.outside)) (zero_size rows limits form width many d r)
      ∙ ap (λ l. get_or l (length d.basic) none) (vertex_gives rows limits form width many d r)
      ∙ Matrix.column-at rationals d.rows (length d.outside) (length d.basic) [] none (omega (arith, r.shape.height))

  -- no slack lowers the form without a limit
  pub no_ray : (q : ℕ) → q < length d.outside → Lowers d q → ((i : ℕ) → i < length d.basic → ¬ (Limits d q i)) → ⊥
  no_ray q h low unlimited =
      let lower = lower_bound form bounded.bound in
      let k : ℚ = lower.0 in
      let f : ℚ = form_at d q in
      let c : ℚ = form_at d (length d.outside) in
      let s : ℚ = (c +ℚ k) +ℚ one in
      let den : ℚ = whole (pos f.den) in
      let vertex_long : length (vertex d) ≡ length form = length-map (numbers_from 0 (length d.outside)) (value_of d.basic (constants d)) ∙ length-numbers 0 (length d.outside) ∙ r.as_many_columns in
      let low_bound : neg_ℚ k ≤ℚ c = subst (λ z. neg_ℚ k ≤ℚ z) vertex_value (lower.1 (vertex d) vertex_long (bounded.within (vertex d) vertex_point)) in
      let base : none ≤ℚ (c +ℚ k) = subst (λ z. z ≤ℚ (c +ℚ k)) (Laws.neg_add_self rationals k) (Order.add_le_right (neg_ℚ k) c k low_bound) in
      let steps : none ≤ℚ s = sum_nonneg (c +ℚ k) one base one_nonneg in
      let den_ok : none ≤ℚ den = Order.whole_le (pos 0) (pos f.den) (omega (arith, ints)) in
      let t : ℚ = s *ℚ den in
      let t_ok : none ≤ℚ t = Order.mul_nonneg s den steps den_ok in
      let size = single_size q t in
      let p = is_point rows limits form width many d r (single q t) size (basic_ok t t_ok) (outside_ok t t_ok) in
      let form_there : length d.basic < length d.rows = omega (arith, r.shape.height) in
      let value : dot rationals form (point rows limits form width many d r (single q t) size) ≡ f *ℚ t +ℚ c = point_value rows limits form width many d r (single q t) size ∙ ray_row q (length d.basic) t h form_there in
      let bound : neg_ℚ k ≤ℚ (f *ℚ t +ℚ c) = subst (λ z. neg_ℚ k ≤ℚ z) value (lower.1 (point rows limits form width many d r (single q t) size) (length-point rows limits form width many d r (single q t) size) (bounded.within (point rows limits form width many d r (single q t) size) p)) in
      let moved : f *ℚ t ≡ s *ℚ whole f.num = exchanged f s den ∙ ap (λ z. s *ℚ z) (times_den f) in
      let falls : (s *ℚ whole f.num) ≤ℚ (s *ℚ whole (negsuc 0)) = Order.mul_le s (whole f.num) (whole (negsuc 0)) steps (Order.whole_le f.num (negsuc 0) (below_one f.num low.negative)) in
      let total : (f *ℚ t +ℚ c) ≤ℚ (s *ℚ whole (negsuc 0) +ℚ c) = subst (λ z. (z +ℚ c) ≤ℚ (s *ℚ whole (negsuc 0) +ℚ c)) (sym moved) (Order.add_le_right (s *ℚ whole f.num) (s *ℚ whole (negsuc 0)) c falls) in
      let end : s *ℚ whole (negsuc 0) +ℚ c ≡ neg_ℚ k -ℚ one = ends c k in
      let past : neg_ℚ k ≤ℚ (neg_ℚ k -ℚ one) = subst (λ z. neg_ℚ k ≤ℚ z) end (Order.le_trans (neg_ℚ k) (f *ℚ t +ℚ c) (s *ℚ whole (negsuc 0) +ℚ c) bound total) in
      one_more (neg_ℚ k -ℚ one) (subst (λ z. z ≤ℚ (neg_ℚ k -ℚ one)) (back k) past)
    where
      sum_nonneg : (a b : ℚ) → none ≤ℚ a → none ≤ℚ b → none ≤ℚ (a +ℚ b)
      sum_nonneg a b x y = subst (λ z. z ≤ℚ (a +ℚ b)) (rationals.add_zero none) (Order.add_le none a none b x y)

      below_one : (z : ℤ) → z <ℤ pos 0 → z ≤ℤ negsuc 0
      below_one z n = omega (arith, ints)

      exchanged : (f s den : ℚ) → f *ℚ (s *ℚ den) ≡ s *ℚ (f *ℚ den)
      exchanged f s den = ring rationals (f ∷ s ∷ den ∷ []) (search reads depth 30) (search reads depth 30) refl

      ends : (c k : ℚ) → ((c +ℚ k) +ℚ one) *ℚ whole (negsuc 0) +ℚ c ≡ neg_ℚ k -ℚ one
      ends c k = ring rationals (c ∷ k ∷ []) (search reads depth 40) (search reads depth 40) refl

      back : (k : ℚ) → neg_ℚ k ≡ (neg_ℚ k -ℚ one) +ℚ one
      back k = ring rationals (k ∷ []) (search reads depth 30) (search reads depth 30) refl

      basic_ok : (t : ℚ) (t_ok : none ≤ℚ t) (i : ℕ) → i < length d.basic → length form ≤ get_or d.basic i 0 → none ≤ℚ get_or (gives rows limits form width many d r (single q t) (single_size q t)) i none
      basic_ok t t_ok i k slack =
          let row_there : i < length d.rows = omega (arith, r.shape.height) in
          let entry_ok : none ≤ℚ entry_at d i q = not_negative (entry_at d i q) (λ n. unlimited i k (record { slack = omega (arith, r.as_many_columns); negative = n })) in
          subst (λ z. none ≤ℚ z) (sym (ray_row q i t h row_there)) (sum_nonneg (entry_at d i q *ℚ t) (constant_at d i) (Order.mul_nonneg (entry_at d i q) t entry_ok t_ok) (constant_ok i k slack))

      outside_ok : (t : ℚ) (t_ok : none ≤ℚ t) (j : ℕ) → j < length d.outside → length form ≤ get_or d.outside j 0 → none ≤ℚ get_or (single q t) j none
      outside_ok t t_ok j k slack = single_ok q j t t_ok k

  -- the multipliers and the value give the form at each point
  gives_form : (y : List ℚ) → length y ≡ length form → dot rationals form y ≡ dot rationals (form_multipliers d) (slacks rows limits y) +ℚ form_at d (length d.outside)
  gives_form y e =
      let x : ℕ → ℚ = values_at rows limits form width many y in
      let z : ℚ = dot rationals form y in
      let row : List ℚ = get_or d.rows (length d.basic) [] in
      let solved : Solves d x z = (r.same x z).1 (point_solves rows limits form width many y e) in
      let there : length d.basic < length d.rows = omega (arith, r.shape.height) in
      let last : get_or (map x d.basic ++ z ∷ []) (length d.basic) none ≡ z = ap (λ k. get_or (map x d.basic ++ z ∷ []) k none) (sym (length-map d.basic x)) ∙ get_or-append_seam (map x d.basic) z [] none in
      let long : length row ≡ length d.outside + 1 = Matrix.HasWidth-at rationals (length d.outside + 1) d.rows (length d.basic) [] r.shape.width there in
      let sums : dot rationals (form_multipliers d) (map x (numbers_from (length d.outside) (length d.basic))) ≡ dot rationals row (map x d.outside)
      = exchange x d.outside row (length d.outside) (length d.basic) (outside_distinct rows limits form d r) (omega arith) (λ j lt. omega (arith, outside_bound rows limits form d r j lt, r.as_many_columns, r.as_many_rows)) (λ j lt low. absurd (no_coordinate j lt low)) in
      sym (row_equation rows limits form width many d r x z (length d.basic) solved there ∙ last)
      ∙ ap (λ v. v +ℚ form_at d (length d.outside)) (sym sums ∙ ap (dot rationals (form_multipliers d)) (ap₂ (λ a b. map x (numbers_from a b)) r.as_many_columns r.as_many_rows ∙ slacks_at rows limits form width many y e))

  -- they are not negative
  form_not_negative : ((j : ℕ) → j < length d.outside → ¬ (Lowers d j)) → All (λ q. none ≤ℚ q) (form_multipliers d)
  form_not_negative none_lowers k e lt =
      let numbers : List ℕ = numbers_from (length d.outside) (length d.basic) in
      let f : ℕ → ℚ = value_of d.outside (get_or d.rows (length d.basic) []) in
      let place : k < length numbers = omega (arith, length-map numbers f) in
      let inside : k < length d.basic = omega (arith, length-numbers (length d.outside) (length d.basic)) in
      subst (λ q. none ≤ℚ q) (sym (get_or-map f numbers k 0 e place ∙ ap f (numbers-at (length d.outside) (length d.basic) k inside)))
      (value_of-cases (λ q. none ≤ℚ q) d.outside (get_or d.rows (length d.basic) []) (length d.outside + k) (Order.le_refl none)
      (λ j h g. not_negative (form_at d j) (λ n. none_lowers j h (record { slack = omega (arith, g); negative = n }))))

  pub least_shown : IsEnd d → ShowsLeast (length form) rows limits form (vertex d) (form_at d (length d.outside)) (form_multipliers d)
  least_shown e = elim e.column [ inl none_lowers ↦ shown none_lowers | inr ray ↦ absurd (no_ray ray.0 ray.1.inside ray.1.holds ray.2) ]
    where
      shown : ((j : ℕ) → j < length d.outside → ¬ (Lowers d j)) → ShowsLeast (length form) rows limits form (vertex d) (form_at d (length d.outside)) (form_multipliers d)
      shown none_lowers =
          let both = certificate (length form) rows limits form (form_multipliers d) (form_at d (length d.outside)) width many refl gives_form in
          record {
            meets = vertex_point;
            at_point = sym vertex_value;
            as_many = length-map (numbers_from (length d.outside) (length d.basic)) _ ∙ length-numbers (length d.outside) (length d.basic) ∙ r.as_many_rows;
            not_negative = form_not_negative none_lowers;
            factors = both.0;
            limit = both.1;
          }
