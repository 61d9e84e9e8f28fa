-- The points of a reached dictionary: any values of the variables outside give one solution.
use Rattle.std.proofs.Common.{◌≡◌, ℕ, suc, ◌+◌, ◌-◌, ◌<◌, ◌≤◌, inl, inr, List, [], ◌∷◌, ◌++◌, length, map, get_or, take, drop, refl, sym, ap, ap₂, subst, ◌∙◌, arith, length-append, All}
use Rattle.std.specs.List.{AllZip}
use Rattle.std.proofs.lemmas.List.{length-map, map-append, get_or-map, get_or_append_left, get_or-append_right, take_more, take_all, length-take-le, take-append-drop, get_or-take}
use Rattle.exact_math.specs.Rational.{ℚ, ◌+ℚ◌, ◌-ℚ◌, ◌*ℚ◌, ◌≤ℚ◌}
use Rattle.exact_math.specs.RationalOrder as Order
use Rattle.exact_math.specs.RationalRing.{rationals}
use Rattle.exact_math.specs.RingSolver.{ring, reads}
use Rattle.exact_math.specs.RingLaws as Laws
use Rattle.exact_vectors.specs.Vectors.{dot, zeros}
use Rattle.exact_vectors.specs.Matrices.{HasWidth, times_vector, column}
use Rattle.exact_vectors.specs.DotLaws as Dot
use Rattle.exact_vectors.specs.MatrixLaws as Matrix
use Rattle.lp_dict.specs.Dictionaries.{Dictionary, none, one, Solves, entry_at, numbers_from}
use Rattle.lp_dict.specs.Systems.{slacks, IsPoint}
use Rattle.lp_solve.specs.Values.{value_of, constants, vertex}
use Rattle.lp_solve.proofs.ExchangeLaws.{IsDistinct, same_items, value_at}
use Rattle.lp_solve.proofs.ReachedLaws.{IsReached, reached_distinct}
use Rattle.lp_solve.proofs.StartLaws.{parts, numbers-at, length-numbers, solution_is}
use Rattle.lp_solve.proofs.ValueLaws.{lt_or_le, value_of-cases, value_of-zeros, value_of-more}

-- values for each variable of a list
pub map_values : (ks : List ℕ) (qs : List ℚ) → IsDistinct ks → length qs ≡ length ks → map (value_of ks qs) ks ≡ qs
map_values ks qs d e =
    same_items (map (value_of ks qs) ks) qs none (length-map ks (value_of ks qs) ∙ sym e) (λ i lt.
    let inside : i < length ks = omega (arith, length-map ks (value_of ks qs)) in
    get_or-map (value_of ks qs) ks i 0 none inside ∙ value_at ks qs i d inside (omega arith))

-- a row and its constant
pub row_split : (row u : List ℚ) → length row ≡ length u + 1 → dot rationals row (u ++ one ∷ []) ≡ dot rationals row u +ℚ get_or row (length u) none
row_split [] u e = absurd (omega arith)
row_split (a ∷ []) [] e = ring rationals (a ∷ []) {x = a *ℚ one +ℚ none} {y = none +ℚ a} (search reads depth 30) (search reads depth 30) refl
row_split (a ∷ (b ∷ row)) [] e = absurd (omega arith)
row_split (a ∷ row) (x ∷ u) e = ap (λ z. a *ℚ x +ℚ z) (row_split row u (omega arith)) ∙ sym (rationals.add_assoc (a *ℚ x) (dot rationals row u) (get_or row (length u) none))

-- no slack below 0
met_from_slacks : (rows : List (List ℚ)) (limits y : List ℚ) → length limits ≡ length rows → All (λ s. none ≤ℚ s) (slacks rows limits y) → AllZip ◌≤ℚ◌ (times_vector rationals rows y) limits
met_from_slacks [] [] y e h = tt
met_from_slacks [] (a ∷ limits) y e h = absurd (omega arith)
met_from_slacks (row ∷ rows) [] y e h = absurd (omega arith)
met_from_slacks (row ∷ rows) (a ∷ limits) y e h = (
  Order.le_from_difference (dot rationals row y) a (a -ℚ dot rationals row y) (h 0 none (omega arith)) (ring rationals (a ∷ dot rationals row y ∷ []) {x = a} {y = dot rationals row y +ℚ (a -ℚ dot rationals row y)} (search reads depth 30) (search reads depth 30) refl),
  met_from_slacks rows limits y (omega arith) (λ k d lt. h (suc k) d (omega arith)),
)

module _ (rows : List (List ℚ)) (limits form : List ℚ) (width : HasWidth (length form) rows) (many : length limits ≡ length rows) (d : Dictionary) (r : IsReached rows limits form d) (u : List ℚ) (size : length u ≡ length d.outside) where
  -- what the rows give
  pub gives : List ℚ
  gives = times_vector rationals d.rows (u ++ one ∷ [])

  pub length-gives : length gives ≡ length d.basic + 1
  unfolding gives
  length-gives = Matrix.length-times_vector rationals d.rows (u ++ one ∷ []) ∙ r.shape.height

  -- the values of all variables
  pub given : ℕ → ℚ
  given = value_of (d.basic ++ d.outside) (take (length d.basic) gives ++ u)

  basic_long : length (take (length d.basic) gives) ≡ length d.basic
  basic_long = length-take-le (length d.basic) gives (omega (arith, length-gives))

  all_given : map given d.basic ++ map given d.outside ≡ take (length d.basic) gives ++ u
  unfolding given
  all_given =
      let total : length (take (length d.basic) gives ++ u) ≡ length (d.basic ++ d.outside) = length-append (take (length d.basic) gives) u ∙ ap₂ (λ a b. a + b) basic_long size ∙ sym (length-append d.basic d.outside) in
      sym (map-append given d.basic d.outside) ∙ map_values (d.basic ++ d.outside) (take (length d.basic) gives ++ u) (reached_distinct rows limits form d r) total

  both : (map given d.basic ≡ take (length d.basic) gives) × (map given d.outside ≡ u)
  both = parts (map given d.basic) (map given d.outside) (take (length d.basic) gives) u (length-map d.basic given ∙ sym basic_long) all_given

  pub outside_given : map given d.outside ≡ u
  outside_given = both.1

  -- they are a solution
  solves : Solves d given (get_or gives (length d.basic) none)
  unfolding gives
  solves =
      let inside : length d.basic < length gives = omega (arith, length-gives) in
      let few : length gives ≤ length d.basic + 1 = omega (arith, length-gives) in
      ap (λ l. times_vector rationals d.rows (l ++ one ∷ [])) both.1 ∙ sym (take_all (length d.basic + 1) gives few) ∙ take_more gives (length d.basic) none inside ∙ ap (λ l. l ++ get_or gives (length d.basic) none ∷ []) (sym both.0)

  -- the point of it
  unfoldable pub point : List ℚ
  point = map given (numbers_from 0 (length form))

  pub length-point : length point ≡ length form
  unfolding point
  length-point = length-map (numbers_from 0 (length form)) given ∙ length-numbers 0 (length form)

  -- the form's value there
  pub point_value : dot rationals form point ≡ get_or gives (length d.basic) none
  unfolding point
  point_value = (solution_is rows limits form width many given (get_or gives (length d.basic) none) ((r.same given (get_or gives (length d.basic) none)).0 solves)).1

  point_slacks : slacks rows limits point ≡ map given (numbers_from (length form) (length rows))
  unfolding point
  point_slacks = (solution_is rows limits form width many given (get_or gives (length d.basic) none) ((r.same given (get_or gives (length d.basic) none)).0 solves)).0

  -- no slack is below 0
  slack_given : ((i : ℕ) → i < length d.basic → length form ≤ get_or d.basic i 0 → none ≤ℚ get_or gives i none) → ((j : ℕ) → j < length d.outside → length form ≤ get_or d.outside j 0 → none ≤ℚ get_or u j none) → (v : ℕ) → length form ≤ v → none ≤ℚ given v
  unfolding given
  slack_given basic_ok outside_ok v slack = value_of-cases (λ q. none ≤ℚ q) (d.basic ++ d.outside) (take (length d.basic) gives ++ u) v (Order.le_refl none) (λ i lt e.
      elim (lt_or_le i (length d.basic)) [
        | inl h ↦
            let is : get_or d.basic i 0 ≡ v = sym (get_or_append_left d.basic d.outside 0 i h) ∙ e in
            let long : i < length (take (length d.basic) gives) = omega (arith, basic_long) in
            subst (λ q. none ≤ℚ q) (sym (get_or_append_left (take (length d.basic) gives) u none i long ∙ get_or-take (length d.basic) gives i none h)) (basic_ok i h (omega arith))
        | inr h ↦
            let total : length (d.basic ++ d.outside) ≡ length d.basic + length d.outside = length-append d.basic d.outside in
            let is : get_or d.outside (i - length d.basic) 0 ≡ v = sym (get_or-append_right d.basic d.outside (length d.basic) i 0 refl h) ∙ e in
            subst (λ q. none ≤ℚ q) (sym (get_or-append_right (take (length d.basic) gives) u (length d.basic) i none basic_long h)) (outside_ok (i - length d.basic) (omega arith) (omega arith))
      ])

  -- it is one of the system where no slack is below 0
  pub is_point : ((i : ℕ) → i < length d.basic → length form ≤ get_or d.basic i 0 → none ≤ℚ get_or gives i none) → ((j : ℕ) → j < length d.outside → length form ≤ get_or d.outside j 0 → none ≤ℚ get_or u j none) → IsPoint (length form) rows limits point
  is_point basic_ok outside_ok = record {
    coordinates = length-point;
    met = met_from_slacks rows limits point many (subst (All (λ s. none ≤ℚ s)) (sym point_slacks) all);
  }
    where
      all : All (λ s. none ≤ℚ s) (map given (numbers_from (length form) (length rows)))
      all k e lt =
          let place : k < length (numbers_from (length form) (length rows)) = omega (arith, length-map (numbers_from (length form) (length rows)) given) in
          let inside : k < length rows = omega (arith, length-numbers (length form) (length rows)) in
          subst (λ q. none ≤ℚ q) (sym (get_or-map given (numbers_from (length form) (length rows)) k 0 e place ∙ ap given (numbers-at (length form) (length rows) k inside))) (slack_given basic_ok outside_ok (length form + k) (omega arith))

  -- what one row gives
  pub given_at : (i : ℕ) → i < length d.rows → get_or gives i none ≡ dot rationals (get_or d.rows i []) u +ℚ entry_at d i (length d.outside)
  unfolding gives
  given_at i h =
      Matrix.times_vector-at rationals d.rows (u ++ one ∷ []) i none [] h
      ∙ row_split (get_or d.rows i []) u (Matrix.HasWidth-at rationals (length d.outside + 1) d.rows i [] r.shape.width h ∙ ap (λ n. n + 1) (sym size))
      ∙ ap (λ j. dot rationals (get_or d.rows i []) u +ℚ get_or (get_or d.rows i []) j none) size

-- ---- the vertex

-- zeros outside give the constants
zeros_give : (n : ℕ) (rows : List (List ℚ)) → HasWidth (n + 1) rows → times_vector rationals rows (zeros rationals n ++ one ∷ []) ≡ column rationals rows n
zeros_give n [] w = refl
zeros_give n (row ∷ rows) w =
    let size : length (zeros rationals n) ≡ n = Matrix.length-zeros rationals n in
    ap₂ (λ (a : ℚ) (l : List ℚ). a ∷ l)
    (row_split row (zeros rationals n) (w.0 ∙ ap (λ k. k + 1) (sym size)) ∙ ap₂ (λ a b. a +ℚ get_or row b none) (Dot.dot-zeros_right rationals n row) size ∙ Laws.zero_add rationals (get_or row n none))
    (zeros_give n rows w.1)

module _ (rows : List (List ℚ)) (limits form : List ℚ) (width : HasWidth (length form) rows) (many : length limits ≡ length rows) (d : Dictionary) (r : IsReached rows limits form d) where
  pub zero_size : length (zeros rationals (length d.outside)) ≡ length d.outside
  zero_size = Matrix.length-zeros rationals (length d.outside)

  pub vertex_gives : gives rows limits form width many d r (zeros rationals (length d.outside)) zero_size ≡ constants d
  unfolding gives
  vertex_gives = zeros_give (length d.outside) d.rows r.shape.width

  -- the vertex is the point of zeros outside
  pub vertex_is : vertex d ≡ point rows limits form width many d r (zeros rationals (length d.outside)) zero_size
  unfolding point given gives
  vertex_is =
      let t : List ℚ = times_vector rationals d.rows (zeros rationals (length d.outside) ++ one ∷ []) in
      let long : length t ≡ length d.basic + 1 = Matrix.length-times_vector rationals d.rows _ ∙ r.shape.height in
      let cut : length (take (length d.basic) t) ≡ length d.basic = length-take-le (length d.basic) t (omega arith) in
      let same : (v : ℕ) → value_of d.basic (constants d) v ≡ value_of (d.basic ++ d.outside) (take (length d.basic) t ++ zeros rationals (length d.outside)) v
      = λ v. ap (λ l. value_of d.basic l v) (sym (zeros_give (length d.outside) d.rows r.shape.width) ∙ sym (take-append-drop (length d.basic) t)) ∙ value_of-more d.basic (take (length d.basic) t) (drop (length d.basic) t) v cut ∙ sym (value_of-zeros d.basic d.outside (take (length d.basic) t) (length d.outside) v cut) in
      ap (λ n. map (value_of d.basic (constants d)) (numbers_from 0 n)) r.as_many_columns ∙ all_same (value_of d.basic (constants d)) _ (numbers_from 0 (length form)) same
    where
      all_same : (f g : ℕ → ℚ) (ks : List ℕ) → ((v : ℕ) → f v ≡ g v) → map f ks ≡ map g ks
      all_same f g [] h = refl
      all_same f g (k ∷ ks) h = ap₂ (λ (a : ℚ) (l : List ℚ). a ∷ l) (h k) (all_same f g ks h)
