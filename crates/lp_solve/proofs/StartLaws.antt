-- The dictionary in which each slack is basic: its solutions are the points with their slacks and the form's value.
use Rattle.std.proofs.Common.{◌≡◌, ℕ, zero, suc, ◌+◌, ◌<◌, List, [], ◌∷◌, ◌++◌, length, map, get_or, take, drop, refl, sym, ap, ap₂, subst, ◌∙◌, arith, length-append, append-nil}
use Rattle.std.proofs.lemmas.List.{length-map, get_or-map, get_or-append-add, get_or_append_left}
use Rattle.std.proofs.Math.Seq.{take-append_seam, drop-append_seam}
use Rattle.exact_math.specs.Rational.{ℚ, neg_ℚ, ◌+ℚ◌, ◌-ℚ◌, ◌*ℚ◌}
use Rattle.exact_math.specs.RationalRing.{rationals}
use Rattle.exact_math.specs.RingSolver.{ring, reads}
use Rattle.exact_vectors.specs.Vectors.{dot, negate}
use Rattle.exact_vectors.specs.Matrices.{HasWidth, times_vector}
use Rattle.exact_vectors.specs.DotLaws as Dot
use Rattle.lp_dict.specs.Dictionaries.{Dictionary, none, one, Solves, numbers_from, slack_row, slack_rows, first_dictionary}
use Rattle.lp_dict.specs.PivotLaws.{IsDictionary}
use Rattle.lp_dict.specs.Systems.{slacks}
use Rattle.lp_solve.proofs.ExchangeLaws.{same_items}

-- two lists that are joined behind as many items are equal where their parts are
pub parts : {A : Type 0} (a b c d : List A) → length a ≡ length c → a ++ b ≡ c ++ d → (a ≡ c) × (b ≡ d)
parts a b c d e h = (
  sym (take-append_seam a b) ∙ ap (take (length a)) h ∙ ap (λ k. take k (c ++ d)) e ∙ take-append_seam c d,
  sym (drop-append_seam a b) ∙ ap (drop (length a)) h ∙ ap (λ k. drop k (c ++ d)) e ∙ drop-append_seam c d,
)

-- the product of joined matrices
pub times-append : (a b : List (List ℚ)) (u : List ℚ) → times_vector rationals (a ++ b) u ≡ times_vector rationals a u ++ times_vector rationals b u
times-append [] b u = refl
times-append (row ∷ a) b u = ap (λ l. dot rationals row u ∷ l) (times-append a b u)

-- minus each item has as many items
length-negate : (v : List ℚ) → length (negate rationals v) ≡ length v
length-negate v = length-map v neg_ℚ

-- a last item
pub dot_last : (v y : List ℚ) (a : ℚ) → length v ≡ length y → dot rationals (v ++ a ∷ []) (y ++ one ∷ []) ≡ dot rationals v y +ℚ a
dot_last v y a e = Dot.dot-append rationals v (a ∷ []) y (one ∷ []) e ∙ ring rationals (dot rationals v y ∷ a ∷ []) {x = dot rationals v y +ℚ (a *ℚ one +ℚ none)} {y = dot rationals v y +ℚ a} (search reads depth 30) (search reads depth 30) refl

-- the row of a slack gives the slack
slack_is : (row y : List ℚ) (h : ℚ) → length row ≡ length y → dot rationals (slack_row row h) (y ++ one ∷ []) ≡ h -ℚ dot rationals row y
slack_is row y h e =
    dot_last (negate rationals row) y h (length-negate row ∙ e) ∙ ap (λ z. z +ℚ h) (Dot.dot-negate_left rationals row y) ∙ rationals.add_comm (neg_ℚ (dot rationals row y)) h

-- the rows of the slacks give the slacks
times_slack_rows : (n : ℕ) (rows : List (List ℚ)) (limits y : List ℚ) → HasWidth n rows → length y ≡ n → times_vector rationals (slack_rows rows limits) (y ++ one ∷ []) ≡ slacks rows limits y
times_slack_rows n [] limits y w e = refl
times_slack_rows n (row ∷ rows) [] y w e = refl
times_slack_rows n (row ∷ rows) (h ∷ limits) y w e = ap₂ (λ (a : ℚ) (l : List ℚ). a ∷ l) (slack_is row y h (w.0 ∙ sym e)) (times_slack_rows n rows limits y w.1 e)

-- how many slacks there are
pub length-slacks : (rows : List (List ℚ)) (limits y : List ℚ) → length limits ≡ length rows → length (slacks rows limits y) ≡ length rows
length-slacks [] limits y e = refl
length-slacks (row ∷ rows) [] y e = absurd (omega arith)
length-slacks (row ∷ rows) (h ∷ limits) y e = ap suc (length-slacks rows limits y (omega arith))

-- one of the numbers
pub numbers-at : (first count i : ℕ) → i < count → get_or (numbers_from first count) i 0 ≡ first + i
numbers-at first zero i h = absurd (omega arith)
numbers-at first (suc count) zero h = omega arith
numbers-at first (suc count) (suc i) h = let rest : get_or (numbers_from (suc first) count) i 0 ≡ suc first + i = numbers-at (suc first) count i (omega arith) in omega arith

-- how many they are
pub length-numbers : (first count : ℕ) → length (numbers_from first count) ≡ count
length-numbers first zero = refl
length-numbers first (suc count) = ap suc (length-numbers (suc first) count)

-- the values that a list gives to the numbers of its places
pub values_by_place : (before items behind : List ℚ) → map (λ v. get_or (before ++ (items ++ behind)) v none) (numbers_from (length before) (length items)) ≡ items
values_by_place before items behind =
    let f : ℕ → ℚ = λ v. get_or (before ++ (items ++ behind)) v none in
    let size : length (map f (numbers_from (length before) (length items))) ≡ length items = length-map (numbers_from (length before) (length items)) f ∙ length-numbers (length before) (length items) in
    same_items _ items none size (λ i lt.
    let inside : i < length items = omega arith in
    let place : i < length (numbers_from (length before) (length items)) = omega (arith, length-numbers (length before) (length items)) in
    get_or-map f (numbers_from (length before) (length items)) i 0 none place
    ∙ ap f (numbers-at (length before) (length items) i inside)
    ∙ get_or-append-add before (items ++ behind) i none ∙ get_or_append_left items behind none i inside)

module _ (rows : List (List ℚ)) (limits form : List ℚ) (width : HasWidth (length form) rows) (many : length limits ≡ length rows) where
  first : Dictionary
  first = first_dictionary rows limits form

  -- what the rows give
  first_times : (y : List ℚ) → length y ≡ length form → times_vector rationals (first_dictionary rows limits form).rows (y ++ one ∷ []) ≡ slacks rows limits y ++ dot rationals form y ∷ []
  first_times y e =
      times-append (slack_rows rows limits) ((form ++ none ∷ []) ∷ []) (y ++ one ∷ [])
      ∙ ap₂ (λ a b. a ++ b ∷ []) (times_slack_rows (length form) rows limits y width e) (dot_last form y none (sym e) ∙ rationals.add_zero (dot rationals form y))

  -- the values of all variables at a point
  pub values_at : List ℚ → ℕ → ℚ
  values_at y v = get_or (y ++ slacks rows limits y) v none

  -- the coordinates among them
  coordinates_at : (y : List ℚ) → length y ≡ length form → map (values_at y) (numbers_from 0 (length form)) ≡ y
  unfolding values_at
  coordinates_at y e = ap (λ n. map (values_at y) (numbers_from 0 n)) (sym e) ∙ values_by_place [] y (slacks rows limits y)

  -- the slacks among them
  pub slacks_at : (y : List ℚ) → length y ≡ length form → map (values_at y) (numbers_from (length form) (length rows)) ≡ slacks rows limits y
  unfolding values_at
  slacks_at y e =
      ap₂ (λ a b. map (values_at y) (numbers_from a b)) (sym e) (sym (length-slacks rows limits y many))
      ∙ ap (λ l. map (λ v. get_or (y ++ l) v none) (numbers_from (length y) (length (slacks rows limits y)))) (sym (append-nil (slacks rows limits y)))
      ∙ values_by_place y (slacks rows limits y) []

  -- each point solves the first dictionary
  pub point_solves : (y : List ℚ) → length y ≡ length form → Solves (first_dictionary rows limits form) (values_at y) (dot rationals form y)
  point_solves y e =
      ap (λ l. times_vector rationals (first_dictionary rows limits form).rows (l ++ one ∷ [])) (coordinates_at y e) ∙ first_times y e ∙ ap (λ l. l ++ dot rationals form y ∷ []) (sym (slacks_at y e))

  -- and each solution is one of a point
  pub solution_is : (x : ℕ → ℚ) (z : ℚ) → Solves (first_dictionary rows limits form) x z
      → (slacks rows limits (map x (numbers_from 0 (length form))) ≡ map x (numbers_from (length form) (length rows))) × (dot rationals form (map x (numbers_from 0 (length form))) ≡ z)
  solution_is x z s =
      let y : List ℚ = map x (numbers_from 0 (length form)) in
      let e : length y ≡ length form = length-map (numbers_from 0 (length form)) x ∙ length-numbers 0 (length form) in
      let joined : slacks rows limits y ++ dot rationals form y ∷ [] ≡ map x (numbers_from (length form) (length rows)) ++ z ∷ [] = sym (first_times y e) ∙ s in
      let same : length (slacks rows limits y) ≡ length (map x (numbers_from (length form) (length rows))) = length-slacks rows limits y many ∙ sym (length-map (numbers_from (length form) (length rows)) x ∙ length-numbers (length form) (length rows)) in
      let both = parts (slacks rows limits y) (dot rationals form y ∷ []) (map x (numbers_from (length form) (length rows))) (z ∷ []) same joined in
      (both.0, ap (λ l. get_or l 0 none) both.1)

-- the width of the slack rows and the form's
first_width : (n : ℕ) (rows : List (List ℚ)) (limits last : List ℚ) → HasWidth n rows → length last ≡ n + 1 → HasWidth (n + 1) (slack_rows rows limits ++ last ∷ [])
first_width n [] limits last w e = (e, tt)
first_width n (row ∷ rows) [] last w e = (e, tt)
first_width n (row ∷ rows) (h ∷ limits) last w e = (length-append (negate rationals row) (h ∷ []) ∙ ap (λ k. k + 1) (length-negate row ∙ w.0), first_width n rows limits last w.1 e)

-- how many they are
first_height : (rows : List (List ℚ)) (limits last : List ℚ) → length limits ≡ length rows → length (slack_rows rows limits ++ last ∷ []) ≡ length rows + 1
first_height [] limits last e = refl
first_height (row ∷ rows) [] last e = absurd (omega arith)
first_height (row ∷ rows) (h ∷ limits) last e = let next : suc (length rows + 1) ≡ suc (length rows) + 1 = omega arith in ap suc (first_height rows limits last (omega arith)) ∙ next

-- the first dictionary has the shape
pub first_is_dictionary : (rows : List (List ℚ)) (limits form : List ℚ) → HasWidth (length form) rows → length limits ≡ length rows → IsDictionary (first_dictionary rows limits form)
first_is_dictionary rows limits form width many = record {
  width = subst (λ n. HasWidth (n + 1) (slack_rows rows limits ++ (form ++ none ∷ []) ∷ [])) (sym (length-numbers 0 (length form))) (first_width (length form) rows limits (form ++ none ∷ []) width (length-append form (none ∷ [])));
  height = first_height rows limits (form ++ none ∷ []) many ∙ ap (λ n. n + 1) (sym (length-numbers (length form) (length rows)));
}
