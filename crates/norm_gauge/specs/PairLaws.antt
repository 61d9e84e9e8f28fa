-- The points of the pair system are the pairs of points that agree on the rows, and its program's value is minus the width.
use Rattle.std.proofs.Common.{◌≡◌, ℕ, ◌+◌, List, [], ◌∷◌, ◌++◌, length, map, take, drop, refl, sym, ap, ap₂, subst, ◌∙◌, arith, length-append}
use Rattle.std.specs.List.{AllZip}
use Rattle.std.proofs.lemmas.List.{length-map, length-take, length-drop, take-append-drop}
use Rattle.exact_math.specs.Rational.{ℚ, neg_ℚ, ◌+ℚ◌, ◌-ℚ◌, ◌≤ℚ◌}
use Rattle.exact_math.specs.RationalOrder as Order
use Rattle.exact_math.specs.RationalRing.{rationals}
use Rattle.exact_math.specs.RingLaws as Laws
use Rattle.exact_math.specs.RingSolver.{ring, reads}
use Rattle.exact_vectors.specs.Vectors.{dot, negate, zeros}
use Rattle.exact_vectors.specs.Matrices.{HasWidth, times_vector}
use Rattle.exact_vectors.specs.DotLaws as Dot
use Rattle.exact_vectors.specs.MatrixLaws as Matrix
use Rattle.lp_dict.specs.Dictionaries.{none}
use Rattle.norm_gauge.specs.Widths.{Polytope, Has, ArePair, IsAtMost, difference}
use Rattle.norm_gauge.specs.PairSystems.{row_on_first, row_on_second, differences, no_differences, pair_rows, pair_system, pair_form}

-- ---- lists joined place by place

join_zip : {A : Type 0} (R : A → A → Type 0) (a b c d : List A) → AllZip R a b → AllZip R c d → AllZip R (a ++ c) (b ++ d)
join_zip R [] [] c d h k = k
join_zip R [] (y ∷ b) c d h k = absurd h
join_zip R (x ∷ a) [] c d h k = absurd h
join_zip R (x ∷ a) (y ∷ b) c d h k = (h.0, join_zip R a b c d h.1 k)

front_zip : {A : Type 0} (R : A → A → Type 0) (a b c d : List A) → length a ≡ length b → AllZip R (a ++ c) (b ++ d) → AllZip R a b
front_zip R [] [] c d e h = tt
front_zip R [] (y ∷ b) c d e h = absurd (omega arith)
front_zip R (x ∷ a) [] c d e h = absurd (omega arith)
front_zip R (x ∷ a) (y ∷ b) c d e h = (h.0, front_zip R a b c d (omega arith) h.1)

back_zip : {A : Type 0} (R : A → A → Type 0) (a b c d : List A) → length a ≡ length b → AllZip R (a ++ c) (b ++ d) → AllZip R c d
back_zip R [] [] c d e h = h
back_zip R [] (y ∷ b) c d e h = absurd (omega arith)
back_zip R (x ∷ a) [] c d e h = absurd (omega arith)
back_zip R (x ∷ a) (y ∷ b) c d e h = back_zip R a b c d (omega arith) h.1

-- ---- the rows of the pair system at two points

times_vector-append : (a b : List (List ℚ)) (z : List ℚ) → times_vector rationals (a ++ b) z ≡ times_vector rationals a z ++ times_vector rationals b z
times_vector-append [] b z = refl
times_vector-append (row ∷ a) b z = ap (λ l. dot rationals row z ∷ l) (times_vector-append a b z)

-- a row on the first point has its value there ..
times-first : (n : ℕ) (rows : List (List ℚ)) (x y : List ℚ) → HasWidth n rows → length x ≡ n → times_vector rationals (map (row_on_first n) rows) (x ++ y) ≡ times_vector rationals rows x
times-first n [] x y w e = refl
times-first n (row ∷ rows) x y w e =
    let value : dot rationals (row ++ zeros rationals n) (x ++ y) ≡ dot rationals row x =
    Dot.dot-append rationals row (zeros rationals n) x y (w.0 ∙ sym e) ∙ ap (λ t. dot rationals row x +ℚ t) (Dot.dot-zeros_left rationals n y) ∙ rationals.add_zero (dot rationals row x) in
    ap₂ (λ (a : ℚ) (l : List ℚ). a ∷ l) value (times-first n rows x y w.1 e)

-- .. and one on the second there
times-second : (n : ℕ) (rows : List (List ℚ)) (x y : List ℚ) → length x ≡ n → times_vector rationals (map (row_on_second n) rows) (x ++ y) ≡ times_vector rationals rows y
times-second n [] x y e = refl
times-second n (row ∷ rows) x y e =
    let value : dot rationals (zeros rationals n ++ row) (x ++ y) ≡ dot rationals row y =
    Dot.dot-append rationals (zeros rationals n) row x y (Matrix.length-zeros rationals n ∙ sym e) ∙ ap (λ t. t +ℚ dot rationals row y) (Dot.dot-zeros_left rationals n x) ∙ Laws.zero_add rationals (dot rationals row y) in
    ap₂ (λ (a : ℚ) (l : List ℚ). a ∷ l) value (times-second n rows x y e)

-- a row and the row with the other sign: the difference of the two points
pub difference_row : (row x y : List ℚ) → length row ≡ length x → dot rationals (row ++ negate rationals row) (x ++ y) ≡ difference row x y
difference_row row x y e = Dot.dot-append rationals row (negate rationals row) x y e ∙ ap (λ t. dot rationals row x +ℚ t) (Dot.dot-negate_left rationals row y)

-- the same with the signs the other way round
pub difference_row-negated : (row x y : List ℚ) → length row ≡ length x → dot rationals (negate rationals row ++ row) (x ++ y) ≡ neg_ℚ (difference row x y)
difference_row-negated row x y e =
    Dot.dot-append rationals (negate rationals row) row x y (length-map row neg_ℚ ∙ e) ∙ ap (λ t. t +ℚ dot rationals row y) (Dot.dot-negate_left rationals row x)
    ∙ ring rationals (dot rationals row x ∷ dot rationals row y ∷ []) {x = neg_ℚ (dot rationals row x) +ℚ dot rationals row y} {y = neg_ℚ (difference row x y)} (search reads depth 30) (search reads depth 30) refl

-- a difference of equal numbers
no_difference : (a b : ℚ) → a ≡ b → a -ℚ b ≡ none
no_difference a b e = ap (λ t. t -ℚ b) e ∙ rationals.add_neg b

at_most_zero : (d : ℚ) → d ≡ none → (d ≤ℚ none) × (neg_ℚ d ≤ℚ none)
at_most_zero d e =
    (subst (λ t. t ≤ℚ none) (sym e) (Order.le_refl none), subst (λ t. neg_ℚ t ≤ℚ none) (sym e) (subst (λ t. t ≤ℚ none) (sym (Laws.neg_zero rationals)) (Order.le_refl none)))

-- points that agree on the rows meet the inequalities on their differences ..
pub agree_meets : (n : ℕ) (fixed : List (List ℚ)) (x y : List ℚ) → HasWidth n fixed → length x ≡ n → times_vector rationals fixed x ≡ times_vector rationals fixed y → AllZip ◌≤ℚ◌ (times_vector rationals (differences fixed) (x ++ y)) (no_differences fixed)
agree_meets n [] x y w e a = tt
agree_meets n (row ∷ fixed) x y w e a =
    let heads : dot rationals row x ≡ dot rationals row y = cc in
    let rest : times_vector rationals fixed x ≡ times_vector rationals fixed y = cc in
    let both = at_most_zero (difference row x y) (no_difference (dot rationals row x) (dot rationals row y) heads) in
    (subst (λ t. t ≤ℚ none) (sym (difference_row row x y (w.0 ∙ sym e))) both.0, (subst (λ t. t ≤ℚ none) (sym (difference_row-negated row x y (w.0 ∙ sym e))) both.1, agree_meets n fixed x y w.1 e rest))

-- an inequality with both sides written in another way
le_as : (p q s t : ℚ) → p ≡ s → q ≡ t → p ≤ℚ q → s ≤ℚ t
le_as p q s t e f l = subst (λ z. z ≤ℚ t) e (subst (λ z. p ≤ℚ z) f l)

-- a number that is at most 0 with both signs is 0
zero_from_both : (a b : ℚ) → (a -ℚ b) ≤ℚ none → neg_ℚ (a -ℚ b) ≤ℚ none → a ≡ b
zero_from_both a b h k =
    Order.le_antisym a b (le_as ((a -ℚ b) +ℚ b) (none +ℚ b) a b (back a b) (Laws.zero_add rationals b) (Order.add_le_right (a -ℚ b) none b h))
    (le_as (neg_ℚ (a -ℚ b) +ℚ a) (none +ℚ a) b a (forth a b) (Laws.zero_add rationals a) (Order.add_le_right (neg_ℚ (a -ℚ b)) none a k))
  where
    back : (a b : ℚ) → (a -ℚ b) +ℚ b ≡ a
    back a b = ring rationals (a ∷ b ∷ []) (search reads depth 30) (search reads depth 30) refl

    forth : (a b : ℚ) → neg_ℚ (a -ℚ b) +ℚ a ≡ b
    forth a b = ring rationals (a ∷ b ∷ []) (search reads depth 30) (search reads depth 30) refl

-- .. and only these do
agree_from : (n : ℕ) (fixed : List (List ℚ)) (x y : List ℚ) → HasWidth n fixed → length x ≡ n → AllZip ◌≤ℚ◌ (times_vector rationals (differences fixed) (x ++ y)) (no_differences fixed) → times_vector rationals fixed x ≡ times_vector rationals fixed y
agree_from n [] x y w e h = refl
agree_from n (row ∷ fixed) x y w e h =
    let one : difference row x y ≤ℚ none = subst (λ t. t ≤ℚ none) (difference_row row x y (w.0 ∙ sym e)) h.0 in
    let other : neg_ℚ (difference row x y) ≤ℚ none = subst (λ t. t ≤ℚ none) (difference_row-negated row x y (w.0 ∙ sym e)) h.1.0 in
    ap₂ (λ (a : ℚ) (l : List ℚ). a ∷ l) (zero_from_both (dot rationals row x) (dot rationals row y) one other) (agree_from n fixed x y w.1 e h.1.1)

-- the rows of the pair system at two points: the rows at the first, the rows at the second, the differences
pub pair_rows-at : (n : ℕ) (rows fixed : List (List ℚ)) (x y : List ℚ) → HasWidth n rows → length x ≡ n
    → times_vector rationals (pair_rows n rows fixed) (x ++ y) ≡ times_vector rationals rows x ++ (times_vector rationals rows y ++ times_vector rationals (differences fixed) (x ++ y))
pair_rows-at n rows fixed x y w e =
    times_vector-append (map (row_on_first n) rows) (map (row_on_second n) rows ++ differences fixed) (x ++ y)
    ∙ ap₂ (λ (a b : List ℚ). a ++ b) (times-first n rows x y w e) (times_vector-append (map (row_on_second n) rows) (differences fixed) (x ++ y) ∙ ap (λ l. l ++ times_vector rationals (differences fixed) (x ++ y)) (times-second n rows x y e))

-- two points of the polytope meet the pair system but for the differences, whatever limits these have
pub meets_but : (p : Polytope) (fixed : List (List ℚ)) (high low last : List ℚ) → HasWidth p.coordinates p.rows → Has p high → Has p low
    → AllZip ◌≤ℚ◌ (times_vector rationals (differences fixed) (high ++ low)) last → AllZip ◌≤ℚ◌ (times_vector rationals (pair_rows p.coordinates p.rows fixed) (high ++ low)) (p.limits ++ (p.limits ++ last))
meets_but p fixed high low last w first second h =
    subst (λ l. AllZip ◌≤ℚ◌ l (p.limits ++ (p.limits ++ last))) (sym (pair_rows-at p.coordinates p.rows fixed high low w first.coordinates))
    (join_zip ◌≤ℚ◌ (times_vector rationals p.rows high) p.limits (times_vector rationals p.rows low ++ times_vector rationals (differences fixed) (high ++ low)) (p.limits ++ last) first.met (join_zip ◌≤ℚ◌ (times_vector rationals p.rows low) p.limits (times_vector rationals (differences fixed) (high ++ low)) last second.met h))

-- ---- the pairs and the points

-- a pair is a point of the pair system
pub point_from_pair : (p : Polytope) (fixed : List (List ℚ)) (high low : List ℚ) → HasWidth p.coordinates p.rows → HasWidth p.coordinates fixed → ArePair p fixed high low → Has (pair_system p fixed) (high ++ low)
point_from_pair p fixed high low w v pair = record {
  coordinates = length-append high low ∙ ap₂ (λ a b. a + b) pair.first.coordinates pair.second.coordinates;
  met = meets_but p fixed high low (no_differences fixed) w pair.first pair.second (agree_meets p.coordinates fixed high low v pair.first.coordinates pair.agree);
}

-- two lists whose join is a point of it are a pair
pair_from_joined : (p : Polytope) (fixed : List (List ℚ)) (high low : List ℚ) → HasWidth p.coordinates p.rows → HasWidth p.coordinates fixed → length p.limits ≡ length p.rows → length high ≡ p.coordinates → length low ≡ p.coordinates
    → Has (pair_system p fixed) (high ++ low) → ArePair p fixed high low
pair_from_joined p fixed high low w v many h l point =
    let met : AllZip ◌≤ℚ◌ (times_vector rationals p.rows high ++ (times_vector rationals p.rows low ++ times_vector rationals (differences fixed) (high ++ low))) (p.limits ++ (p.limits ++ no_differences fixed)) =
    subst (λ l. AllZip ◌≤ℚ◌ l (p.limits ++ (p.limits ++ no_differences fixed))) (pair_rows-at p.coordinates p.rows fixed high low w h) point.met in
    let as_many : (y : List ℚ) → length (times_vector rationals p.rows y) ≡ length p.limits = λ y. Matrix.length-times_vector rationals p.rows y ∙ sym many in
    let behind : AllZip ◌≤ℚ◌ (times_vector rationals p.rows low ++ times_vector rationals (differences fixed) (high ++ low)) (p.limits ++ no_differences fixed) =
    back_zip ◌≤ℚ◌ (times_vector rationals p.rows high) p.limits (times_vector rationals p.rows low ++ times_vector rationals (differences fixed) (high ++ low)) (p.limits ++ no_differences fixed) (as_many high) met in
    record {
      first = record { coordinates = h; met = front_zip ◌≤ℚ◌ (times_vector rationals p.rows high) p.limits (times_vector rationals p.rows low ++ times_vector rationals (differences fixed) (high ++ low)) (p.limits ++ no_differences fixed) (as_many high) met };
      second = record { coordinates = l; met = front_zip ◌≤ℚ◌ (times_vector rationals p.rows low) p.limits (times_vector rationals (differences fixed) (high ++ low)) (no_differences fixed) (as_many low) behind };
      agree = agree_from p.coordinates fixed high low v h (back_zip ◌≤ℚ◌ (times_vector rationals p.rows low) p.limits (times_vector rationals (differences fixed) (high ++ low)) (no_differences fixed) (as_many low) behind);
    }

-- a point of the pair system is a pair: its first coordinates and the others
pub pair_from_point : (p : Polytope) (fixed : List (List ℚ)) (point : List ℚ) → HasWidth p.coordinates p.rows → HasWidth p.coordinates fixed → length p.limits ≡ length p.rows → Has (pair_system p fixed) point
    → ArePair p fixed (take p.coordinates point) (drop p.coordinates point)
pair_from_point p fixed point w v many has =
    let h : length (take p.coordinates point) ≡ p.coordinates = simp length-take (omega (arith, has.coordinates)) in
    let l : length (drop p.coordinates point) ≡ p.coordinates = simp length-drop (omega (arith, has.coordinates)) in
    pair_from_joined p fixed (take p.coordinates point) (drop p.coordinates point) w v many h l (subst (Has (pair_system p fixed)) (sym (take-append-drop p.coordinates point)) has)

-- ---- the width from the programs

-- where no point of the pair system has less, no pair is further apart
pub most_from_pairs : (p : Polytope) (fixed : List (List ℚ)) (form : List ℚ) (value : ℚ) → HasWidth p.coordinates p.rows → HasWidth p.coordinates fixed → length form ≡ p.coordinates
    → ((z : List ℚ) → Has (pair_system p fixed) z → value ≤ℚ dot rationals (pair_form form) z) → IsAtMost p fixed form (neg_ℚ value)
most_from_pairs p fixed form value w v e least high low pair =
    let above : value ≤ℚ neg_ℚ (difference form high low) = subst (λ t. value ≤ℚ t) (difference_row-negated form high low (e ∙ sym pair.first.coordinates)) (least (high ++ low) (point_from_pair p fixed high low w v pair)) in
    subst (λ t. t ≤ℚ neg_ℚ value) (Laws.neg_neg rationals (difference form high low)) (Order.neg_le value (neg_ℚ (difference form high low)) above)

-- where no point has less than the one number in the form and none more than the other, no pair is further apart than these
pub most_from_ends : (p : Polytope) (form : List ℚ) (least greatest : ℚ) → ((y : List ℚ) → Has p y → least ≤ℚ dot rationals form y) → ((y : List ℚ) → Has p y → neg_ℚ greatest ≤ℚ dot rationals (negate rationals form) y)
    → IsAtMost p [] form (greatest -ℚ least)
most_from_ends p form least greatest below above high low pair =
    let turned : neg_ℚ greatest ≤ℚ neg_ℚ (dot rationals form high) = subst (λ t. neg_ℚ greatest ≤ℚ t) (Dot.dot-negate_left rationals form high) (above high pair.first) in
    let top : dot rationals form high ≤ℚ greatest =
    subst (λ t. t ≤ℚ greatest) (Laws.neg_neg rationals (dot rationals form high)) (subst (λ t. neg_ℚ (neg_ℚ (dot rationals form high)) ≤ℚ t) (Laws.neg_neg rationals greatest) (Order.neg_le (neg_ℚ greatest) (neg_ℚ (dot rationals form high)) turned)) in
    Order.add_le (dot rationals form high) greatest (neg_ℚ (dot rationals form low)) (neg_ℚ least) top (Order.neg_le least (dot rationals form low) (below low pair.second))

-- ---- the rows have as many factors as the pairs have coordinates

HasWidth-append : (n : ℕ) (a b : List (List ℚ)) → HasWidth n a → HasWidth n b → HasWidth n (a ++ b)
HasWidth-append n [] b h k = k
HasWidth-append n (row ∷ a) b h k = (h.0, HasWidth-append n a b h.1 k)

first-wide : (n : ℕ) (rows : List (List ℚ)) → HasWidth n rows → HasWidth (n + n) (map (row_on_first n) rows)
first-wide n [] w = tt
first-wide n (row ∷ rows) w = (length-append row (zeros rationals n) ∙ ap₂ (λ a b. a + b) w.0 (Matrix.length-zeros rationals n), first-wide n rows w.1)

second-wide : (n : ℕ) (rows : List (List ℚ)) → HasWidth n rows → HasWidth (n + n) (map (row_on_second n) rows)
second-wide n [] w = tt
second-wide n (row ∷ rows) w = (length-append (zeros rationals n) row ∙ ap₂ (λ a b. a + b) (Matrix.length-zeros rationals n) w.0, second-wide n rows w.1)

differences-wide : (n : ℕ) (fixed : List (List ℚ)) → HasWidth n fixed → HasWidth (n + n) (differences fixed)
differences-wide n [] w = tt
differences-wide n (row ∷ fixed) w =
    let other : length (negate rationals row) ≡ n = length-map row neg_ℚ ∙ w.0 in
    (length-append row (negate rationals row) ∙ ap₂ (λ a b. a + b) w.0 other, (length-append (negate rationals row) row ∙ ap₂ (λ a b. a + b) other w.0, differences-wide n fixed w.1))

pub pair_rows-wide : (n : ℕ) (rows fixed : List (List ℚ)) → HasWidth n rows → HasWidth n fixed → HasWidth (n + n) (pair_rows n rows fixed)
pair_rows-wide n rows fixed w v =
    HasWidth-append (n + n) (map (row_on_first n) rows) (map (row_on_second n) rows ++ differences fixed) (first-wide n rows w) (HasWidth-append (n + n) (map (row_on_second n) rows) (differences fixed) (second-wide n rows w) (differences-wide n fixed v))

-- one more row
pub HasWidth-more : (n : ℕ) (fixed : List (List ℚ)) (row : List ℚ) → HasWidth n fixed → length row ≡ n → HasWidth n (fixed ++ row ∷ [])
HasWidth-more n fixed row w l = HasWidth-append n fixed (row ∷ []) w (l, tt)
