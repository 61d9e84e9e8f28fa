-- Slacks that are counted in parts of a unit.
use Rattle.std.proofs.Common.{◌≡◌, ℕ, ◌+◌, ◌<◌, List, [], ◌∷◌, length, get_or, take, ℤ, pos, negsuc, ◌+ℤ◌, ◌-ℤ◌, ◌*ℤ◌, ◌≤ℤ◌, ◌<ℤ◌, map, refl, ap, sym, subst₂, ◌∙◌}
use Rattle.std.specs.Int.{int_div_euclid}
use Rattle.std.proofs.lemmas.List.{map_more, map-append}
use Rattle.exact_math.specs.IntegerRing.{linear}
use Rattle.exact_math.specs.QuotientLaws.{floor_div_below}
use Rattle.exact_math.specs.Ring.{integers}
use Rattle.exact_math.specs.RingSolver.{ring, reads}
use Rattle.exact_math.specs.Rational.{ℚ, whole, ◌+ℚ◌, ◌*ℚ◌, ◌≤ℚ◌}
use Rattle.exact_math.specs.RationalOrder.{add_le}
use Rattle.exact_math.specs.RationalRing.{rationals, whole_add}
use Rattle.exact_vectors.specs.Vectors.{dot, sum}
use Rattle.exact_vectors.specs.DotLaws as Dot
use Rattle.exact_vectors.specs.SumLaws.{sum-append}
use Rattle.farkas_rows.specs.Inequalities.{at_least}
use Rattle.node_point.specs.NodePoints.{Fractions}
use Rattle.shown_widths.specs.Points.{gap_of}

-- the quotient that is rounded down
pub floor_below : (n d : ℤ) → pos 0 <ℤ d → (int_div_euclid n d *ℤ d) ≤ℤ n
floor_below (pos a) (pos m) h = floor_div_below (pos a) m (omega linear)
floor_below (negsuc a) (pos m) h = floor_div_below (negsuc a) m (omega linear)
floor_below n (negsuc m) h = absurd (omega linear)

-- the slack of a form that is at least a side
pub gap-at_least : (form : List ℤ) (side : ℤ) (x : Fractions) → dot integers form x.numerators -ℤ side *ℤ x.denominator ≡ gap_of (at_least form side) x
gap-at_least form side x = sym (ap (λ z. (at_least form side).limit *ℤ x.denominator -ℤ z) (Dot.dot-negate_left integers form x.numerators) ∙ turned side x.denominator (dot integers form x.numerators))
  where
    turned : (s d v : ℤ) → integers.neg s *ℤ d -ℤ integers.neg v ≡ v -ℤ s *ℤ d
    turned s d v = ring integers (s ∷ d ∷ v ∷ []) (search reads depth 30) (search reads depth 30) refl

-- one more point is counted
pub count_more : {X : Type 0} (parts : ℕ) (f : List ℚ → ℚ) (g : X → List ℚ) (points : List X) (i : ℕ) (x : X) (total amount : ℤ) → i < length points → get_or points i x ≡ x → whole total ≤ℚ (whole (pos parts) *ℚ sum rationals (map f (map g (take i points)))) → whole amount ≤ℚ (whole (pos parts) *ℚ f (g x)) → whole (total +ℤ amount) ≤ℚ (whole (pos parts) *ℚ sum rationals (map f (map g (take (i + 1) points))))
count_more parts f g points i x total amount lt at before here =
    subst₂ ◌≤ℚ◌ (sym (whole_add total amount))
    (spread (whole (pos parts)) (sum rationals (map f (map g (take i points)))) (f (g x))
    ∙ ap (λ t. whole (pos parts) *ℚ t)
    (sym (ap (λ (l : List (List ℚ)). sum rationals (map f l)) (map_more g points i x lt)
    ∙ ap (sum rationals) (map-append f (map g (take i points)) (g (get_or points i x) ∷ []))
    ∙ sum-append rationals (map f (map g (take i points))) (f (g (get_or points i x)) ∷ [])
    ∙ ap (λ (y : List ℚ). sum rationals (map f (map g (take i points))) +ℚ (f y +ℚ whole (pos 0))) (ap g at)
    ∙ alone (sum rationals (map f (map g (take i points)))) (f (g x)))))
    (add_le _ _ _ _ before here)
  where
    spread : (p s t : ℚ) → p *ℚ s +ℚ p *ℚ t ≡ p *ℚ (s +ℚ t)
    spread p s t = ring rationals (p ∷ s ∷ t ∷ []) (search reads depth 30) (search reads depth 30) refl

    alone : (s t : ℚ) → s +ℚ (t +ℚ whole (pos 0)) ≡ s +ℚ t
    alone s t = ring rationals (s ∷ t ∷ []) (search reads depth 30) (search reads depth 30) refl
