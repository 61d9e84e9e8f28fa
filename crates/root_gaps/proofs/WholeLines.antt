-- The least whole line of items that are taken whole numbers of times, which no number but 1 divides, and its weight.
use Rattle.std.proofs.Common.{◌≡◌, ℕ, ◌+◌, ◌*◌, nat_abs, ℤ, pos, ◌*ℤ◌, ◌+ℤ◌, ◌<ℤ◌, List, [], ◌∷◌, ◌++◌, map, refl, sym, ap, ap₂, ◌∙◌, arith, All}
use Rattle.std.specs.Int.{◌∣◌}
use Rattle.std.specs.List.{AllZip}
use Rattle.std.specs.Prelude.{Option, None}
use Rattle.std.proofs.Math.IntN.{pos-*ℤ-pos}
use Rattle.std.proofs.lemmas.List.Elements.{All-nil, All-cons, All-head, All-tail, All-map}
use Rattle.exact_math.specs.Ring.{integers}
use Rattle.exact_math.specs.IntegerRing.{linear}
use Rattle.exact_math.specs.Rational.{ℚ, whole, neg_ℚ, ◌+ℚ◌, ◌*ℚ◌, ◌<ℚ◌}
use Rattle.exact_math.specs.RationalOrder.{num_pos}
use Rattle.exact_math.specs.RationalRing.{rationals, whole_add, whole_mul}
use Rattle.exact_math.specs.RingLaws as Laws
use Rattle.whole_rows.specs.WholeRows.{WholeRows}
use Rattle.farkas_rows.specs.declared.fracs.FracUse.{FracUse}
use Rattle.farkas_rows.specs.declared.line.Line.{Line}
use Rattle.farkas_rows.specs.declared.line.Use.{Use}
use Rattle.farkas_rows.specs.Inequalities.{Inequality}
use Rattle.farkas_rows.specs.LeastLine.{IsLeastLine}
use Rattle.farkas_rows.specs.Refutes.{inequality_weight, line_weight}
use Rattle.farkas_rows.proofs.LeastLemmas.{whole_num}
use Rattle.farkas_rows.proofs.LeastLineLemmas.{IsLeastLine-same_weight}
use Rattle.presolve_map.specs.LiftedLines.{named}
use Rattle.presolve_map.proofs.LineLaws.{whole_neg}
use Rattle.root_gaps.proofs.TimesLaws.{whole-above}

-- ---- whole numbers

abbrev pub IsInteger : ℚ → Type 0
IsInteger q = (z : ℤ) × (q ≡ whole z)

pub integer-neg : (q : ℚ) → IsInteger q → IsInteger (neg_ℚ q)
integer-neg q is = (integers.neg is.0, ap neg_ℚ is.1 ∙ sym (whole_neg is.0))

pub integer-add : (p q : ℚ) → IsInteger p → IsInteger q → IsInteger (p +ℚ q)
integer-add p q hp hq = (hp.0 +ℤ hq.0, ap₂ (λ a b. a +ℚ b) hp.1 hq.1 ∙ sym (whole_add hp.0 hq.0))

pub integer-mul : (p q : ℚ) → IsInteger p → IsInteger q → IsInteger (p *ℚ q)
integer-mul p q hp hq = (hp.0 *ℤ hq.0, ap₂ (λ a b. a *ℚ b) hp.1 hq.1 ∙ sym (whole_mul hp.0 hq.0))

-- how often an item is taken, where that is a whole number
abbrev pub size : FracUse → ℕ
size item = nat_abs item.times.num

-- it is taken a whole number of times above 0
abbrev pub IsCounted : FracUse → Type 0
IsCounted item = item.times ≡ whole (pos (size item))

pub counted-of : (item : FracUse) → IsInteger item.times → whole (pos 0) <ℚ item.times → IsCounted item
counted-of item is above =
    let num : item.times.num ≡ is.0 = ap (λ (q : ℚ). q.num) is.1 ∙ (whole_num is.0).0 in
    let positive : pos 0 <ℤ item.times.num = num_pos item.times above in
    is.1 ∙ ap whole (sym num ∙ same item.times.num positive)
  where
    same : (z : ℤ) → pos 0 <ℤ z → z ≡ pos (nat_abs z)
    same z h = omega (linear, h)

-- ---- the weight of items

abbrev pub items_weight : WholeRows → Option Inequality → List FracUse → ℕ
items_weight rows end [] = 0
items_weight rows end (item ∷ items) = size item * inequality_weight (named rows [] end item.index) + items_weight rows end items

pub items_weight-append : (rows : WholeRows) (end : Option Inequality) (xs ys : List FracUse) → items_weight rows end (xs ++ ys) ≡ items_weight rows end xs + items_weight rows end ys
items_weight-append rows end [] ys = omega arith
items_weight-append rows end (x ∷ xs) ys = ap (λ (n : ℕ). size x * inequality_weight (named rows [] end x.index) + n) (items_weight-append rows end xs ys) ∙ assoc _ _ _
  where
    assoc : (a b c : ℕ) → a + (b + c) ≡ (a + b) + c
    assoc a b c = omega arith

-- ---- the line

-- the item with its whole multiplier
abbrev pub with_size : FracUse → Use
with_size item = record { index = item.index; times = pos (size item) }

abbrev pub whole_line : List FracUse → Line
whole_line items = record { cut = None; items = map with_size items }

same-numbers : (items : List FracUse) → map (λ (item : Use). item.index) (map with_size items) ≡ map (λ (item : FracUse). item.index) items
same-numbers [] = refl
same-numbers (item ∷ items) = ap (λ (l : List ℕ). item.index ∷ l) (same-numbers items)

same-times : (items : List FracUse) → All IsCounted items → AllZip (λ part number. whole number ≡ whole (pos 1) *ℚ part) (map (λ (item : FracUse). item.times) items) (map (λ (item : Use). item.times) (map with_size items))
same-times [] h = tt
same-times (item ∷ items) h = (sym (All-head IsCounted item items h) ∙ sym (Laws.one_mul rationals item.times), same-times items (All-tail IsCounted item items h))

-- what divides each multiplier divides each size
divides-sizes : (d : ℕ) (items : List FracUse) → All (λ (z : ℤ). d ∣ nat_abs z) (map (λ (item : Use). item.times) (map with_size items)) → All (λ (item : FracUse). d ∣ size item) items
divides-sizes d [] h = All-nil (λ (item : FracUse). d ∣ size item)
divides-sizes d (item ∷ items) h =
    let rest : List ℤ = map (λ (item : Use). item.times) (map with_size items) in
    All-cons (λ (item : FracUse). d ∣ size item) item items (All-head (λ (z : ℤ). d ∣ nat_abs z) (pos (size item)) rest h) (divides-sizes d items (All-tail (λ (z : ℤ). d ∣ nat_abs z) (pos (size item)) rest h))

-- no number but 1 divides the sizes
abbrev pub AreLowest : List FracUse → Type 0
AreLowest items = (d : ℕ) → All (λ (item : FracUse). d ∣ size item) items → d ≡ 1

pub whole_line-least : (items : List FracUse) → All IsCounted items → AreLowest items → IsLeastLine None items (whole_line items)
whole_line-least items counted lowest = record {
  same_cut = refl;
  same_numbers = same-numbers items;
  least = record {
    multiple = (whole (pos 1), (whole-above (pos 1) (omega linear), same-times items counted));
    lowest = λ d each. lowest d (divides-sizes d items each);
  };
}

pub whole_line-weight : (rows : WholeRows) (end : Option Inequality) (items : List FracUse) → line_weight rows [] end (whole_line items) ≡ pos (items_weight rows end items)
whole_line-weight rows end [] = refl
whole_line-weight rows end (item ∷ items) =
    let w : ℕ = inequality_weight (named rows [] end item.index) in
    ap₂ (λ (a b : ℤ). a +ℤ b) (pos-*ℤ-pos (size item) w) (whole_line-weight rows end items)

-- each least whole line weighs so much
pub least-weight : (rows : WholeRows) (end : Option Inequality) (items : List FracUse) (line : Line) → (items ≡ [] → ⊥) → All IsCounted items → All (λ (item : FracUse). whole (pos 0) <ℚ item.times) items → AreLowest items → IsLeastLine None items line
    → line_weight rows [] end line ≡ pos (items_weight rows end items)
least-weight rows end items line some counted positive lowest least =
    IsLeastLine-same_weight rows [] end None items line (whole_line items) (λ e. some (none-left items e)) (All-map (λ part. whole (pos 0) <ℚ part) (λ (item : FracUse). item.times) items positive) least (whole_line-least items counted lowest)
    ∙ whole_line-weight rows end items
  where
    none-left : (items : List FracUse) → map (λ (item : FracUse). item.times) items ≡ [] → items ≡ []
    none-left [] e = refl
    none-left (item ∷ items) e = absurd (cc)
