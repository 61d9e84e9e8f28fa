-- What the choice among candidates uses.
use Rattle.std.proofs.Common.{◌≡◌, ◌≢◌, inl, inr, ⊎_elim, ℕ, suc, ◌-◌, ◌^◌, ◌<◌, ◌≤◌, ℤ, pos, List, [], length, get_or, refl, sym, subst, arith}
use Rattle.std.specs.Prelude.{All}
use Rattle.std.proofs.lemmas.Bool.{cases_eq}
use Rattle.std.proofs.lemmas.List.Elements.{All-replicate}
use Rattle.exact_math.specs.Rational.{ℚ, whole, ◌*ℚ◌, ◌≤ℚ◌, ◌<ℚ◌}
use Rattle.exact_math.specs.RationalOrder as Order
use Rattle.exact_math.specs.RationalRing.{rationals}
use Rattle.exact_math.specs.Ring.{integers}
use Rattle.exact_math.specs.RingLaws as Laws
use Rattle.exact_vectors.specs.Vectors.{zeros}
use Rattle.form_widths.specs.Directions.{IsDirection, IsFreeColumn}
use Rattle.form_widths.specs.Widths.{IsNoWiderThan, IsNonzero, IsPrimitive}
use Rattle.frac128.specs.Range.{IsNarrow}
use Rattle.generalised_reduce.specs.Reduced.{IsWithinFactor}
use Rattle.lp_dict.specs.Systems.{wholes}
use Rattle.norm_gauge.specs.Gauges.{IsGauge}
use Rattle.norm_gauge.specs.Widths.{Has, IsAtMost, Polytope}
use Rattle.norm_gauge.specs.declared.gauge.Gauge.{Gauge}
use Rattle.thin_forms.specs.BoundLaws.{bound_on_polytope, bound_on_region}
use Rattle.thin_forms.specs.Candidates.{IsFirstOfReduced}
use Rattle.thin_forms.specs.Choices.{IsBelowBounds, IsChosen}
use Rattle.thin_forms.specs.Parts.{IsPrimitivePart}
use Rattle.thin_forms.proofs.PartSteps.{part_is_free, part_is_only, zeros_not_free}

-- a gauge's value is at most each bound
pub attained : (p : Polytope) (form : List ℤ) (g : Gauge) (bound : ℚ) → IsGauge p [] (wholes form) g → IsAtMost p [] (wholes form) bound → g.value ≤ℚ bound
attained p form g bound is h = subst (λ d. d ≤ℚ bound) (sym is.value) (h g.high g.low is.pair)

once : (bound : ℚ) → whole (pos 1) *ℚ bound ≡ bound
once bound = Laws.one_mul rationals bound

-- ---- the first row

pub chosen_first : (p : Polytope) (lines : List (List ℤ)) (form : List ℤ) (g : Gauge) → IsFirstOfReduced p form → length form ≡ p.coordinates → IsPrimitive form → All IsNarrow form → IsGauge p [] (wholes form) g → IsWithinFactor p (4 ^ (p.coordinates - 1)) (wholes form) → IsChosen p lines 0 form g
chosen_first p lines form g first long primitive narrow is within = record {
  candidate = inr first;
  coordinates = long;
  primitive = primitive;
  narrow = narrow;
  is_gauge = is;
  thin = λ other same some bound h. attained p form g _ is (within other bound same some h);
  columns = λ column other lt. absurd (omega arith);
}

-- ---- one more column

-- one that is not free
pub chosen_none : (p : Polytope) (lines : List (List ℤ)) (j : ℕ) (form : List ℤ) (g : Gauge) → All (λ factor. factor ≡ pos 0) (get_or lines j []) → IsChosen p lines j form g → IsChosen p lines (suc j) form g
chosen_none p lines j form g none before = record {
  candidate = before.candidate;
  coordinates = before.coordinates;
  primitive = before.primitive;
  narrow = before.narrow;
  is_gauge = before.is_gauge;
  thin = before.thin;
  columns = λ column other lt free.
      ⊎_elim (λ (e : column ≡ j). absurd (zeros_not_free lines j other none (subst (λ k. IsFreeColumn lines k other) e free))) (λ (n : column ≡ j → ⊥). before.columns column other (omega (arith, lt, n)) free) (cases_eq column j);
}

-- the number is at most the width of column j, made primitive
pub below_part : (p : Polytope) (lines : List (List ℤ)) (j : ℕ) (part : List ℤ) (g : Gauge) (value : ℚ) → IsPrimitivePart (get_or lines j []) part → IsGauge p [] (wholes part) g → value ≤ℚ g.value → (other : List ℤ) → IsFreeColumn lines j other → IsBelowBounds p 1 value other
below_part p lines j part g value is gauge le other free bound h =
    let same : other ≡ part = part_is_only lines j part other is free in
    subst (λ q. value ≤ℚ q) (sym (once bound)) (Order.le_trans value g.value bound le (attained p part g bound gauge (subst (λ form. IsAtMost p [] (wholes form) bound) same h)))

-- one that is not thinner
pub chosen_kept : (p : Polytope) (lines : List (List ℤ)) (j : ℕ) (form part : List ℤ) (g new : Gauge) → IsPrimitivePart (get_or lines j []) part → IsGauge p [] (wholes part) new → g.value ≤ℚ new.value → IsChosen p lines j form g → IsChosen p lines (suc j) form g
chosen_kept p lines j form part g new is gauge le before = record {
  candidate = before.candidate;
  coordinates = before.coordinates;
  primitive = before.primitive;
  narrow = before.narrow;
  is_gauge = before.is_gauge;
  thin = before.thin;
  columns = λ column other lt free.
      ⊎_elim (λ (e : column ≡ j). below_part p lines j part new g.value is gauge le other (subst (λ k. IsFreeColumn lines k other) e free)) (λ (n : column ≡ j → ⊥). before.columns column other (omega (arith, lt, n)) free) (cases_eq column j);
}

-- one that is
pub chosen_new : (p : Polytope) (lines : List (List ℤ)) (j : ℕ) (form part : List ℤ) (g new : Gauge) → j < length lines → length part ≡ p.coordinates → All IsNarrow part → IsPrimitivePart (get_or lines j []) part → IsGauge p [] (wholes part) new → new.value <ℚ g.value → IsChosen p lines j form g
    → IsChosen p lines (suc j) part new
chosen_new p lines j form part g new inside long narrow is gauge less before =
    let le : new.value ≤ℚ g.value = Order.le_of_lt new.value g.value less in
    let free : IsFreeColumn lines j part = part_is_free lines j part inside is in
    record {
      candidate = inl (j, free);
      coordinates = long;
      primitive = free.primitive;
      narrow = narrow;
      is_gauge = gauge;
      thin = λ other same some bound h. Order.le_trans new.value g.value _ le (before.thin other same some bound h);
      columns = λ column other lt free_other.
          ⊎_elim (λ (e : column ≡ j). below_part p lines j part new new.value is gauge (Order.le_refl new.value) other (subst (λ k. IsFreeColumn lines k other) e free_other))
          (λ (n : column ≡ j → ⊥). λ bound h. Order.le_trans new.value g.value _ le (before.columns column other (omega (arith, lt, n)) free_other bound h)) (cases_eq column j);
    }

-- ---- all columns

-- what is at most the bounds of a width is the width of no wider a form
pub no_wider : (p : Polytope) (factor : ℕ) (form other : List ℤ) (g : Gauge) → IsGauge p [] (wholes form) g → IsBelowBounds p factor g.value other → IsNoWiderThan factor (Has p) form other
no_wider p factor form other g is below bound h y z in_y in_z =
    Order.le_trans _ g.value _ (bound_on_region p form g.value is.most y z in_y in_z) (below bound (bound_on_polytope p other bound h))

-- a form that is not all 0 is not the form of zeros
nonzero_apart : (n : ℕ) (other : List ℤ) → IsNonzero other → other ≢ zeros integers n
nonzero_apart n other some e = some (subst (All (λ factor. factor ≡ pos 0)) (sym e) (All-replicate (λ (factor : ℤ). factor ≡ pos 0) n (pos 0) refl))

pub chosen_direction : (p : Polytope) (lines : List (List ℤ)) (count : ℕ) (form : List ℤ) (g : Gauge) → 0 < p.coordinates → length lines ≤ count → IsChosen p lines count form g → IsDirection (Has p) p.coordinates lines form
chosen_direction p lines count form g some all chosen = record {
  some = some;
  point = g.high;
  has_point = chosen.is_gauge.pair.first;
  coordinates = chosen.coordinates;
  primitive = chosen.primitive;
  thin = λ other long nonzero. no_wider p (4 ^ (p.coordinates - 1)) form other g chosen.is_gauge (chosen.thin other long (nonzero_apart p.coordinates other nonzero));
  columns = λ column other free. no_wider p 1 form other g chosen.is_gauge (chosen.columns column other (omega (arith, free.there, all)) free);
}
