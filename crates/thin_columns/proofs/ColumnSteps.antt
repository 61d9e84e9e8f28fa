-- What the choice of the thinnest free column uses.
use Rattle.std.proofs.Common.{◌≡◌, ⊎_elim, refl, ℕ, suc, ◌-◌, ◌^◌, ◌<◌, ℤ, pos, List, [], length, get_or, subst, arith}
use Rattle.std.specs.Prelude.{All, Option, Some, None}
use Rattle.std.proofs.lemmas.Bool.{cases_eq}
use Rattle.exact_math.specs.Rational.{ℚ, whole, ◌≤ℚ◌, ◌<ℚ◌}
use Rattle.exact_math.specs.RationalOrder as Order
use Rattle.exact_math.specs.RationalRing as Rational
use Rattle.exact_vectors.specs.Vectors.{dot}
use Rattle.form_widths.specs.Directions.{IsDirection, IsFreeColumn}
use Rattle.frac128.specs.Range.{IsNarrow}
use Rattle.lp_dict.specs.Systems.{wholes}
use Rattle.norm_gauge.specs.Gauges.{IsGauge}
use Rattle.norm_gauge.specs.Widths.{Has, Polytope}
use Rattle.norm_gauge.specs.declared.gauge.Gauge.{Gauge}
use Rattle.thin_forms.specs.Parts.{IsPrimitivePart}
use Rattle.thin_forms.specs.declared.answer.ThinForm.{ThinForm}
use Rattle.thin_forms.proofs.ChoiceSteps.{below_part, no_wider}
use Rattle.thin_forms.proofs.PartSteps.{part_is_free, zeros_not_free}
use Rattle.thin_columns.specs.Columns.{IsBelowColumns, IsThinnest, ThinnestIs}
use Rattle.thin_columns.specs.Steps.{IsBelowForms}

module _ (p : Polytope) (lines : List (List ℤ)) (j : ℕ) where
  -- ---- a column that is not free

  none_free : All (λ factor. factor ≡ pos 0) (get_or lines j []) → (column : ℕ) → column ≡ j → (other : List ℤ) → ¬ (IsFreeColumn lines column other)
  none_free none column e other free = zeros_not_free lines j other none (subst (λ k. IsFreeColumn lines k other) e free)

  pub thinnest_none : (best : Option ThinForm) → All (λ factor. factor ≡ pos 0) (get_or lines j []) → ThinnestIs p lines j best → ThinnestIs p lines (suc j) best
  thinnest_none None none before = λ column other lt free.
      ⊎_elim (λ (e : column ≡ j). none_free none column e other free) (λ (n : column ≡ j → ⊥). before column other (omega (arith, lt, n)) free) (cases_eq column j)
  thinnest_none (Some thin) none before = record {
    column = before.column;
    free = before.free;
    coordinates = before.coordinates;
    narrow = before.narrow;
    is_gauge = before.is_gauge;
    columns = λ column other lt free.
        ⊎_elim (λ (e : column ≡ j). absurd (none_free none column e other free)) (λ (n : column ≡ j → ⊥). before.columns column other (omega (arith, lt, n)) free) (cases_eq column j);
  }

  -- ---- a column that is

  module _ (part : List ℤ) (g : Gauge) (is : IsPrimitivePart (get_or lines j []) part) (gauge : IsGauge p [] (wholes part) g) where
    below_more : (value : ℚ) → value ≤ℚ g.value → IsBelowColumns p lines j value → IsBelowColumns p lines (suc j) value
    below_more value le before column other lt free =
        ⊎_elim (λ (e : column ≡ j). below_part p lines j part g value is gauge le other (subst (λ k. IsFreeColumn lines k other) e free)) (λ (n : column ≡ j → ⊥). before column other (omega (arith, lt, n)) free) (cases_eq column j)

    -- the one that is kept is as thin
    pub thinnest_kept : (kept : ThinForm) → kept.gauge.value ≤ℚ g.value → IsThinnest p lines j kept → IsThinnest p lines (suc j) kept
    thinnest_kept kept le before = record {
      column = before.column;
      free = before.free;
      coordinates = before.coordinates;
      narrow = before.narrow;
      is_gauge = before.is_gauge;
      columns = below_more kept.gauge.value le before.columns;
    }

    module _ (inside : j < length lines) (long : length part ≡ p.coordinates) (narrow : All IsNarrow part) where
      taken : IsBelowColumns p lines j g.value → IsThinnest p lines (suc j) (record { form = part; gauge = g })
      taken before = record {
        column = j;
        free = part_is_free lines j part inside is;
        coordinates = long;
        narrow = narrow;
        is_gauge = gauge;
        columns = below_more g.value (Order.le_refl g.value) before;
      }

      -- it is thinner than the one that is kept
      pub thinnest_taken : (kept : ThinForm) → g.value <ℚ kept.gauge.value → IsThinnest p lines j kept → IsThinnest p lines (suc j) (record { form = part; gauge = g })
      thinnest_taken kept less before =
          taken (λ column other lt free bound h. Order.le_trans g.value kept.gauge.value _ (Order.le_of_lt g.value kept.gauge.value less) (before.columns column other lt free bound h))

      -- it is the first
      pub thinnest_first : ThinnestIs p lines j None → IsThinnest p lines (suc j) (record { form = part; gauge = g })
      thinnest_first none = taken (λ column other lt free. absurd (none column other lt free))

-- a width is not negative
pub gauge_nonneg : (p : Polytope) (form : List ℤ) (g : Gauge) → IsGauge p [] (wholes form) g → whole (pos 0) ≤ℚ g.value
gauge_nonneg p form g is =
    subst (λ d. d ≤ℚ g.value) (Rational.add_neg (dot Rational.rationals (wholes form) g.high)) (is.most g.high g.high (record { first = is.pair.first; second = is.pair.first; agree = refl }))

-- the thinnest of all columns, where no form is much thinner
pub thinnest_direction : (p : Polytope) (lines : List (List ℤ)) (thin : ThinForm) → 0 < p.coordinates → IsThinnest p lines (length lines) thin → IsBelowForms p thin.gauge.value → IsDirection (Has p) p.coordinates lines thin.form
thinnest_direction p lines thin some thinnest below = record {
  some = some;
  point = thin.gauge.high;
  has_point = thinnest.is_gauge.pair.first;
  coordinates = thinnest.coordinates;
  primitive = thinnest.free.primitive;
  thin = λ other long nonzero. no_wider p (4 ^ (p.coordinates - 1)) thin.form other thin.gauge thinnest.is_gauge (below other long nonzero);
  columns = λ column other free. no_wider p 1 thin.form other thin.gauge thinnest.is_gauge (thinnest.columns column other free.there free);
}
