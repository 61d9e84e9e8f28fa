-- The points of a system as those that meet its inequalities.
use Rattle.std.proofs.Common.{◌≡◌, ⊎_elim, ℕ, zero, suc, ◌+◌, ◌-◌, ◌^◌, ◌<◌, ℤ, pos, List, [], ◌∷◌, length, get_or, map, refl, sym, ap, ◌∙◌, subst, subst₂, arith}
use Rattle.std.specs.Prelude.{All}
use Rattle.std.specs.List.{AllZip}
use Rattle.std.proofs.lemmas.Bool.{cases_eq}
use Rattle.std.proofs.lemmas.List.Elements.{All-cons, All-head, All-nil, All-tail}
use Rattle.exact_math.specs.IntegerRing.{linear}
use Rattle.exact_math.specs.Rational.{ℚ, whole, ◌*ℚ◌, ◌≤ℚ◌}
use Rattle.exact_math.specs.RationalOrder.{difference_from_le, le_trans, mul_le, whole_le}
use Rattle.exact_math.specs.RationalRing.{rationals}
use Rattle.exact_math.specs.RingLaws as Laws
use Rattle.exact_vectors.specs.FlatMatrixLaws.{length-rows_of}
use Rattle.exact_vectors.specs.Matrices.{times_vector}
use Rattle.farkas_rows.specs.Inequalities.{Inequality, at_most}
use Rattle.form_widths.specs.Inequalities.{IsMetAt, IsSolution, slack}
use Rattle.generalised_reduce.specs.Ready.{IsReady}
use Rattle.lp_dict.specs.Systems.{whole_rows, wholes}
use Rattle.norm_gauge.specs.Widths.{Has, polytope_of}
use Rattle.spaces.specs.Tables.{Table, row_at, rows_in}
use Rattle.spaces.specs.TableLaws as Tables
use Rattle.thin_forms.specs.BoundLaws.{bound_on_region}
use Rattle.thin_columns.specs.Sizes.{greatest_size, sloping}
use Rattle.thin_columns.specs.Steps.{AllowsStep, IsBelowForms, IsSlackIn, IsStepOf, RowAllows, inequality_at}
use Rattle.thin_columns.proofs.RoomSteps.{widths_at_least}

-- each row with its limit
abbrev inequalities : List (List ℤ) → List ℤ → List Inequality
inequalities [] limits = []
inequalities (row ∷ rows) [] = []
inequalities (row ∷ rows) (limit ∷ limits) = at_most row limit ∷ inequalities rows limits

factors_are : (rows : List (List ℤ)) (limits : List ℤ) → length limits ≡ length rows → map (λ (inequality : Inequality). inequality.factors) (inequalities rows limits) ≡ rows
factors_are [] limits e = refl
factors_are (row ∷ rows) [] e = absurd (omega arith)
factors_are (row ∷ rows) (limit ∷ limits) e = ap (λ (l : List (List ℤ)). row ∷ l) (factors_are rows limits (omega arith))

-- what holds of each row with its limit
each : (P : Inequality → Type 0) (rows : List (List ℤ)) (limits : List ℤ) → length limits ≡ length rows → ((i : ℕ) → i < length rows → P (at_most (get_or rows i []) (get_or limits i (pos 0)))) → All P (inequalities rows limits)
each P [] limits e h = All-nil P
each P (row ∷ rows) [] e h = absurd (omega arith)
each P (row ∷ rows) (limit ∷ limits) e h =
    All-cons P (at_most row limit) (inequalities rows limits) (h 0 (omega arith)) (each P rows limits (omega arith) (λ i lt. h (suc i) (omega arith)))

-- and back
at : (P : Inequality → Type 0) (rows : List (List ℤ)) (limits : List ℤ) (i : ℕ) → length limits ≡ length rows → i < length rows → All P (inequalities rows limits) → P (at_most (get_or rows i []) (get_or limits i (pos 0)))
at P [] limits i e lt h = absurd (omega arith)
at P (row ∷ rows) [] i e lt h = absurd (omega arith)
at P (row ∷ rows) (limit ∷ limits) zero e lt h = All-head P (at_most row limit) (inequalities rows limits) h
at P (row ∷ rows) (limit ∷ limits) (suc i) e lt h = at P rows limits i (omega arith) (omega arith) (All-tail P (at_most row limit) (inequalities rows limits) h)

met : (rows : List (List ℤ)) (limits : List ℤ) (y : List ℚ) → AllZip ◌≤ℚ◌ (times_vector rationals (whole_rows rows) y) (wholes limits) → All (IsMetAt y) (inequalities rows limits)
met [] limits y h = All-nil (IsMetAt y)
met (row ∷ rows) [] y h = absurd h
met (row ∷ rows) (limit ∷ limits) y h = All-cons (IsMetAt y) (at_most row limit) (inequalities rows limits) h.0 (met rows limits y h.1)

met_back : (rows : List (List ℤ)) (limits : List ℤ) (y : List ℚ) → length limits ≡ length rows → All (IsMetAt y) (inequalities rows limits) → AllZip ◌≤ℚ◌ (times_vector rationals (whole_rows rows) y) (wholes limits)
met_back [] [] y e h = tt
met_back [] (limit ∷ limits) y e h = absurd (omega arith)
met_back (row ∷ rows) [] y e h = absurd (omega arith)
met_back (row ∷ rows) (limit ∷ limits) y e h =
    (All-head (IsMetAt y) (at_most row limit) (inequalities rows limits) h, met_back rows limits y (omega arith) (All-tail (IsMetAt y) (at_most row limit) (inequalities rows limits) h))

-- the same on a smaller region
allows_in : (region other : List ℚ → Type 0) (step : ℚ) (inequality : Inequality) → ((y : List ℚ) → region y → other y) → AllowsStep region step inequality → AllowsStep other step inequality
allows_in region other step inequality within allows = record { point = allows.point; inside = within allows.point allows.inside; enough = allows.enough }

-- ---- a row

-- a row whose entries are all 0 allows every step
pub flat_allows : (rows : Table ℤ) (limits : List ℤ) (step : ℚ) (i : ℕ) → IsReady rows limits → i < rows.rows → greatest_size (row_at rows i) ≡ 0 → RowAllows rows limits step i
flat_allows rows limits step i ready inside none = record {
  point = ready.inhabited.point;
  inside = ready.inhabited.has;
  enough =
      subst (λ q. q ≤ℚ slack (inequality_at rows limits i) ready.inhabited.point) (sym (ap (λ (n : ℕ). whole (pos n) *ℚ step) none ∙ Laws.zero_mul rationals step))
      (difference_from_le _ (whole (get_or limits i (pos 0)))
      (subst (λ (row : List ℤ). IsMetAt ready.inhabited.point (at_most row (get_or limits i (pos 0)))) (Tables.rows_in-at rows i inside)
      (at (IsMetAt ready.inhabited.point) (rows_in rows) limits i (ready.as_many_limits ∙ sym long) (omega (arith, inside, long)) (met (rows_in rows) limits ready.inhabited.point ready.inhabited.has.met))));
}
  where
    long : length (rows_in rows) ≡ rows.rows
    long = length-rows_of rows.width rows.rows rows.items

-- one with a slack that is large enough allows the step
pub slack_allows : (rows : Table ℤ) (limits : List ℤ) (step slack_found : ℚ) (i reach : ℕ) → reach ≡ greatest_size (row_at rows i) → IsSlackIn (Has (polytope_of rows limits)) (inequality_at rows limits i) slack_found → (whole (pos reach) *ℚ step) ≤ℚ slack_found → RowAllows rows limits step i
slack_allows rows limits step slack_found i reach is found enough = record {
  point = found.point;
  inside = found.inside;
  enough = subst₂ (λ (n : ℕ) (q : ℚ). (whole (pos n) *ℚ step) ≤ℚ q) is found.value_is enough;
}

-- one more row
pub allows_more : (rows : Table ℤ) (limits : List ℤ) (step : ℚ) (n : ℕ) → ((i : ℕ) → i < n → RowAllows rows limits step i) → RowAllows rows limits step n → (i : ℕ) → i < n + 1 → RowAllows rows limits step i
allows_more rows limits step n before here i lt =
    ⊎_elim (λ (e : i ≡ n). subst (RowAllows rows limits step) (sym e) here) (λ (ne : i ≡ n → ⊥). before i (omega (arith, lt, ne))) (cases_eq i n)

-- ---- the test

pub step_shows : (rows : Table ℤ) (limits : List ℤ) (count : ℕ) (width step : ℚ) → IsReady rows limits → count ≡ sloping (rows_in rows) → IsStepOf rows.width count width step → ((i : ℕ) → i < rows.rows → RowAllows rows limits step i) → IsBelowForms (polytope_of rows limits) width
step_shows rows limits count width step ready is of allows other long nonzero bound h =
    le_trans _ _ _ of.within (mul_le (whole (pos (4 ^ (rows.width - 1)))) _ bound (whole_le (pos 0) (pos (4 ^ (rows.width - 1))) (omega linear)) twice)
  where
    lines : List (List ℤ)
    lines = rows_in rows

    as_many : length limits ≡ length lines
    as_many = ready.as_many_limits ∙ sym (length-rows_of rows.width rows.rows rows.items)

    region : List ℚ → Type 0
    region = IsSolution rows.width (inequalities lines limits)

    into : (y : List ℚ) → Has (polytope_of rows limits) y → region y
    into y has = (has.coordinates, met lines limits y has.met)

    back : (y : List ℚ) → region y → Has (polytope_of rows limits) y
    back y has = record { coordinates = has.0; met = met_back lines limits y as_many has.1 }

    allowed : All (AllowsStep region (of.room *ℚ whole (pos count))) (inequalities lines limits)
    allowed = each (AllowsStep region (of.room *ℚ whole (pos count))) lines limits as_many one
      where
        one : (i : ℕ) → i < length lines → AllowsStep region (of.room *ℚ whole (pos count)) (at_most (get_or lines i []) (get_or limits i (pos 0)))
        one i lt =
            let inside : i < rows.rows = omega (arith, lt, length-rows_of rows.width rows.rows rows.items) in
            subst₂ (λ (row : List ℤ) (s : ℚ). AllowsStep region s (at_most row (get_or limits i (pos 0)))) (sym (Tables.rows_in-at rows i inside)) of.step_is
            (allows_in (Has (polytope_of rows limits)) region step (at_most _ (get_or limits i (pos 0))) into (allows i inside))

    twice : (whole (pos 2) *ℚ of.room) ≤ℚ bound
    twice =
        widths_at_least rows.width (inequalities lines limits) of.room of.not_negative count (is ∙ ap sloping (sym (factors_are lines limits as_many))) ready.inhabited.point (into ready.inhabited.point ready.inhabited.has) allowed other bound long nonzero
        (λ y z in_y in_z. bound_on_region (polytope_of rows limits) other bound h y z (back y in_y) (back z in_z))
