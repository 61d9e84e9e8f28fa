-- Without a large part the integer rows of a model are light, and a search in order finds the first large part.
use Rattle.std.proofs.Common.{◌≢◌, ◌⊎◌, ⊎_elim, inl, inr, ℕ, zero, suc, ◌^◌, ◌<◌, ◌≤◌, List, [], ◌∷◌, length, map, take, get_or, pos, nat_abs, Option, Some, None, ap, subst, arith}
use Rattle.std.specs.List.{All, Any}
use Rattle.std.proofs.lemmas.Bool.{cases_lt}
use Rattle.std.proofs.lemmas.List.{get_or_default, get_or-map, get_or-take, length-map, length-take}
use Rattle.std.proofs.lemmas.List.Elements.{All-get_or, All-map, All-nil, All-cons}
use Rattle.exact_math.specs.Rational.{ℚ, whole, ◌*ℚ◌}
use Rattle.whole_rows.specs.declared.bounds.Bounds.{Bounds}
use Rattle.int_model.specs.declared.part.Part.{Part}
use Rattle.int_model.specs.declared.part.Part.TheVariants as parts
use Rattle.whole_rows.specs.WholeRows.{reach, weight, IsHeavy, IsFirstHeavy, IsLight}
use Rattle.int_model.specs.Scale.{common_denominator, scale, FractionRow, integer_row}
use Rattle.int_model.specs.declared.model.Column.{Column}
use Rattle.int_model.specs.declared.model.Row.{Row}
use Rattle.int_model.specs.declared.model.Model.{Model}
use Rattle.int_model.specs.IntegerRows.{rounded_bounds, fraction_row, integer_rows}
use Rattle.int_model.specs.Large.{HasWideDenominator, LeavesRange, IsLargeColumn, IsLargeRow, IsLargeRowOf, objective_numbers, objective_weight, IsLargeObjective, IsLargePart, ComesBefore, IsFirstLarge, HasNoLargePart}
use Rattle.int_model.proofs.ScaleLaws.{no_numerator}
use Rattle.int_model.proofs.LargeLaws.{column_light, row_light}
use Rattle.int_model.proofs.RowLaws.{some_or_zeros, numerator_from_some}

-- without a large part the integer rows are light
pub light_without_large : (model : Model) → HasNoLargePart model → IsLight (integer_rows model).whole
light_without_large model none = record {
  reaches = All-map (λ bounds. reach bounds ≤ 2 ^ 96) rounded_bounds model.columns (λ k d h.
      column_light (get_or model.columns k d) (λ large. none (parts.Column k) (h, λ e. subst IsLargeColumn (get_or_default model.columns k d e h) large)));
  weights = All-map (λ row. weight (integer_rows model).whole.box row ≤ 2 ^ 96) (λ row. integer_row (fraction_row (length model.columns) row)) model.rows (λ k d h.
      row_light (integer_rows model).whole.box (fraction_row (length model.columns) (get_or model.rows k d)) (λ large. none (parts.Row k) (h, λ e. subst (IsLargeRowOf model) (get_or_default model.rows k d e h) large)));
}

-- ---- the first large part, as a search in order finds it

-- a column and a row that stand for those past the end
no_column : Column
no_column = record { name = []; lo = whole (pos 0); hi = whole (pos 0) }

no_row : Row
no_row = record { name = []; lo = None; hi = None; items = [] }

-- a large column after columns that are not
pub column_is_first : (model : Model) (j : ℕ) (d : Column) → j < length model.columns → IsLargeColumn (get_or model.columns j d) → ((k : ℕ) → k < j → IsLargeColumn (get_or model.columns k d) → ⊥) → IsFirstLarge model (parts.Column j)
column_is_first model j d h large none = record {
  large = (h, λ e. subst IsLargeColumn (get_or_default model.columns j d e h) large);
  first = before;
}
  where
    before : (other : Part) → ComesBefore other (parts.Column j) → IsLargePart model other → ⊥
    before (parts.Column k) earlier found = none k earlier (found.1 d)
    before (parts.Row i) earlier found = earlier
    before parts.Objective earlier found = earlier

-- a large row after rows that are not, where no column is large
pub row_is_first : (model : Model) (i : ℕ) (d : Row) → i < length model.rows → IsLargeRowOf model (get_or model.rows i d) → ((k : ℕ) → k < i → IsLargeRowOf model (get_or model.rows k d) → ⊥) → All (λ column. IsLargeColumn column → ⊥) model.columns → IsFirstLarge model (parts.Row i)
row_is_first model i d h large none columns = record {
  large = (h, λ e. subst (IsLargeRowOf model) (get_or_default model.rows i d e h) large);
  first = before;
}
  where
    before : (other : Part) → ComesBefore other (parts.Row i) → IsLargePart model other → ⊥
    before (parts.Column k) earlier found = columns k no_column found.0 (found.1 no_column)
    before (parts.Row k) earlier found = none k earlier (found.1 d)
    before parts.Objective earlier found = earlier

-- a large objective, where no column and no row is large
pub objective_is_first : (model : Model) → IsLargeObjective model → All (λ column. IsLargeColumn column → ⊥) model.columns → All (λ row. IsLargeRowOf model row → ⊥) model.rows → IsFirstLarge model parts.Objective
objective_is_first model large columns rows = record { large = large; first = before }
  where
    before : (other : Part) → ComesBefore other parts.Objective → IsLargePart model other → ⊥
    before (parts.Column k) earlier found = columns k no_column found.0 (found.1 no_column)
    before (parts.Row k) earlier found = rows k no_row found.0 (found.1 no_row)
    before parts.Objective earlier found = earlier

-- no column, no row and no large objective
pub none_is_large : (model : Model) → All (λ column. IsLargeColumn column → ⊥) model.columns → All (λ row. IsLargeRowOf model row → ⊥) model.rows → (IsLargeObjective model → ⊥) → HasNoLargePart model
none_is_large model columns rows objective (parts.Column k) found = columns k no_column found.0 (found.1 no_column)
none_is_large model columns rows objective (parts.Row k) found = rows k no_row found.0 (found.1 no_row)
none_is_large model columns rows objective parts.Objective found = objective found

-- ---- one column after another

-- what holds of the first items holds of those below
pub below_from_take : {X : Type 0} (P : X → Type 0) (xs : List X) (j : ℕ) → j ≤ length xs → All P (take j xs) → (k : ℕ) (d : X) → k < j → P (get_or xs k d)
below_from_take P xs j h all k d l =
    subst P (get_or-take j xs k d l) (all k d (omega (arith, length-take j xs)))

-- a light box is that of columns that are not large
pub columns_small : (columns : List Column) → All (λ bounds. reach bounds ≤ 2 ^ 96) (map rounded_bounds columns) → All (λ column. IsLargeColumn column → ⊥) columns
columns_small columns light k d h heavy =
    omega (arith, heavy, All-get_or (λ bounds. reach bounds ≤ 2 ^ 96) (map rounded_bounds columns) k (rounded_bounds d) (omega (arith, length-map columns rounded_bounds, h)) light, ap reach (get_or-map rounded_bounds columns k d (rounded_bounds d) h))

-- the first heavy column of the box is the first large one, and the model's first large part
pub first_of_box : (model : Model) (j : ℕ) → IsFirstHeavy (map rounded_bounds model.columns) j → IsFirstLarge model (parts.Column j)
first_of_box model j found =
    let columns = model.columns in
    let box = map rounded_bounds columns in
    let d : Bounds = record { low = pos 0; high = pos 0 } in
    let h : j < length columns = omega (arith, found.within, length-map columns rounded_bounds) in
    let large : IsLargeColumn (get_or columns j no_column) = omega (arith, found.heavy, ap reach (get_or-map rounded_bounds columns j no_column d h)) in
    column_is_first model j no_column h large (λ k l heavy. omega (arith, heavy, below_from_take (λ bounds. reach bounds ≤ 2 ^ 96) box j (omega (arith, found.within)) found.first k d l, ap reach (get_or-map rounded_bounds columns k no_column d (omega arith))))

-- ---- each model has no large part, or a first one

-- a list has nothing with a property that can be judged, or a first item that has it
search_first : {X : Type 0} (P : X → Type 0) → ((x : X) → P x ⊎ (P x → ⊥)) → (xs : List X) (d : X) → All (λ x. P x → ⊥) xs ⊎ ((i : ℕ) × (i < length xs) × P (get_or xs i d) × ((k : ℕ) → k < i → P (get_or xs k d) → ⊥))
search_first P judge [] d = inl (All-nil (λ x. P x → ⊥))
search_first P judge (x ∷ xs) d = ⊎_elim
    (λ has. inr (0, omega arith, has, λ k h found. omega arith))
    (λ lacks. ⊎_elim (λ none. inl (All-cons (λ x. P x → ⊥) x xs lacks none)) (λ found. inr (suc found.0, omega (arith, found.1), found.2, later lacks found.0 found.3)) (search_first P judge xs d))
    (judge x)
  where
    later : (P x → ⊥) → (i : ℕ) → ((k : ℕ) → k < i → P (get_or xs k d) → ⊥) → (k : ℕ) → k < suc i → P (get_or (x ∷ xs) k d) → ⊥
    later lacks i none zero h has = lacks has
    later lacks i none (suc k) h has = none k (omega arith) has

-- whether a weight is heavy, a column is large, and the objective
heavy_or_not : (weight : ℕ) → IsHeavy weight ⊎ (IsHeavy weight → ⊥)
heavy_or_not weight = ⊎_elim (λ heavy. inl heavy) (λ light. inr (λ heavy. omega (arith, heavy, light))) (cases_lt (2 ^ 96) weight)

wide_or_not : (a : List ℚ) → HasWideDenominator a ⊎ (HasWideDenominator a → ⊥)
wide_or_not a = ⊎_elim (λ narrow. inr (λ wide. omega (arith, narrow, wide))) (λ wide. inl wide) (cases_lt (common_denominator a) (2 ^ 127))

-- one of two, each of which can be judged, and both
or_judged : {P Q : Type 0} → P ⊎ (P → ⊥) → Q ⊎ (Q → ⊥) → (P ⊎ Q) ⊎ (P ⊎ Q → ⊥)
or_judged p q = ⊎_elim (λ has. inl (inl has)) (λ lacks. ⊎_elim (λ has. inl (inr has)) (λ lacks_too. inr (λ either. ⊎_elim (λ h. lacks h) (λ h. lacks_too h) either)) q) p

and_judged : {P Q : Type 0} → P ⊎ (P → ⊥) → Q ⊎ (Q → ⊥) → (P × Q) ⊎ (P × Q → ⊥)
and_judged p q = ⊎_elim (λ has. ⊎_elim (λ has_too. inl (has, has_too)) (λ lacks. inr (λ both. lacks both.1)) q) (λ lacks. inr (λ both. lacks both.0)) p

-- whether a product leaves the range
leaves_or_not : (factor : ℚ) (side : Option ℚ) → LeavesRange factor side ⊎ (LeavesRange factor side → ⊥)
leaves_or_not factor None = inr (λ h. h)
leaves_or_not factor (Some side) =
    let product = factor *ℚ side in
    ⊎_elim (λ num. ⊎_elim (λ den. inr (λ leaves. leaves (record { num = num; den = den }))) (λ den. inl (λ range. omega (arith, den, range.den))) (cases_lt product.den (2 ^ 127))) (λ num. inl (λ range. omega (arith, num, range.num))) (cases_lt (nat_abs product.num) (2 ^ 127))

-- whether a row is large
row_or_not : (box : List Bounds) (row : FractionRow) → IsLargeRow box row ⊎ (IsLargeRow box row → ⊥)
row_or_not box row =
    or_judged (heavy_or_not (weight box (integer_row row))) (and_judged (some_or_not row.factors) (or_judged (wide_or_not row.factors) (or_judged (leaves_or_not (scale row.factors) row.low) (leaves_or_not (scale row.factors) row.high))))
  where
    some_or_not : (a : List ℚ) → Any (λ q. q ≢ whole (pos 0)) a ⊎ (Any (λ q. q ≢ whole (pos 0)) a → ⊥)
    some_or_not a = ⊎_elim (λ some. inl some) (λ zeros. inr (λ some. numerator_from_some a some (no_numerator a zeros))) (some_or_zeros a)

-- a model has no large part, or a first one
pub large_found : (model : Model) → HasNoLargePart model ⊎ ((part : Part) × IsFirstLarge model part)
large_found model =
    ⊎_elim (λ columns. ⊎_elim (λ rows. ⊎_elim (λ large. inr (parts.Objective, objective_is_first model large columns rows)) (λ small. inl (none_is_large model columns rows small)) objective) (λ found. inr (parts.Row found.0, row_is_first model found.0 no_row found.1 found.2 found.3 columns)) (search_first (IsLargeRowOf model) (λ row. row_or_not (integer_rows model).whole.box (fraction_row (length model.columns) row)) model.rows no_row)) (λ found. inr (parts.Column found.0, column_is_first model found.0 no_column found.1 found.2 found.3)) (search_first IsLargeColumn (λ column. heavy_or_not (reach (rounded_bounds column))) model.columns no_column)
  where
    objective : IsLargeObjective model ⊎ (IsLargeObjective model → ⊥)
    objective = or_judged (heavy_or_not (objective_weight model)) (wide_or_not (objective_numbers model))
