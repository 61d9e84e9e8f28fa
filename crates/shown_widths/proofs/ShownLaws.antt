-- Points and lines show a form to be a direction.
use Rattle.std.proofs.Common.{◌≡◌, ⊎_elim, ℕ, zero, suc, ◌-◌, ◌*◌, ◌^◌, ◌<◌, ◌≤◌, List, [], ◌∷◌, length, get_or, ℤ, pos, negsuc, nat_abs, ◌*ℤ◌, ◌<ℤ◌, map, refl, ap, ap₂, sym, subst, subst₂, ◌∙◌, arith, mul-pos}
use Rattle.std.specs.Prelude.{Option, All}
use Rattle.std.specs.Int.{◌∣◌}
use Rattle.std.proofs.Math.Nat.{le_of_dvd}
use Rattle.std.proofs.lemmas.List.{length-map, get_or-map}
use Rattle.std.proofs.lemmas.List.Elements.{All-nil, All-cons, All-head, All-tail, All-get_or}
use Rattle.exact_math.specs.IntegerOrder.{abs_mul}
use Rattle.exact_math.specs.IntegerRing.{linear}
use Rattle.exact_math.specs.Ring.{integers}
use Rattle.exact_math.specs.RingSolver.{ring, reads}
use Rattle.exact_math.specs.Rational.{ℚ, whole, ◌+ℚ◌, ◌-ℚ◌, ◌*ℚ◌, ◌/ℚ◌, ◌≤ℚ◌}
use Rattle.exact_math.specs.RationalOrder.{le_trans, mul_le, whole_le}
use Rattle.exact_math.specs.RationalRing.{rationals}
use Rattle.exact_vectors.specs.Vectors.{dot, scale}
use Rattle.exact_vectors.specs.MatrixLaws as Matrix
use Rattle.whole_rows.specs.WholeRows.{WholeRows, IsWithinLimits}
use Rattle.farkas_rows.specs.declared.path.Slice.{Slice}
use Rattle.farkas_rows.specs.Inequalities.{unit}
use Rattle.spaces.specs.Maps.{pulled_form}
use Rattle.spaces.specs.TableLaws.{HasWidth-rows_in, length-rows_in, rows_in-at}
use Rattle.spaces.specs.Tables.{row_at, rows_in}
use Rattle.node_point.specs.NodePoints.{Fractions, IsNodePoint}
use Rattle.node_point.specs.RationalPoints.{coordinates, form_value, IsRationalPoint}
use Rattle.form_widths.specs.Directions.{IsDirection, IsFreeColumn}
use Rattle.form_widths.specs.FormLaws.{form_value-unit}
use Rattle.form_widths.specs.PrimitiveLaws.{primitive_nonzero}
use Rattle.form_widths.specs.PulledLaws.{form_value-point_over}
use Rattle.form_widths.specs.WidthLaws.{no_wider_by_multiple}
use Rattle.form_widths.specs.Widths.{IsBoundOn, IsNoWiderThan}
use Rattle.unimodular_pair.specs.Gathering.{common_divisor}
use Rattle.reformulate.specs.Substitutions.{IsShaped, Substitution, columns_of, dimension_of}
use Rattle.rational_frames.specs.RationalFrames.{rational_point_of}
use Rattle.presolve_map.specs.ReducedRows.{ReducedRows}
use Rattle.farkas_lift.specs.NodeEqualities.{work_form}
use Rattle.node_lines.specs.NodeSystems.{IsFramedNode}
use Rattle.node_regions.specs.NodeRegions.{IsInNode}
use Rattle.shown_widths.specs.Columns.{column_value, AreApart, IsOneOf, IsShownWide}
use Rattle.shown_widths.specs.Points.{work_fractions}
use Rattle.shown_widths.specs.Thin.{IsThinBy}
use Rattle.shown_widths.proofs.ColumnLaws.{combination-unit, divisor_of_multiple, none_by, primitive_by}
use Rattle.shown_widths.proofs.OneCoordinateLaws.{one_coordinate}
use Rattle.shown_widths.proofs.QuotientLaws.{quotient_is}
use Rattle.shown_widths.proofs.DirectionLaws.{all_coordinates, bound_in_region, thin_shown, with_coordinates, HasCoordinates}

-- a multiple that is all 0
none_of_multiple : (g : ℕ) (form : List ℤ) → 0 < g → All (λ factor. factor ≡ pos 0) (scale integers (pos g) form) → All (λ factor. factor ≡ pos 0) form
none_of_multiple g [] some h = All-nil (λ (factor : ℤ). factor ≡ pos 0)
none_of_multiple g (a ∷ form) some h =
    All-cons (λ (factor : ℤ). factor ≡ pos 0) a form (zero_by a (sym (abs_mul (pos g) a) ∙ ap nat_abs (All-head (λ (factor : ℤ). factor ≡ pos 0) (pos g *ℤ a) (scale integers (pos g) form) h)))
    (none_of_multiple g form some (All-tail (λ (factor : ℤ). factor ≡ pos 0) (pos g *ℤ a) (scale integers (pos g) form) h))
  where
    not_both : (n : ℕ) → 0 < n → n ≡ 0 → ⊥
    not_both n h e = omega arith

    zero_by : (z : ℤ) → g * nat_abs z ≡ 0 → z ≡ pos 0
    zero_by (pos zero) e = refl
    zero_by (pos (suc n)) e = absurd (not_both (g * suc n) (mul-pos some (omega arith)) e)
    zero_by (negsuc n) e = absurd (not_both (g * suc n) (mul-pos some (omega arith)) e)

module _ (model : WholeRows) (work : ReducedRows) (frame : Substitution) (path : List Slice) (cut : Option ℤ) (limits : IsWithinLimits model) (shaped : IsShaped frame) (framed : IsFramedNode model work frame path) where
  -- the line of a column, at the coordinates of a point: the column's value there, less that at the base
  line-value : (x : Fractions) (c : HasCoordinates model work frame path cut limits shaped framed x) (j : ℕ) → j < columns_of frame → pos 0 <ℤ x.denominator → column_value j (work_fractions work x) ≡ whole (dot integers (unit (columns_of frame) j) frame.to_work.base) +ℚ form_value (get_or (rows_in frame.to_work.lines) j []) c.y
  line-value x c j lt positive =
      let r = dimension_of frame in
      let lines = rows_in frame.to_work.lines in
      let n = columns_of frame in
      let w = coordinates (work_fractions work x) in
      let many : length lines ≡ n = length-rows_in frame.to_work.lines in
      let same : length frame.to_work.base ≡ length lines = shaped.base ∙ sym many in
      let width = HasWidth-rows_in frame.to_work.lines shaped.size_lines in
      let size : length w ≡ n = ap length (sym c.same) ∙ long c.y in
      let values = (work_fractions work x).numerators in
      let short : j < length values = subst (λ (m : ℕ). j < m) (sym size ∙ length-map values (λ (z : ℤ). whole z /ℚ whole x.denominator)) lt in
      sym (quotient_is (get_or values j (pos 0)) x.denominator positive)
      ∙ sym (get_or-map (λ (z : ℤ). whole z /ℚ whole x.denominator) values j (pos 0) (whole (pos 0)) short)
      ∙ sym (form_value-unit n j w size lt)
      ∙ ap (form_value (unit n j)) (sym c.same)
      ∙ form_value-point_over r frame.to_work.base lines (unit n j) c.y width same
      ∙ ap (λ (f : List ℤ). whole (dot integers (unit n j) frame.to_work.base) +ℚ form_value f c.y) (combination-unit r lines n j width many lt)
    where
      long : (y : List ℚ) → length (rational_point_of frame y) ≡ columns_of frame
      long y =
          Matrix.length-add rationals (columns_of frame) (map whole frame.to_work.base) _ (length-map frame.to_work.base whole ∙ shaped.base)
          (Matrix.length-times_vector rationals (map (map whole) (rows_in frame.to_work.lines)) y ∙ length-map (rows_in frame.to_work.lines) (map whole) ∙ length-rows_in frame.to_work.lines)

  module _ (points : List Fractions) (are : All (IsNodePoint model path cut) points) where
    -- one of the points over the work columns comes from a point of the node
    source : (v : Fractions) → IsOneOf (map (work_fractions work) points) v → (x : Fractions) × (IsNodePoint model path cut x × (v ≡ work_fractions work x))
    source v one =
        let short : one.place < length points = subst (λ (m : ℕ). one.place < m) (length-map points (work_fractions work)) one.there in
        let x = get_or points one.place (record { numerators = []; denominator = pos 0 }) in
        (x, (are one.place (record { numerators = []; denominator = pos 0 }) short, sym one.is ∙ get_or-map (work_fractions work) points one.place (record { numerators = []; denominator = pos 0 }) v short))

    -- A free column is as wide.
    pub column_no_wider : (form : List ℤ) (size : ℚ) (j : ℕ) (other : List ℤ) → IsBoundOn (IsInNode frame work cut) form size → IsShownWide j (row_at frame.to_work.lines j) size (map (work_fractions work) points) → IsFreeColumn (rows_in frame.to_work.lines) j other → IsNoWiderThan 1 (IsInNode frame work cut) form other
    column_no_wider form size j other bounded wide free = ⊎_elim no_column far wide
      where
        below : j < columns_of frame
        below = subst (λ (m : ℕ). j < m) (length-rows_in frame.to_work.lines) free.there

        line_is : row_at frame.to_work.lines j ≡ scale integers (pos free.divisor) other
        line_is = sym (rows_in-at frame.to_work.lines j below) ∙ free.line

        no_column : common_divisor (row_at frame.to_work.lines j) ≡ 0 → IsNoWiderThan 1 (IsInNode frame work cut) form other
        no_column e = absurd (primitive_nonzero other free.primitive (none_of_multiple free.divisor other free.positive (subst (λ (l : List ℤ). All (λ factor. factor ≡ pos 0) l) line_is (none_by (row_at frame.to_work.lines j) e))))

        less : (v : ℚ) → v -ℚ v ≡ whole (pos 0)
        less v = ring rationals (v ∷ []) (search reads depth 30) (search reads depth 30) refl

        turned : (a b : ℚ) → a *ℚ b ≡ b *ℚ a
        turned a b = ring rationals (a ∷ b ∷ []) (search reads depth 30) (search reads depth 30) refl

        cancelled : (b u v : ℚ) → (b +ℚ u) -ℚ (b +ℚ v) ≡ u -ℚ v
        cancelled b u v = ring rationals (b ∷ u ∷ v ∷ []) (search reads depth 30) (search reads depth 30) refl

        far : AreApart j (pos (common_divisor (row_at frame.to_work.lines j))) size (map (work_fractions work) points) → IsNoWiderThan 1 (IsInNode frame work cut) form other
        far apart = by_divisor (common_divisor (row_at frame.to_work.lines j)) refl
          where
            by_divisor : (d : ℕ) → common_divisor (row_at frame.to_work.lines j) ≡ d → IsNoWiderThan 1 (IsInNode frame work cut) form other
            by_divisor zero e = no_column e
            by_divisor (suc m) e =
                let high = source apart.high apart.one in
                let low = source apart.low apart.other in
                let c = with_coordinates model work frame path cut limits shaped framed high.0 high.1.0 in
                let k = with_coordinates model work frame path cut limits shaped framed low.0 low.1.0 in
                let base = whole (dot integers (unit (columns_of frame) j) frame.to_work.base) in
                let divides = subst₂ (λ (l : List ℤ) (n : ℕ). free.divisor ∣ n) line_is e (subst (λ (l : List ℤ). free.divisor ∣ common_divisor l) (sym line_is) (divisor_of_multiple free.divisor other)) in
                let few : free.divisor ≤ suc m = le_of_dvd (omega arith) divides in
                let nonneg = subst (λ t. t ≤ℚ size) (less (form_value form c.y)) (bounded c.y c.y c.there c.there) in
                let first = subst₂ ◌≤ℚ◌ (turned size (whole (pos free.divisor))) (turned size (whole (pos (suc m)))) (mul_le size (whole (pos free.divisor)) (whole (pos (suc m))) nonneg (whole_le (pos free.divisor) (pos (suc m)) (omega linear))) in
                let positive_high = subst (λ (v : Fractions). pos 0 <ℤ v.denominator) high.1.1 apart.one.positive in
                let positive_low = subst (λ (v : Fractions). pos 0 <ℤ v.denominator) low.1.1 apart.other.positive in
                let values = ap₂ (λ (v u : Fractions). column_value j v -ℚ column_value j u) high.1.1 low.1.1
                ∙ ap₂ ◌-ℚ◌ (line-value high.0 c j below positive_high) (line-value low.0 k j below positive_low)
                ∙ cancelled base (form_value (get_or (rows_in frame.to_work.lines) j []) c.y) (form_value (get_or (rows_in frame.to_work.lines) j []) k.y)
                ∙ ap (λ (l : List ℤ). form_value l c.y -ℚ form_value l k.y) free.line in
                let second = subst₂ (λ (n : ℕ) (t : ℚ). (whole (pos n) *ℚ size) ≤ℚ t) e values apart.apart in
                no_wider_by_multiple (IsInNode frame work cut) c.y k.y size free.divisor form other free.positive bounded c.there k.there (le_trans _ _ _ first second)

    -- Points and lines show the form to be a direction.
    pub direction_shown : (form : List ℤ) (size : ℚ) → 0 < length points → 0 < dimension_of frame → length form ≡ length model.box → common_divisor (pulled_form frame.to_work (work_form work form)) ≡ 1 → IsBoundOn (IsRationalPoint model path cut) form size → IsThinBy frame work cut size (map (work_fractions work) points) → IsDirection (IsInNode frame work cut) (dimension_of frame) (rows_in frame.to_work.lines) (pulled_form frame.to_work (work_form work form))
    direction_shown form size some_points some dense lowest bounded shown =
        let c = all_coordinates model work frame path cut limits shaped framed points are in
        let in_region = bound_in_region model work frame path cut limits shaped framed form size dense bounded in
        record {
          some = some;
          point = get_or c.ys 0 [];
          has_point = All-get_or (IsInNode frame work cut) c.ys 0 [] (omega (arith, c.as_many, some_points)) c.there;
          coordinates = Matrix.length-combination integers (dimension_of frame) (work_form work form) (rows_in frame.to_work.lines) (HasWidth-rows_in frame.to_work.lines shaped.size_lines);
          primitive = primitive_by (pulled_form frame.to_work (work_form work form)) lowest;
          thin = λ other long nonzero. thin_shown model work frame path cut limits shaped framed shown.width shown.times points (pulled_form frame.to_work (work_form work form)) size other are some_points shown.some shown.few shown.factor shown.not_negative shown.enough in_region shown.leave long nonzero;
          columns = λ column other free. column_no_wider (pulled_form frame.to_work (work_form work form)) size column other in_region (shown.wide column (subst (λ (m : ℕ). column < m) (length-rows_in frame.to_work.lines) free.there)) free;
        }

    -- In one coordinate each primitive form is a direction.
    pub direction_in_one : (form : List ℤ) → 0 < length points → dimension_of frame ≡ 1 → common_divisor (pulled_form frame.to_work (work_form work form)) ≡ 1 → IsDirection (IsInNode frame work cut) (dimension_of frame) (rows_in frame.to_work.lines) (pulled_form frame.to_work (work_form work form))
    direction_in_one form some_points one lowest =
        let c = all_coordinates model work frame path cut limits shaped framed points are in
        let pulled = pulled_form frame.to_work (work_form work form) in
        let width = HasWidth-rows_in frame.to_work.lines shaped.size_lines in
        let long = Matrix.length-combination integers (dimension_of frame) (work_form work form) (rows_in frame.to_work.lines) width in
        let there = All-get_or (IsInNode frame work cut) c.ys 0 [] (omega (arith, c.as_many, some_points)) c.there in
        let primitive = primitive_by pulled lowest in
        record {
          some = omega (arith, one);
          point = get_or c.ys 0 [];
          has_point = there;
          coordinates = long;
          primitive = primitive;
          thin = λ other wide nonzero. subst (λ (r : ℕ). IsNoWiderThan (4 ^ (r - 1)) (IsInNode frame work cut) pulled other) (sym one) (one_coordinate (IsInNode frame work cut) pulled other (get_or c.ys 0 []) there (long ∙ one) primitive (wide ∙ one) nonzero);
          columns = λ column other free. one_coordinate (IsInNode frame work cut) pulled other (get_or c.ys 0 []) there (long ∙ one) primitive (sym (Matrix.length-scale integers (pos free.divisor) other) ∙ ap (λ (l : List ℤ). length l) (sym free.line) ∙ Matrix.HasWidth-at integers (dimension_of frame) (rows_in frame.to_work.lines) column [] width free.there ∙ one) (primitive_nonzero other free.primitive);
        }
