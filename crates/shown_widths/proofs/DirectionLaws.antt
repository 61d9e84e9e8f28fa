-- What the checks of a direction show.
use Rattle.std.proofs.Common.{◌≡◌, ⊎_elim, inl, inr, ℕ, zero, suc, ◌-◌, ◌*◌, ◌^◌, ◌<◌, ◌≤◌, Bool, true, false, List, [], ◌∷◌, length, get_or, ℤ, pos, negsuc, nat_abs, ◌+ℤ◌, ◌*ℤ◌, ◌≤ℤ◌, map, refl, ap, ap₂, sym, subst, subst₂, ◌∙◌, arith, mul-pos}
use Rattle.std.specs.Prelude.{◌⊎◌, Option, is_some, All}
use Rattle.std.proofs.lemmas.List.{length-map}
use Rattle.std.proofs.lemmas.List.Elements.{All-nil, All-cons, All-head, All-tail, All-map, All-weaker, All-get_or}
use Rattle.std.proofs.lemmas.Slice.Zip.{AllZip-long}
use Rattle.exact_math.specs.IntegerRing.{linear}
use Rattle.exact_math.specs.RingSolver.{ring, reads}
use Rattle.exact_math.specs.Rational.{ℚ, whole, inv_ℚ, ◌+ℚ◌, ◌-ℚ◌, ◌*ℚ◌, ◌/ℚ◌, ◌≤ℚ◌}
use Rattle.exact_math.specs.RationalOrder.{le_trans, mul_le, mul_nonneg, whole_le}
use Rattle.exact_math.specs.RationalRing.{rationals, whole_mul}
use Rattle.exact_vectors.specs.Vectors.{sum}
use Rattle.whole_rows.specs.WholeRows.{WholeRows, IsWithinLimits}
use Rattle.farkas_rows.specs.declared.path.Slice.{Slice}
use Rattle.farkas_rows.specs.Inequalities.{Inequality}
use Rattle.spaces.specs.Maps.{pulled_constant, pulled_form}
use Rattle.spaces.specs.TableLaws.{HasWidth-rows_in, length-rows_in}
use Rattle.spaces.specs.Tables.{rows_in}
use Rattle.node_point.specs.NodePoints.{Fractions, IsNodePoint}
use Rattle.node_point.specs.RationalPoints.{coordinates, form_value, IsRationalPoint}
use Rattle.node_point.specs.RationalPointLaws.{point-rational}
use Rattle.whole_vectors.specs.ClearedLaws.{inverse-mul}
use Rattle.form_widths.specs.Inequalities.{IsSolution, slack}
use Rattle.form_widths.specs.MeanLaws.{length-mean, mean_step, room_at_least}
use Rattle.form_widths.specs.Means.{AllowsStep, LeavesStep, mean, room_of}
use Rattle.form_widths.specs.NodePointLaws.{IsIn}
use Rattle.form_widths.specs.PulledLaws.{bound-pulled, slack-pulled}
use Rattle.form_widths.specs.RationalOrderLaws.{inverse-nonneg}
use Rattle.form_widths.specs.Rooms.{HasRoom}
use Rattle.form_widths.specs.WidthLaws.{room_bounds_width}
use Rattle.form_widths.specs.Widths.{IsBoundOn, IsNoWiderThan, IsNonzero}
use Rattle.reformulate.specs.Substitutions.{IsShaped, Substitution, dimension_of}
use Rattle.rational_frames.specs.RationalFrames.{rational_point_of}
use Rattle.presolve_map.specs.Columns.{open_flags, removed_part}
use Rattle.presolve_map.specs.ReducedRows.{ReducedRows}
use Rattle.presolve_map.specs.Selections.{select}
use Rattle.farkas_lift.specs.NodeEqualities.{work_form}
use Rattle.farkas_lift.specs.NodeSides.{inequality_of, node_sides}
use Rattle.farkas_lift.specs.NodeSystem.{cut_of, node_system, pulled}
use Rattle.node_lines.specs.NodeSystems.{IsFramedNode}
use Rattle.node_regions.specs.NodePointLaws.{inward, outward, values, work_form-is, rows_met, met_by_rows}
use Rattle.node_regions.specs.NodeRegions.{IsInNode}
use Rattle.shown_widths.specs.Points.{work_fractions}
use Rattle.shown_widths.specs.Steps.{parts, width_parts, AllLeave, IsWideEnough, LeavesRoomAlong, SideLeaves}
use Rattle.shown_widths.specs.declared.room.Width.{Width}

-- ---- comparisons

-- a positive factor is cancelled
cancel_positive : (n : ℕ) (p q : ℚ) → 0 < n → (whole (pos n) *ℚ p) ≤ℚ (whole (pos n) *ℚ q) → p ≤ℚ q
cancel_positive n p q some h = subst₂ ◌≤ℚ◌ (undone p) (undone q) (mul_le (whole (pos 1) /ℚ whole (pos n)) _ _ (inverse-nonneg n some) h)
  where
    together : (i t w : ℚ) → (whole (pos 1) *ℚ i) *ℚ (t *ℚ w) ≡ (i *ℚ t) *ℚ w
    together i t w = ring rationals (i ∷ t ∷ w ∷ []) (search reads depth 30) (search reads depth 30) refl

    alone : (w : ℚ) → whole (pos 1) *ℚ w ≡ w
    alone w = ring rationals (w ∷ []) (search reads depth 30) (search reads depth 30) refl

    undone : (w : ℚ) → (whole (pos 1) /ℚ whole (pos n)) *ℚ (whole (pos n) *ℚ w) ≡ w
    undone w = together (inv_ℚ (whole (pos n))) (whole (pos n)) w ∙ ap (λ t. t *ℚ w) (inverse-mul n some) ∙ alone w

-- what is compared, over twice the factor
abbrev pub step_of : ℤ → ℕ → ℚ
step_of units factor = (whole (pos 1) /ℚ whole (pos (factor * 2))) *ℚ whole units

step_back : (units : ℤ) (factor : ℕ) → 0 < factor → whole (pos (factor * 2)) *ℚ step_of units factor ≡ whole units
step_back units factor some =
    together (inv_ℚ (whole (pos (factor * 2)))) (whole (pos (factor * 2))) (whole units) ∙ ap (λ t. t *ℚ whole units) (inverse-mul (factor * 2) (mul-pos some (omega arith))) ∙ alone (whole units)
  where
    together : (i t w : ℚ) → t *ℚ ((whole (pos 1) *ℚ i) *ℚ w) ≡ (i *ℚ t) *ℚ w
    together i t w = ring rationals (i ∷ t ∷ w ∷ []) (search reads depth 30) (search reads depth 30) refl

    alone : (w : ℚ) → whole (pos 1) *ℚ w ≡ w
    alone w = ring rationals (w ∷ []) (search reads depth 30) (search reads depth 30) refl

twice : (factor : ℕ) (q : ℚ) → whole (pos factor) *ℚ (whole (pos 2) *ℚ q) ≡ whole (pos (factor * 2)) *ℚ q
twice factor q = together (whole (pos factor)) (whole (pos 2)) q ∙ ap (λ t. t *ℚ q) (sym (whole_mul (pos factor) (pos 2)))
  where
    together : (f t q : ℚ) → f *ℚ (t *ℚ q) ≡ (f *ℚ t) *ℚ q
    together f t q = ring rationals (f ∷ t ∷ q ∷ []) (search reads depth 30) (search reads depth 30) refl

-- the step is within a room
step_within : (units : ℤ) (factor : ℕ) (room : ℚ) → 0 < factor → whole units ≤ℚ (whole (pos factor) *ℚ (whole (pos 2) *ℚ room)) → step_of units factor ≤ℚ room
step_within units factor room some h =
    cancel_positive (factor * 2) (step_of units factor) room (mul-pos some (omega arith)) (subst₂ ◌≤ℚ◌ (sym (step_back units factor some)) (twice factor room) h)

step-nonneg : (units : ℤ) (factor : ℕ) → 0 < factor → pos 0 ≤ℤ units → whole (pos 0) ≤ℚ step_of units factor
step-nonneg units factor some h = mul_nonneg _ _ (inverse-nonneg (factor * 2) (mul-pos some (omega arith))) (whole_le (pos 0) units h)

-- there are parts of a unit
some_parts : 0 < width_parts
some_parts = omega arith

-- A width that is at most so many parts of a unit, where a point has room for the step.
pub thin_by_step : (region : List ℚ → Type 0) (p y : List ℚ) (units : ℤ) (times most : ℕ) (width : ℚ) (form other : List ℤ) → 0 < times → times ≤ most → region y → HasRoom region p (step_of units (width_parts * times)) → IsBoundOn region form width → (whole (pos width_parts) *ℚ width) ≤ℚ whole units → length other ≡ length p → IsNonzero other → IsNoWiderThan most region form other
thin_by_step region p y units times most width form other some few there room bounded small long nonzero bound within u v in_u in_v =
    le_trans _ _ _ (bounded u v in_u in_v) (le_trans _ _ _ (cancel_positive width_parts width (whole (pos times) *ℚ bound) (omega arith) all) more)
  where
    factor : 0 < width_parts * times
    factor = mul-pos some_parts some

    least : (whole (pos 2) *ℚ step_of units (width_parts * times)) ≤ℚ bound
    least = room_bounds_width region p (step_of units (width_parts * times)) other bound room long nonzero within

    grouped : (p t b : ℚ) → (p *ℚ t) *ℚ b ≡ p *ℚ (t *ℚ b)
    grouped p t b = ring rationals (p ∷ t ∷ b ∷ []) (search reads depth 30) (search reads depth 30) refl

    all : (whole (pos width_parts) *ℚ width) ≤ℚ (whole (pos width_parts) *ℚ (whole (pos times) *ℚ bound))
    all = le_trans _ _ _ small
        (subst₂ ◌≤ℚ◌ (twice (width_parts * times) (step_of units (width_parts * times)) ∙ step_back units (width_parts * times) factor)
        (ap (λ t. t *ℚ bound) (whole_mul (pos width_parts) (pos times)) ∙ grouped (whole (pos width_parts)) (whole (pos times)) bound)
        (mul_le (whole (pos (width_parts * times))) _ _ (whole_le (pos 0) (pos (width_parts * times)) (omega linear)) least))

    none : (v : ℚ) → v -ℚ v ≡ whole (pos 0)
    none v = ring rationals (v ∷ []) (search reads depth 30) (search reads depth 30) refl

    bound-nonneg : whole (pos 0) ≤ℚ bound
    bound-nonneg = subst (λ t. t ≤ℚ bound) (none (form_value other y)) (within y y there there)

    turned : (b t : ℚ) → b *ℚ t ≡ t *ℚ b
    turned b t = ring rationals (b ∷ t ∷ []) (search reads depth 30) (search reads depth 30) refl

    more : (whole (pos times) *ℚ bound) ≤ℚ (whole (pos most) *ℚ bound)
    more = subst₂ ◌≤ℚ◌ (turned bound (whole (pos times))) (turned bound (whole (pos most))) (mul_le bound (whole (pos times)) (whole (pos most)) bound-nonneg (whole_le (pos times) (pos most) (omega linear)))

-- ---- points over the work columns

select-map : {A B : Type 0} (f : A → B) (flags : List Bool) (xs : List A) → select flags (map f xs) ≡ map f (select flags xs)
select-map f [] xs = refl
select-map f (flag ∷ flags) [] = refl
select-map {A} {B} f (true ∷ flags) (x ∷ xs) = ap {B = List B} (λ l. f x ∷ l) (select-map f flags xs)
select-map f (false ∷ flags) (x ∷ xs) = select-map f flags xs

-- entries of size 0
none_of : (form : List ℤ) → All (λ factor. nat_abs factor ≤ 0) form → All (λ factor. factor ≡ pos 0) form
none_of form h = All-weaker (λ (factor : ℤ). nat_abs factor ≤ 0) (λ (factor : ℤ). factor ≡ pos 0) zero_of form h
  where
    zero_of : (z : ℤ) → nat_abs z ≤ 0 → z ≡ pos 0
    zero_of (pos zero) h = refl
    zero_of (pos (suc n)) h = absurd (omega arith)
    zero_of (negsuc n) h = absurd (omega arith)

module _ (model : WholeRows) (work : ReducedRows) (frame : Substitution) (path : List Slice) (cut : Option ℤ) (limits : IsWithinLimits model) (shaped : IsShaped frame) (framed : IsFramedNode model work frame path) where
  -- a point of the region, and the point over the work columns for which it stands
  pub record HasCoordinates (x : Fractions) : Type 0 where
    pub y : List ℚ
    pub there : IsInNode frame work cut y
    pub same : rational_point_of frame y ≡ coordinates (work_fractions work x)

  pub with_coordinates : (x : Fractions) → IsNodePoint model path cut x → HasCoordinates x
  with_coordinates x point =
      let rational = point-rational model path cut x.numerators x.denominator point in
      let f : ℤ → ℚ = λ n. whole n /ℚ whole x.denominator in
      let dense : length x.numerators ≡ length model.box = sym (length-map x.numerators f) ∙ AllZip-long IsIn model.box (coordinates x) rational.in_box in
      let found = inward model work frame path cut limits shaped framed (coordinates x) rational in
      record {
        y = found.0;
        there = found.1.0;
        same = found.1.1 ∙ select-map f (open_flags model.box) x.numerators ∙ ap (map f) (sym (work_form-is model work x.numerators framed.reduced dense));
      }

  -- such points for each of a list
  pub record HaveCoordinates (points : List Fractions) : Type 0 where
    pub ys : List (List ℚ)
    pub there : All (IsInNode frame work cut) ys
    pub same : map (rational_point_of frame) ys ≡ map coordinates (map (work_fractions work) points)
    pub as_many : length ys ≡ length points

  pub all_coordinates : (points : List Fractions) → All (IsNodePoint model path cut) points → HaveCoordinates points
  all_coordinates [] h = record { ys = []; there = All-nil (IsInNode frame work cut); same = refl; as_many = refl }
  all_coordinates (x ∷ points) h =
      let one = with_coordinates x (All-head (IsNodePoint model path cut) x points h) in
      let rest = all_coordinates points (All-tail (IsNodePoint model path cut) x points h) in
      record {
        ys = one.y ∷ rest.ys;
        there = All-cons (IsInNode frame work cut) one.y rest.ys one.there rest.there;
        same = ap₂ (λ (p : List ℚ) (l : List (List ℚ)). p ∷ l) one.same rest.same;
        as_many = ap suc rest.as_many;
      }

  -- slacks are the same
  slack-sums : (i : Inequality) (ys : List (List ℚ)) → sum rationals (map (slack (pulled frame.to_work i)) ys) ≡ sum rationals (map (slack i) (map (rational_point_of frame) ys))
  slack-sums i [] = refl
  slack-sums i (y ∷ ys) =
      ap₂ ◌+ℚ◌ (slack-pulled (dimension_of frame) frame.to_work.base (rows_in frame.to_work.lines) i y (HasWidth-rows_in frame.to_work.lines shaped.size_lines) (shaped.base ∙ sym (length-rows_in frame.to_work.lines))) (slack-sums i ys)

  -- an inequality that leaves the room leaves it in the coordinates
  leaves_step : (width : Width) (factor : ℕ) (ys ws : List (List ℚ)) (i : Inequality) → width.factor ≡ pos factor → 0 < factor → 0 < length ys → map (rational_point_of frame) ys ≡ ws → LeavesRoomAlong width frame.to_work ws i → LeavesStep parts (step_of width.units factor) ys (pulled frame.to_work i)
  leaves_step width factor ys ws i is some some_points same h = by_reach h.reach h.light.0 h.light.1 h.wide
    where
      room_in : (n : ℕ) → 0 < n → (room : ℤ) → pos 0 ≤ℤ room → All (λ factor. nat_abs factor ≤ n) (pulled_form frame.to_work i.factors) → whole room ≤ℚ (whole (pos parts) *ℚ sum rationals (map (slack i) ws)) → (width.units *ℤ (pos (length ws) *ℤ (pos parts *ℤ pos n))) ≤ℤ (width.factor *ℤ (pos 2 *ℤ room)) → AllowsStep parts (step_of width.units factor) ys (pulled frame.to_work i)
      room_in n n_some (negsuc m) nonneg light enough within = absurd (omega linear)
      room_in n n_some (pos room) nonneg light enough within =
          let count : length ws ≡ length ys = sym (ap length same) ∙ length-map ys (rational_point_of frame) in
          record {
            reach = n;
            room = room;
            some = n_some;
            slack = record {
              light = light;
              enough = subst (λ s. whole (pos room) ≤ℚ (whole (pos parts) *ℚ s)) (ap (λ (l : List (List ℚ)). sum rationals (map (slack i) l)) (sym same) ∙ sym (slack-sums i ys)) enough;
            };
            within = step_within width.units factor (room_of parts n room ys) some
                (room_at_least parts n room factor ys width.units some_points (omega arith) n_some
                (subst₂ (λ (m : ℕ) (f : ℤ). (width.units *ℤ (pos m *ℤ (pos parts *ℤ pos n))) ≤ℤ (f *ℤ (pos 2 *ℤ pos room))) count is within));
          }

      by_reach : (reach : ℤ) → pos 0 ≤ℤ reach → All (λ factor. nat_abs factor ≤ nat_abs reach) (pulled_form frame.to_work i.factors) → (reach ≡ pos 0) ⊎ IsWideEnough width reach ws i → LeavesStep parts (step_of width.units factor) ys (pulled frame.to_work i)
      by_reach (negsuc n) nonneg light wide = absurd (omega linear)
      by_reach (pos zero) nonneg light wide = inl (none_of (pulled_form frame.to_work i.factors) light)
      by_reach (pos (suc n)) nonneg light wide = ⊎_elim (λ e. absurd (not_zero n e)) (λ w. inr (room_in (suc n) (omega arith) w.room w.not_negative light w.enough w.within)) wide
        where
          not_zero : (n : ℕ) → pos (suc n) ≡ pos 0 → ⊥
          not_zero n e = omega linear

  -- the mean has the room
  mean_has_step : (width : Width) (factor : ℕ) (points : List Fractions) (c : HaveCoordinates points) → width.factor ≡ pos factor → 0 < factor → pos 0 ≤ℤ width.units → 0 < length points → AllLeave width frame.to_work (map coordinates (map (work_fractions work) points)) work cut → HasRoom (IsInNode frame work cut) (mean (dimension_of frame) c.ys) (step_of width.units factor)
  mean_has_step width factor points c is some nonneg some_points all k short =
      let some_ys : 0 < length c.ys = omega (arith, c.as_many, some_points) in
      let solutions = All-weaker (IsInNode frame work cut) (IsSolution (dimension_of frame) (node_system frame work cut)) (λ y there. (there.coordinates, met_by_rows y (node_system frame work cut) there.met)) c.ys c.there in
      let leaves = All-map (LeavesStep parts (step_of width.units factor) c.ys) (λ side. pulled frame.to_work (inequality_of work (cut_of cut) side)) (node_sides work (is_some cut))
      (All-weaker (SideLeaves width frame.to_work (map coordinates (map (work_fractions work) points)) work (cut_of cut)) (λ side. LeavesStep parts (step_of width.units factor) c.ys (pulled frame.to_work (inequality_of work (cut_of cut) side)))
      (λ side h. leaves_step width factor c.ys (map coordinates (map (work_fractions work) points)) (inequality_of work (cut_of cut) side) is some some_ys c.same h) (node_sides work (is_some cut)) all) in
      let both = mean_step (dimension_of frame) parts (step_of width.units factor) (node_system frame work cut) c.ys some_ys (omega arith) (step-nonneg width.units factor some nonneg) solutions leaves k short in
      (into _ both.0, into _ both.1)
    where
      into : (y : List ℚ) → IsSolution (dimension_of frame) (node_system frame work cut) y → IsInNode frame work cut y
      into y h = record { coordinates = h.0; met = rows_met y (node_system frame work cut) h.1 }

  -- ---- the form of a split in the coordinates

  -- a bound on its width in the region
  pub bound_in_region : (form : List ℤ) (width : ℚ) → length form ≡ length model.box → IsBoundOn (IsRationalPoint model path cut) form width → IsBoundOn (IsInNode frame work cut) (pulled_form frame.to_work (work_form work form)) width
  bound_in_region form width dense bounded =
      bound-pulled (IsInNode frame work cut) (pulled_form frame.to_work (work_form work form)) (IsRationalPoint model path cut) form (pulled_constant frame.to_work (work_form work form) +ℤ removed_part model.box form) width
      (λ y there. let x = outward model work frame path cut limits shaped framed y there in (x.0, (x.1.0, values model work frame path cut limits shaped framed x.0 y form x.1.0 x.1.1 dense)))
      bounded

  -- It is at most 4^(r-1) times as wide as each other form.
  pub thin_shown : (width : Width) (times : ℕ) (points : List Fractions) (form : List ℤ) (size : ℚ) (other : List ℤ) → All (IsNodePoint model path cut) points → 0 < length points → 0 < times → times ≤ 4 ^ (dimension_of frame - 1) → width.factor ≡ pos (width_parts * times) → pos 0 ≤ℤ width.units → (whole (pos width_parts) *ℚ size) ≤ℚ whole width.units → IsBoundOn (IsInNode frame work cut) form size → AllLeave width frame.to_work (map coordinates (map (work_fractions work) points)) work cut → length other ≡ dimension_of frame → IsNonzero other → IsNoWiderThan (4 ^ (dimension_of frame - 1)) (IsInNode frame work cut) form other
  thin_shown width times points form size other are some_points some few is nonneg small bounded all long nonzero =
      let c = all_coordinates points are in
      let factor : 0 < width_parts * times = mul-pos some_parts some in
      let some_ys : 0 < length c.ys = omega (arith, c.as_many, some_points) in
      let solutions = All-weaker (IsInNode frame work cut) (IsSolution (dimension_of frame) (node_system frame work cut)) (λ y there. (there.coordinates, met_by_rows y (node_system frame work cut) there.met)) c.ys c.there in
      thin_by_step (IsInNode frame work cut) (mean (dimension_of frame) c.ys) (get_or c.ys 0 []) width.units times (4 ^ (dimension_of frame - 1)) size form other some few
      (All-get_or (IsInNode frame work cut) c.ys 0 [] some_ys c.there)
      (mean_has_step width (width_parts * times) points c is factor nonneg some_points all)
      bounded small (long ∙ sym (length-mean (dimension_of frame) (node_system frame work cut) c.ys solutions)) nonzero
