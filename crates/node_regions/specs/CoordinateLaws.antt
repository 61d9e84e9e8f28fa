-- The rational points of a node are those of its region in the coordinates of a frame.
use Rattle.std.proofs.Common.{◌≡◌, ℕ, ◌+◌, ◌≤◌, List, [], ◌∷◌, length, map, ℤ, pos, neg_ℤ, nat_abs, ◌-ℤ◌, ◌≤ℤ◌, refl, sym, ap, ap₂, subst, ◌∙◌, arith, All}
use Rattle.std.specs.Prelude.{Option, is_some}
use Rattle.std.specs.List.{AllZip}
use Rattle.std.proofs.lemmas.List.{length-map}
use Rattle.std.proofs.lemmas.List.Elements.{All-cons, All-head, All-nil, All-tail}
use Rattle.exact_math.specs.IntegerRing.{linear}
use Rattle.exact_math.specs.Ring.{integers}
use Rattle.exact_math.specs.Rational.{ℚ, whole, neg_ℚ, ◌+ℚ◌, ◌-ℚ◌, ◌≤ℚ◌}
use Rattle.exact_math.specs.RationalOrder.{le_trans, whole_le}
use Rattle.exact_math.specs.RationalRing.{rationals}
use Rattle.exact_math.specs.RingSolver.{ring, reads}
use Rattle.exact_vectors.specs.Vectors.{add, dot, negate}
use Rattle.exact_vectors.specs.Matrices.{HasWidth, times_vector}
use Rattle.exact_vectors.specs.DotLaws as Dot
use Rattle.whole_vectors.specs.WholeVectorLaws.{dot-map_whole, whole_neg}
use Rattle.whole_rows.specs.declared.bounds.Bounds.{Bounds}
use Rattle.whole_rows.specs.declared.ends.End.TheVariants.{Least, Greatest}
use Rattle.whole_rows.specs.Ends.{sum_at}
use Rattle.whole_rows.specs.WholeRows.{WholeRows, IsWithinLimits}
use Rattle.farkas_rows.specs.declared.path.Slice.{Slice}
use Rattle.farkas_rows.specs.Inequalities.{Inequality}
use Rattle.farkas_rows.specs.Refutes.{HasForms}
use Rattle.node_point.specs.RationalPoints.{form_value, IsRationalPoint}
use Rattle.form_widths.specs.Inequalities.{HasMatches, IsMetAt}
use Rattle.form_widths.specs.PulledLaws.{IsMetAt-pulled, form_value-point_over, whole_sub}
use Rattle.form_widths.specs.RationalOrderLaws.{le_by}
use Rattle.spaces.specs.Maps.{pulled_constant, pulled_form}
use Rattle.spaces.specs.TableLaws.{HasWidth-rows_in, length-rows_in}
use Rattle.spaces.specs.Tables.{rows_in}
use Rattle.lp_dict.specs.Systems.{wholes}
use Rattle.norm_gauge.specs.Widths.{HasBound}
use Rattle.rational_frames.specs.RationalFrames.{IsRationalFrame, SolvesOver, rational_coordinates_of, rational_point_of}
use Rattle.rational_frames.specs.RationalFrameLaws.{rational_frame}
use Rattle.reformulate.specs.Frames.{IsFrame}
use Rattle.reformulate.specs.Substitutions.{IsShaped, Substitution, columns_of, dimension_of}
use Rattle.presolve_map.specs.Columns.{kept}
use Rattle.presolve_map.specs.ReducedRows.{ReducedRows, IsReduced}
use Rattle.farkas_lift.specs.NodeEqualities.{node_equalities, work_form}
use Rattle.farkas_lift.specs.NodeSides.{inequality_of, node_sides}
use Rattle.farkas_lift.specs.NodeSystem.{cut_of, node_system, pulled}
use Rattle.farkas_lift.specs.declared.side.NodeSide.{NodeSide}
use Rattle.node_regions.specs.KeptFormLaws.{work_form-kept}
use Rattle.node_regions.specs.MetNodeLaws.{met_is_reduced, reduced_is_met}
use Rattle.node_regions.specs.MetNodes.{MeetsNode, MeetsSide}
use Rattle.node_regions.specs.NodeFrames.{IsKeptForm}
use Rattle.node_regions.specs.NodeRegions.{IsInNode, node_polytope}
use Rattle.node_regions.specs.PlacedPointLaws.{greatest_sum_over, least_sum_over, placed-kept, placed-same, point_is_kept, reduced_point_is_placed, value-same}
use Rattle.node_regions.specs.PlacedPoints.{IsInBox, IsReducedPoint, placed_point}

-- ---- inequalities as rows and limits

rows_met : (y : List ℚ) (inequalities : List Inequality) → All (IsMetAt y) inequalities → AllZip ◌≤ℚ◌ (times_vector rationals (map (λ (inequality : Inequality). wholes inequality.factors) inequalities) y) (map (λ (inequality : Inequality). whole inequality.limit) inequalities)
rows_met y [] h = tt
rows_met y (i ∷ inequalities) h = (All-head (IsMetAt y) i inequalities h, rows_met y inequalities (All-tail (IsMetAt y) i inequalities h))

met_by_rows : (y : List ℚ) (inequalities : List Inequality) → AllZip ◌≤ℚ◌ (times_vector rationals (map (λ (inequality : Inequality). wholes inequality.factors) inequalities) y) (map (λ (inequality : Inequality). whole inequality.limit) inequalities) → All (IsMetAt y) inequalities
met_by_rows y [] h = All-nil (IsMetAt y)
met_by_rows y (i ∷ inequalities) h = All-cons (IsMetAt y) i inequalities h.0 (met_by_rows y inequalities h.1)

-- ---- bounds of a point's products with whole rows

-- a number that no end of a row over the box, less a constant, passes in size
reach_of : List Bounds → List ℤ → List ℤ → ℕ
reach_of box base row = nat_abs (sum_at Least row box -ℤ dot integers row base) + nat_abs (sum_at Greatest row box -ℤ dot integers row base)

reaches : List Bounds → List ℤ → List (List ℤ) → ℕ
reaches box base [] = 0
reaches box base (row ∷ rows) = reach_of box base row + reaches box base rows

-- between minus the bound and the bound
abbrev IsBetween : ℕ → ℚ → Type 0
IsBetween n v = (neg_ℚ (whole (pos n)) ≤ℚ v) × (v ≤ℚ whole (pos n))

product_between : (box : List Bounds) (base row : List ℤ) (w : List ℚ) (n : ℕ) → IsInBox box w → length w ≡ length base → reach_of box base row ≤ n → IsBetween n (dot rationals (map whole row) (add rationals w (negate rationals (map whole base))))
unfolding reach_of
product_between box base row w n h long few =
    let c : ℤ = dot integers row base in
    let is : dot rationals (map whole row) (add rationals w (negate rationals (map whole base))) ≡ form_value row w -ℚ whole (dot integers row base) =
    Dot.dot-add_right rationals (map whole row) w (negate rationals (map whole base)) (long ∙ sym (length-map (map whole base) rationals.neg ∙ length-map base whole))
    ∙ ap (λ t. form_value row w +ℚ t) (Dot.dot-negate_right rationals (map whole row) (map whole base) ∙ ap neg_ℚ (dot-map_whole row base)) in
    let low : whole (sum_at Least row box -ℤ dot integers row base) ≤ℚ (form_value row w -ℚ whole (dot integers row base)) =
    le_by (whole (sum_at Least row box -ℤ dot integers row base)) (form_value row w -ℚ whole (dot integers row base)) (whole (sum_at Least row box)) (form_value row w) (least_sum_over row box w h) (ap (λ t. (form_value row w -ℚ whole (dot integers row base)) -ℚ t) (whole_sub (sum_at Least row box) (dot integers row base)) ∙ cancel (form_value row w) (whole (sum_at Least row box)) (whole (dot integers row base))) in
    let high : (form_value row w -ℚ whole (dot integers row base)) ≤ℚ whole (sum_at Greatest row box -ℤ dot integers row base) =
    le_by (form_value row w -ℚ whole (dot integers row base)) (whole (sum_at Greatest row box -ℤ dot integers row base)) (form_value row w) (whole (sum_at Greatest row box)) (greatest_sum_over row box w h) (ap (λ t. t -ℚ (form_value row w -ℚ whole (dot integers row base))) (whole_sub (sum_at Greatest row box) (dot integers row base)) ∙ cancel (whole (sum_at Greatest row box)) (form_value row w) (whole (dot integers row base))) in
    subst (IsBetween n) (sym is) (
      subst (λ t. t ≤ℚ (form_value row w -ℚ whole (dot integers row base))) (whole_neg (pos n)) (le_trans (whole (neg_ℤ (pos n))) (whole (sum_at Least row box -ℤ dot integers row base)) (form_value row w -ℚ whole (dot integers row base)) (whole_le (neg_ℤ (pos n)) (sum_at Least row box -ℤ dot integers row base) (below_size n (sum_at Least row box -ℤ dot integers row base) (omega (arith, few)))) low),
      le_trans (form_value row w -ℚ whole (dot integers row base)) (whole (sum_at Greatest row box -ℤ dot integers row base)) (whole (pos n)) high (whole_le (sum_at Greatest row box -ℤ dot integers row base) (pos n) (above_size n (sum_at Greatest row box -ℤ dot integers row base) (omega (arith, few)))),
    )
  where
    cancel : (a b c : ℚ) → (a -ℚ c) -ℚ (b -ℚ c) ≡ a -ℚ b
    cancel a b c = ring rationals (a ∷ b ∷ c ∷ []) (search reads depth 30) (search reads depth 30) refl

    below_size : (n : ℕ) (z : ℤ) → nat_abs z ≤ n → neg_ℤ (pos n) ≤ℤ z
    below_size n z h = omega (arith, linear)

    above_size : (n : ℕ) (z : ℤ) → nat_abs z ≤ n → z ≤ℤ pos n
    above_size n z h = omega (arith, linear)

products_between : (box : List Bounds) (base : List ℤ) (rows : List (List ℤ)) (w : List ℚ) (n : ℕ) → IsInBox box w → length w ≡ length base → reaches box base rows ≤ n → All (IsBetween n) (times_vector rationals (map (map whole) rows) (add rationals w (negate rationals (map whole base))))
unfolding reaches
products_between box base [] w n h long few = All-nil (IsBetween n)
products_between box base (row ∷ rows) w n h long few =
    All-cons (IsBetween n) (dot rationals (map whole row) (add rationals w (negate rationals (map whole base)))) (times_vector rationals (map (map whole) rows) (add rationals w (negate rationals (map whole base))))
    (product_between box base row w n h long (omega (arith, few))) (products_between box base rows w n h long (omega (arith, few)))

-- ---- a node with a frame

module _ (model : WholeRows) (work : ReducedRows) (frame : Substitution) (path : List Slice) (cut : Option ℤ) (limits : IsWithinLimits model) (reduced : IsReduced model work) (forms : HasForms (length model.box) path) (kept_path : All (λ (slice : Slice). IsKeptForm model.box slice.form) path) (shaped : IsShaped frame) (columns : columns_of frame ≡ length work.rows.box) (is_frame : IsFrame (node_equalities work path) frame) where
  rational : IsRationalFrame (node_equalities work path) frame
  rational = rational_frame (node_equalities work path) frame shaped is_frame

  pub lines-wide : HasWidth (dimension_of frame) (rows_in frame.to_work.lines)
  lines-wide = HasWidth-rows_in frame.to_work.lines shaped.size_lines

  pub lines-many : length frame.to_work.base ≡ length (rows_in frame.to_work.lines)
  lines-many = shaped.base ∙ sym (length-rows_in frame.to_work.lines)

  -- an inequality that x0 + K y meets, y meets in its coordinates, and the other way round
  sides-forth : (y : List ℚ) (value : ℤ) (sides : List NodeSide) → All (MeetsSide work value (rational_point_of frame y)) sides → All (IsMetAt y) (map (λ side. pulled frame.to_work (inequality_of work value side)) sides)
  sides-forth y value [] h = All-nil (IsMetAt y)
  sides-forth y value (s ∷ sides) h =
      All-cons (IsMetAt y) (pulled frame.to_work (inequality_of work value s)) (map (λ side. pulled frame.to_work (inequality_of work value side)) sides)
      ((IsMetAt-pulled (dimension_of frame) frame.to_work.base (rows_in frame.to_work.lines) (inequality_of work value s) y lines-wide lines-many).0 (All-head (MeetsSide work value (rational_point_of frame y)) s sides h))
      (sides-forth y value sides (All-tail (MeetsSide work value (rational_point_of frame y)) s sides h))

  sides-back : (y : List ℚ) (value : ℤ) (sides : List NodeSide) → All (IsMetAt y) (map (λ side. pulled frame.to_work (inequality_of work value side)) sides) → All (MeetsSide work value (rational_point_of frame y)) sides
  sides-back y value [] h = All-nil (MeetsSide work value (rational_point_of frame y))
  sides-back y value (s ∷ sides) h =
      All-cons (MeetsSide work value (rational_point_of frame y)) s sides
      ((IsMetAt-pulled (dimension_of frame) frame.to_work.base (rows_in frame.to_work.lines) (inequality_of work value s) y lines-wide lines-many).1 (All-head (IsMetAt y) (pulled frame.to_work (inequality_of work value s)) (map (λ side. pulled frame.to_work (inequality_of work value side)) sides) h))
      (sides-back y value sides (All-tail (IsMetAt y) (pulled frame.to_work (inequality_of work value s)) (map (λ side. pulled frame.to_work (inequality_of work value side)) sides) h))

  -- the point of coordinates in the region meets the node
  region-meets : (y : List ℚ) → IsInNode frame work cut y → MeetsNode work path cut (rational_point_of frame y)
  region-meets y there = record {
    solves = subst (λ (n : ℕ). SolvesOver n (node_equalities work path) (rational_point_of frame y)) columns (rational.into y there.coordinates);
    sides = sides-back y (cut_of cut) (node_sides work (is_some cut)) (met_by_rows y (node_system frame work cut) there.met);
  }

  meets-region : (y : List ℚ) → length y ≡ dimension_of frame → MeetsNode work path cut (rational_point_of frame y) → IsInNode frame work cut y
  meets-region y size met = record {
    coordinates = size;
    met = rows_met y (node_system frame work cut) (sides-forth y (cut_of cut) (node_sides work (is_some cut)) met.sides);
  }

  -- it is a point of the reduced rows
  pub region-reduced : (y : List ℚ) → IsInNode frame work cut y → IsReducedPoint model.box work path cut (rational_point_of frame y)
  region-reduced y there = met_is_reduced model work path cut (rational_point_of frame y) reduced forms (region-meets y there)

  -- Coordinates in the region give a point of the node.
  pub point_of_coordinates : (y : List ℚ) → IsInNode frame work cut y → IsRationalPoint model path cut (placed_point model.box (rational_point_of frame y))
  point_of_coordinates y there = reduced_point_is_placed model work path cut (rational_point_of frame y) limits reduced forms kept_path (region-reduced y there)

  -- The coordinates of values that meet the node.
  back-point : (w : List ℚ) → MeetsNode work path cut w → rational_point_of frame (rational_coordinates_of frame w) ≡ w
  back-point w met = rational.onto w (subst (λ (n : ℕ). SolvesOver n (node_equalities work path) w) (sym columns) met.solves)

  -- A point of the node has coordinates in the region.
  pub coordinates_of_point : (x : List ℚ) → IsRationalPoint model path cut x → IsInNode frame work cut (rational_coordinates_of frame (kept model.box x))
  coordinates_of_point x point =
      let w = kept model.box x in
      let met = reduced_is_met model work path cut (kept model.box x) reduced forms (point_is_kept model work path cut x limits reduced forms kept_path point) in
      meets-region (rational_coordinates_of frame (kept model.box x)) (rational.size (kept model.box x)) (subst (MeetsNode work path cut) (sym (back-point (kept model.box x) met)) met)

  -- They are those of that point.
  pub point-again : (x : List ℚ) → IsRationalPoint model path cut x → placed_point model.box (rational_point_of frame (rational_coordinates_of frame (kept model.box x))) ≡ x
  point-again x point =
      let met = reduced_is_met model work path cut (kept model.box x) reduced forms (point_is_kept model work path cut x limits reduced forms kept_path point) in
      ap (placed_point model.box) (back-point (kept model.box x) met) ∙ placed-kept model.box x point.in_box

  -- A form over the kept columns at that point is one of the coordinates, and a constant.
  pub value_at_coordinates : (form : List ℤ) (y : List ℚ) → length form ≡ length model.box → IsKeptForm model.box form → IsInNode frame work cut y
      → form_value form (placed_point model.box (rational_point_of frame y)) ≡ form_value (pulled_form frame.to_work (work_form work form)) y +ℚ whole (pulled_constant frame.to_work (work_form work form))
  value_at_coordinates form y long keeps there =
      let w = rational_point_of frame y in
      let f = work_form work form in
      let in_kept : IsInBox (kept model.box model.box) (rational_point_of frame y) = subst (λ (b : List Bounds). IsInBox b (rational_point_of frame y)) reduced.box (region-reduced y there).in_box in
      value-same model work limits reduced path cut forms kept_path (rational_point_of frame y) (placed_point model.box (rational_point_of frame y)) (placed-same model.box (rational_point_of frame y) in_kept) form long keeps
      ∙ ap (λ (g : List ℤ). form_value g (rational_point_of frame y)) (sym (work_form-kept model work form reduced long))
      ∙ form_value-point_over (dimension_of frame) frame.to_work.base (rows_in frame.to_work.lines) (work_form work form) y lines-wide lines-many
      ∙ rationals.add_comm (whole (pulled_constant frame.to_work (work_form work form))) (form_value (pulled_form frame.to_work (work_form work form)) y)

  -- So each has the other's values.
  pub coordinates_match : (form : List ℤ) → length form ≡ length model.box → IsKeptForm model.box form → HasMatches (IsInNode frame work cut) (pulled_form frame.to_work (work_form work form)) (IsRationalPoint model path cut) form (pulled_constant frame.to_work (work_form work form))
  coordinates_match form long keeps y there = (placed_point model.box (rational_point_of frame y), (point_of_coordinates y there, value_at_coordinates form y long keeps there))

  pub points_match : (form : List ℤ) → length form ≡ length model.box → IsKeptForm model.box form → HasMatches (IsRationalPoint model path cut) form (IsInNode frame work cut) (pulled_form frame.to_work (work_form work form)) (neg_ℤ (pulled_constant frame.to_work (work_form work form)))
  points_match form long keeps x point =
      let y = rational_coordinates_of frame (kept model.box x) in
      let there = coordinates_of_point x point in (
        y,
        (
          there,
          turned (form_value form x) (form_value (pulled_form frame.to_work (work_form work form)) y) (pulled_constant frame.to_work (work_form work form))
              (ap (form_value form) (sym (point-again x point)) ∙ value_at_coordinates form y long keeps there),
        ),
      )
    where
      turned : (v u : ℚ) (c : ℤ) → v ≡ u +ℚ whole c → u ≡ v +ℚ whole (neg_ℤ c)
      turned v u c e = less u (whole c) ∙ ap₂ (λ (p q : ℚ). p +ℚ q) (sym e) (sym (whole_neg c))
        where
          less : (u c : ℚ) → u ≡ (u +ℚ c) +ℚ neg_ℚ c
          less u c = ring rationals (u ∷ c ∷ []) (search reads depth 30) (search reads depth 30) refl

  -- The region is bounded.
  pub region_is_bounded : HasBound (node_polytope frame work cut)
  region_is_bounded = record {
    bound = whole (pos (reaches work.rows.box frame.to_work.base (rows_in frame.back)));
    within = λ y there.
        let point = region-reduced y there in
        subst (All (IsBetween (reaches work.rows.box frame.to_work.base (rows_in frame.back)))) (rational.back y there.coordinates)
        (products_between work.rows.box frame.to_work.base (rows_in frame.back) (rational_point_of frame y) (reaches work.rows.box frame.to_work.base (rows_in frame.back)) point.in_box ((region-meets y there).solves.size ∙ sym (shaped.base ∙ columns)) (omega arith));
  }
