-- What the lifted multipliers come to.
use Rattle.std.proofs.Common.{◌≡◌, ℕ, zero, suc, ◌+◌, ◌<◌, ◌≤◌, true, false, ℤ, pos, neg_ℤ, ◌-ℤ◌, List, [], ◌∷◌, ◌++◌, length, get_or, map, take, refl, sym, ap, ap₂, ◌∙◌, arith, All, append_assoc, ⊎_elim}
use Rattle.std.proofs.lemmas.List.{length-map}
use Rattle.std.proofs.lemmas.List.Elements.{All-head, All-tail}
use Rattle.std.specs.Prelude.{Option}
use Rattle.exact_math.specs.Ring.{integers}
use Rattle.exact_math.specs.Rational.{ℚ, whole, neg_ℚ, ◌+ℚ◌, ◌*ℚ◌}
use Rattle.exact_math.specs.RationalRing.{rationals, whole_add}
use Rattle.exact_math.specs.RingLaws as Laws
use Rattle.exact_math.specs.RingSolver.{ring, reads}
use Rattle.exact_vectors.specs.Vectors.{dot}
use Rattle.exact_vectors.specs.Matrices.{HasWidth, column, combination, times_vector}
use Rattle.exact_vectors.specs.DotLaws as Dot
use Rattle.whole_rows.specs.WholeRows.{WholeRows, IsWithinLimits}
use Rattle.spaces.specs.Tables.{rows_in}
use Rattle.lp_dict.specs.Systems.{wholes, whole_rows}
use Rattle.row_lifting.specs.Lifting.{none, SumsTo}
use Rattle.farkas_rows.specs.declared.path.Slice.{Slice}
use Rattle.farkas_rows.specs.Inequalities.{Inequality}
use Rattle.presolve_map.specs.LiftedLines.{total, factor_in, reduced_limit_in, cost_in, IsOverKept}
use Rattle.presolve_map.specs.ReducedRows.{ReducedRows, IsReduced}
use Rattle.reformulate.specs.Frames.{IsFrame}
use Rattle.reformulate.specs.Solutions.{Meets}
use Rattle.reformulate.specs.Substitutions.{Substitution, columns_of, dimension_of, IsShaped}
use Rattle.reformulate.specs.declared.equality.Equality.{Equality}
use Rattle.farkas_lift.specs.NodeEqualities.{node_equalities}
use Rattle.farkas_lift.specs.NodeLifting.{side_forms, weighted_sides, back_form, rest_form, uses_of, node_places, system_form, lifted_limit, ComesTo, HasOneEach}
use Rattle.farkas_lift.specs.NodeSides.{side_form}
use Rattle.farkas_lift.specs.Joined.{joined}
use Rattle.farkas_lift.specs.NodeSides.{row_sides, column_sides, node_sides, inequality_of}
use Rattle.farkas_lift.specs.NodeSystem.{pulled}
use Rattle.farkas_lift.specs.declared.side.NodeSide.{NodeSide}
use Rattle.farkas_lift.specs.declared.side.NodeSide.TheVariants.{Cut}
use Rattle.farkas_lift.proofs.FrameSpace.{forms_of, base_solves, dot-wholes}
use Rattle.farkas_lift.proofs.NodeAgree.{factors-agree, limits-agree}
use Rattle.farkas_lift.proofs.NodeTotals.{node-total}
use Rattle.farkas_lift.proofs.NodeValues as Node
use Rattle.farkas_lift.proofs.RestLaws as Rest
use Rattle.farkas_lift.proofs.SideSteps.{factors_any}

-- the cut comes last
pub sides-cut : (rows : ReducedRows) → node_sides rows true ≡ node_sides rows false ++ Cut ∷ []
sides-cut rows =
    let of_rows : List NodeSide = joined (row_sides rows) (length rows.rows.rows) in
    let of_columns : List NodeSide = joined column_sides (length rows.rows.box) in
    sym (append_assoc of_rows (of_columns ++ []) (Cut ∷ []) ∙ ap (λ (l : List NodeSide). of_rows ++ l) (append_assoc of_columns [] (Cut ∷ [])))

-- a last term, where there is a weight for it
pub with_last : {X : Type 0} (f : X → ℚ) (xs : List X) (y : X) (weights : List ℚ) → length xs ≤ length weights → length weights ≤ length xs + 1
    → dot rationals weights (map f (take (length weights) (xs ++ y ∷ []))) ≡ dot rationals weights (map f xs) +ℚ get_or weights (length xs) none *ℚ f y
with_last f [] y [] h k = sym (Laws.zero_add rationals (none *ℚ f y) ∙ Laws.zero_mul rationals (f y))
with_last f [] y (w ∷ []) h k = rationals.add_zero (w *ℚ f y) ∙ sym (Laws.zero_add rationals (w *ℚ f y))
with_last f [] y (w ∷ v ∷ weights) h k = absurd (omega arith)
with_last f (x ∷ xs) y [] h k = absurd (omega arith)
with_last f (x ∷ xs) y (w ∷ weights) h k =
    ap (λ z. w *ℚ f x +ℚ z) (with_last f xs y weights (omega arith) (omega arith)) ∙ sym (rationals.add_assoc (w *ℚ f x) (dot rationals weights (map f xs)) (get_or weights (length xs) none *ℚ f y))

wholes-at : (form : List ℤ) (k : ℕ) → get_or (wholes form) k none ≡ whole (get_or form k (pos 0))
wholes-at [] k = refl
wholes-at (a ∷ form) zero = refl
wholes-at (a ∷ form) (suc k) = wholes-at form k

-- the entries of forms in one column
pub column_whole : {X : Type 0} (g : X → List ℤ) (xs : List X) (k : ℕ) → column rationals (whole_rows (map g xs)) k ≡ map (λ x. whole (get_or (g x) k (pos 0))) xs
column_whole g [] k = refl
column_whole g (x ∷ xs) k = ap₂ (λ (z : ℚ) (l : List ℚ). z ∷ l) (wholes-at (g x) k) (column_whole g xs k)

-- the sides of equalities that x meets
pub sides_at : (equalities : List Equality) (x : List ℤ) → All (Meets x) equalities → map (λ (e : Equality). whole e.side) equalities ≡ times_vector rationals (whole_rows (forms_of equalities)) (wholes x)
sides_at [] x met = refl
sides_at (e ∷ equalities) x met =
    ap₂ (λ (z : ℚ) (l : List ℚ). z ∷ l) (sym (dot-wholes e.form x ∙ ap whole (All-head (Meets x) e equalities met))) (sides_at equalities x (All-tail (Meets x) e equalities met))

whole_less : (a b : ℤ) → whole (a -ℤ b) ≡ whole a +ℚ neg_ℚ (whole b)
whole_less a b = whole_add a (neg_ℤ b) ∙ ap (λ z. whole a +ℚ z) (Laws.literal_neg rationals b)

one_less : (w a b s t : ℚ) → w *ℚ (a +ℚ neg_ℚ b) +ℚ (s +ℚ neg_ℚ t) ≡ (w *ℚ a +ℚ s) +ℚ neg_ℚ (w *ℚ b +ℚ t)
one_less w a b s t = ring rationals (w ∷ a ∷ b ∷ s ∷ t ∷ []) (search reads depth 40 fits 20000) (search reads depth 40 fits 20000) refl

-- the limits in the coordinates of a frame
limits_less : (rows : ReducedRows) (value : ℤ) (base : List ℤ) (sides : List NodeSide) (weights : List ℚ)
    → dot rationals weights (map (λ side. whole ((inequality_of rows value side).limit -ℤ dot integers (inequality_of rows value side).factors base)) sides)
    ≡ dot rationals weights (map (λ side. whole (inequality_of rows value side).limit) sides) +ℚ neg_ℚ (dot rationals weights (times_vector rationals (whole_rows (side_forms rows sides)) (wholes base)))
limits_less rows value base [] weights = Dot.dot-nil_right rationals weights ∙ sym (ap₂ (λ a b. a +ℚ neg_ℚ b) (Dot.dot-nil_right rationals weights) (Dot.dot-nil_right rationals weights) ∙ rationals.add_neg none)
limits_less rows value base (side ∷ sides) [] = sym (rationals.add_neg none)
limits_less rows value base (side ∷ sides) (w ∷ weights) =
    ap₂ (λ a b. w *ℚ a +ℚ b)
    (whole_less (inequality_of rows value side).limit (dot integers (inequality_of rows value side).factors base) ∙ ap (λ (form : List ℤ). whole (inequality_of rows value side).limit +ℚ neg_ℚ (whole (dot integers form base))) (factors_any rows value side) ∙ ap (λ z. whole (inequality_of rows value side).limit +ℚ neg_ℚ z) (sym (dot-wholes (side_form rows side) base)))
    (limits_less rows value base sides weights)
    ∙ one_less w (whole (inequality_of rows value side).limit) (dot rationals (wholes (side_form rows side)) (wholes base)) _ _

module _ (model : WholeRows) (frame : Substitution) (rows : ReducedRows) (path : List Slice) (weights times : List ℚ) (limits : IsWithinLimits model) (reduced : IsReduced model rows) (shaped : IsShaped frame)
    (columns : columns_of frame ≡ length rows.rows.box) (is_frame : IsFrame (node_equalities rows path) frame) (kept-forms : All (λ (slice : Slice). IsOverKept model slice.form) path) (one_each : HasOneEach rows weights)
    (wide : HasWidth (columns_of frame) (side_forms rows (weighted_sides rows weights))) (dense : HasWidth (columns_of frame) (forms_of (node_equalities rows path)))
    (sums : SumsTo (forms_of (node_equalities rows path)) (rest_form frame (side_forms rows (weighted_sides rows weights)) weights) times) where
  sides : List NodeSide
  sides = weighted_sides rows weights

  forms : List (List ℤ)
  forms = side_forms rows (weighted_sides rows weights)

  enough : length (node_sides rows false) ≤ length weights
  enough = ⊎_elim (λ e. omega arith) (λ e. omega arith) one_each

  at_most_one_more : length weights ≤ length (node_sides rows false) + 1
  at_most_one_more = ⊎_elim (λ e. omega arith) (λ e. omega arith) one_each

  enough_times : length (node_equalities rows path) ≤ length times
  enough_times = omega (arith, sums.as_many, length-map (node_equalities rows path) (λ (e : Equality). e.form))

  with_cut : (f : NodeSide → ℚ) → dot rationals weights (map f (weighted_sides rows weights)) ≡ dot rationals weights (map f (node_sides rows false)) +ℚ get_or weights (length (node_sides rows false)) none *ℚ f Cut
  with_cut f = ap (λ l. dot rationals weights (map f (take (length weights) l))) (sides-cut rows) ∙ with_last f (node_sides rows false) Cut weights enough at_most_one_more

  -- the form that is carried back is that of the system
  pub back-in-system : back_form frame (side_forms rows (weighted_sides rows weights)) weights ≡ system_form frame rows weights
  back-in-system =
      Rest.back_is frame shaped (side_forms rows (weighted_sides rows weights)) wide weights
      ∙ ap (λ l. combination rationals (columns_of frame) l (whole_rows (rows_in frame.back)))
      (Rest.left_in_system frame shaped (side_forms rows (weighted_sides rows weights)) wide weights ∙ ap (combination rationals (dimension_of frame) weights) (twice (weighted_sides rows weights)))
    where
      twice : (sides : List NodeSide) → map (λ form. wholes (combination integers (dimension_of frame) form (rows_in frame.to_work.lines))) (side_forms rows sides) ≡ map (λ side. wholes (pulled frame.to_work (inequality_of rows (pos 0) side)).factors) sides
      twice [] = refl
      twice (side ∷ sides) = ap (λ (l : List (List ℚ)). wholes (combination integers (dimension_of frame) (side_form rows side) (rows_in frame.to_work.lines)) ∷ l) (twice sides)

  module _ (end : Option Inequality) (value : ℤ) where
    moved : (c a b : ℚ) → c +ℚ (a +ℚ b) ≡ (a +ℚ c) +ℚ b
    moved c a b = ring rationals (c ∷ a ∷ b ∷ []) (search reads depth 30) (search reads depth 30) refl

    cost-of_cut : (k : ℕ) → k < length rows.rows.box → cost_in model (get_or rows.column_numbers k 0) ≡ whole (get_or (side_form rows Cut) k (pos 0))
    cost-of_cut k h =
        ap (λ c. whole (get_or model.cost c (pos 0))) (Node.column-number model rows limits reduced k h)
        ∙ ap whole (sym (Node.kept-at model rows limits reduced k h model.cost limits.priced))
        ∙ ap (λ l. whole (get_or l k (pos 0))) (sym reduced.cost)

    in-columns : (k : ℕ) → k < length rows.rows.box
        → get_or weights (length (node_sides rows false)) none *ℚ cost_in model (get_or rows.column_numbers k 0) +ℚ total (factor_in model path end (get_or rows.column_numbers k 0)) (uses_of (node_places model rows (length path)) weights times)
        ≡ get_or (system_form frame rows weights) k none
    in-columns k h =
        let f = λ (side : NodeSide). whole (get_or (side_form rows side) k (pos 0)) in
        let g = λ (e : Equality). whole (get_or e.form k (pos 0)) in
        ap₂ (λ a b. get_or weights (length (node_sides rows false)) none *ℚ a +ℚ b) (cost-of_cut k h)
        (node-total model rows path (factor_in model path end (get_or rows.column_numbers k 0)) f g (factors-agree model rows path end limits reduced k h) weights times enough enough_times)
        ∙ moved (get_or weights (length (node_sides rows false)) none *ℚ f Cut) (dot rationals weights (map f (node_sides rows false))) (dot rationals times (map g (node_equalities rows path)))
        ∙ ap (λ z. z +ℚ dot rationals times (map g (node_equalities rows path))) (sym (with_cut f))
        ∙ ap₂ (λ a b. dot rationals weights a +ℚ dot rationals times b) (sym (column_whole (side_form rows) (weighted_sides rows weights) k)) (sym (column_whole (λ (e : Equality). e.form) (node_equalities rows path) k))
        ∙ Rest.columns_together frame shaped (side_forms rows (weighted_sides rows weights)) wide weights (node_equalities rows path) is_frame dense times sums k
        ∙ ap (λ l. get_or l k none) back-in-system

    last_step : (w b q : ℚ) → w +ℚ b ≡ (w +ℚ neg_ℚ q) +ℚ (q +ℚ b)
    last_step w b q = ring rationals (w ∷ b ∷ q ∷ []) (search reads depth 30) (search reads depth 30) refl

    at-limit : get_or weights (length (node_sides rows false)) none *ℚ whole ((value -ℤ pos 1) -ℤ rows.cost_constant) +ℚ total (reduced_limit_in model path end) (uses_of (node_places model rows (length path)) weights times) ≡ lifted_limit frame rows value weights
    at-limit =
        let f = λ (side : NodeSide). whole (inequality_of rows value side).limit in
        let g = λ (e : Equality). whole e.side in
        let x : List ℚ = wholes frame.to_work.base in
        let q : ℚ = dot rationals weights (times_vector rationals (whole_rows (side_forms rows (weighted_sides rows weights))) (wholes frame.to_work.base)) in
        let b : ℚ = dot rationals times (times_vector rationals (whole_rows (forms_of (node_equalities rows path))) (wholes frame.to_work.base)) in
        let w : ℚ = dot rationals weights (map (λ (side : NodeSide). whole (inequality_of rows value side).limit) (weighted_sides rows weights)) in
        ap (λ z. get_or weights (length (node_sides rows false)) none *ℚ whole ((value -ℤ pos 1) -ℤ rows.cost_constant) +ℚ z)
        (node-total model rows path (reduced_limit_in model path end) f g (limits-agree model rows path end limits reduced value kept-forms) weights times enough enough_times)
        ∙ moved (get_or weights (length (node_sides rows false)) none *ℚ f Cut) (dot rationals weights (map f (node_sides rows false))) (dot rationals times (map g (node_equalities rows path)))
        ∙ ap₂ (λ c d. c +ℚ dot rationals times d) (sym (with_cut f)) (sides_at (node_equalities rows path) frame.to_work.base (base_solves (node_equalities rows path) frame shaped is_frame).meets)
        ∙ last_step w b q
        ∙ ap₂ (λ c d. c +ℚ d) (sym (limits_less rows value frame.to_work.base (weighted_sides rows weights) weights))
        (Rest.values_together frame shaped (side_forms rows (weighted_sides rows weights)) wide weights (node_equalities rows path) is_frame dense times sums ∙ ap (λ l. dot rationals l (wholes frame.to_work.base)) back-in-system)

    pub comes-to : ComesTo model rows path end value (get_or weights (length (node_sides rows false)) none) (uses_of (node_places model rows (length path)) weights times) (system_form frame rows weights) (lifted_limit frame rows value weights)
    comes-to = record { in_columns = in-columns; at_limit = at-limit }
