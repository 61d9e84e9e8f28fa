-- Multipliers of a node's system that show it to be empty, or an end of a form to be past it, refute it as multipliers of the model's inequalities.
use Rattle.std.proofs.Common.{◌≡◌, ℕ, zero, suc, ◌≤◌, inl, inr, true, false, ℤ, pos, List, [], ◌∷◌, ◌++◌, length, get_or, map, take, refl, sym, ap, ap₂, subst, ◌∙◌, arith, All, ⊎_elim}
use Rattle.std.specs.Prelude.{Option, Some, None, is_some, IsSomeAnd}
use Rattle.std.proofs.lemmas.List.{append-nil, length-map, take_all, take_at}
use Rattle.exact_math.specs.Ring.{Ring, integers}
use Rattle.exact_math.specs.Rational.{ℚ, whole, neg_ℚ, ◌+ℚ◌, ◌≤ℚ◌, ◌<ℚ◌}
use Rattle.exact_math.specs.RationalOrder.{add_le_right, le_or_lt, le_refl, not_le_of_lt}
use Rattle.exact_math.specs.RationalRing.{rationals}
use Rattle.exact_math.specs.RingLaws as Laws
use Rattle.exact_math.specs.RingSolver.{ring, reads}
use Rattle.exact_vectors.specs.Vectors.{dot, add, scale, negate, zeros}
use Rattle.exact_vectors.specs.Matrices.{HasWidth, combination}
use Rattle.exact_vectors.specs.DotLaws as Dot
use Rattle.exact_vectors.specs.MatrixLaws as Matrices
use Rattle.spaces.specs.Tables.{rows_in}
use Rattle.lp_dict.specs.Systems.{wholes, whole_rows}
use Rattle.lp_solve.specs.Certificates.{ShowsEmpty}
use Rattle.whole_rows.specs.WholeRows.{WholeRows, IsWithinLimits}
use Rattle.row_lifting.specs.Lifting.{none}
use Rattle.farkas_rows.specs.declared.fracs.FracUse.{FracUse}
use Rattle.farkas_rows.specs.declared.path.Slice.{Slice}
use Rattle.farkas_rows.specs.Inequalities.{Inequality}
use Rattle.reformulate.specs.Substitutions.{Substitution, columns_of, dimension_of, IsShaped}
use Rattle.presolve_map.specs.LiftedLines.{total, limit_in, IsNodeOverKept}
use Rattle.presolve_map.specs.ReducedRows.{ReducedRows}
use Rattle.farkas_lift.specs.NodeEqualities.{work_form}
use Rattle.farkas_lift.specs.NodeLifting.{lifted_limit, system_form, system_left, system_limit, weighted_sides, HasOneEach}
use Rattle.farkas_lift.specs.NodeSides.{inequality_of, node_sides}
use Rattle.farkas_lift.specs.NodeSystem.{cut_of, node_system, pulled}
use Rattle.farkas_lift.specs.declared.side.NodeSide.{NodeSide}
use Rattle.farkas_lift.specs.declared.side.NodeSide.TheVariants.{Cut}
use Rattle.farkas_lift.proofs.FrameSpace.{dot-wholes, HasWidth-wholes}
use Rattle.farkas_lift.proofs.JoinedLaws.{joined-at}
use Rattle.farkas_lift.proofs.LiftSteps.{sides_many}
use Rattle.farkas_lift.proofs.Lists as Lists
use Rattle.farkas_lift.proofs.NodeComes.{sides-cut}
use Rattle.farkas_lift.proofs.RestLaws.{combination-wholes, wide_back}
use Rattle.farkas_lift.proofs.SideSteps.{factors_any}
use Rattle.node_lines.specs.Combinations.{AreOfNode, ComesOver, IsRefutation}
use Rattle.node_lines.specs.NodeLines.{cut_multiplier, cut_part, end_use, end_uses}
use Rattle.node_lines.specs.NodeSystems.{system_limits, system_rows, IsFramedNode, IsPastEnd}
use Rattle.node_lines.proofs.NodeSums.{end-factor, end-limit, refuted-with}

-- ---- combinations with zeros, and with the other sign

module _ {A : Type 0} (r : Ring A) where
  combination-zeros : (n m : ℕ) (rows : List (List A)) → HasWidth n rows → combination r n (zeros r m) rows ≡ zeros r n
  combination-zeros n zero rows h = refl
  combination-zeros n (suc m) [] h = refl
  combination-zeros n (suc m) (row ∷ rows) h = ap (add r (scale r (r.literal (pos 0)) row)) (combination-zeros n m rows h.1) ∙ Lists.add-none_left r n row (zeros r n) h.0 (Matrices.length-zeros r n)

  negate-zeros : (n : ℕ) → zeros r n ≡ negate r (zeros r n)
  negate-zeros zero = refl
  negate-zeros (suc n) = ap₂ (λ (z : A) (l : List A). z ∷ l) (sym (Laws.neg_zero r)) (negate-zeros n)

  negate-add : (v w : List A) → add r (negate r v) (negate r w) ≡ negate r (add r v w)
  negate-add [] w = refl
  negate-add (a ∷ v) [] = refl
  negate-add (a ∷ v) (b ∷ w) = ap₂ (λ (z : A) (l : List A). z ∷ l) (turned a b) (negate-add v w)
    where
      turned : (a b : A) → r.add (r.neg a) (r.neg b) ≡ r.neg (r.add a b)
      turned a b = ring r (a ∷ b ∷ []) (search reads depth 30) (search reads depth 30) refl

  scale-negate : (k : A) (v : List A) → scale r (r.neg k) v ≡ negate r (scale r k v)
  scale-negate k [] = refl
  scale-negate k (a ∷ v) = ap₂ (λ (z : A) (l : List A). z ∷ l) (turned k a) (scale-negate k v)
    where
      turned : (k a : A) → r.mul (r.neg k) a ≡ r.neg (r.mul k a)
      turned k a = ring r (k ∷ a ∷ []) (search reads depth 30) (search reads depth 30) refl

  pub combination-negate : (n : ℕ) (y : List A) (rows : List (List A)) → combination r n (negate r y) rows ≡ negate r (combination r n y rows)
  combination-negate n [] rows = negate-zeros n
  combination-negate n (k ∷ y) [] = negate-zeros n
  combination-negate n (k ∷ y) (row ∷ rows) = ap₂ (add r) (scale-negate k row) (combination-negate n y rows) ∙ negate-add (scale r k row) (combination r n y rows)

-- ---- the system of a node

-- there is one multiplier for each inequality
abbrev IsOneEach : Substitution → ReducedRows → Option ℤ → List ℚ → Type 0
IsOneEach frame work cut weights = length weights ≡ length (system_rows frame work cut)

many : (frame : Substitution) (work : ReducedRows) (cut : Option ℤ) (weights : List ℚ) → IsOneEach frame work cut weights → length weights ≡ length (node_sides work (is_some cut))
many frame work cut weights e = e ∙ length-map (node_system frame work cut) (λ (inequality : Inequality). wholes inequality.factors) ∙ length-map (node_sides work (is_some cut)) (λ side. pulled frame.to_work (inequality_of work (cut_of cut) side))

pub one_each : (frame : Substitution) (work : ReducedRows) (cut : Option ℤ) (weights : List ℚ) → IsOneEach frame work cut weights → HasOneEach work weights
one_each frame work None weights e = inl (many frame work None weights e)
one_each frame work (Some value) weights e = inr (many frame work (Some value) weights e ∙ sides_many work)

-- with no cut there is no multiplier for it
beyond : (weights : List ℚ) (k : ℕ) → length weights ≤ k → get_or weights k none ≡ none
beyond [] k h = refl
beyond (w ∷ weights) zero h = absurd (omega arith)
beyond (w ∷ weights) (suc k) h = beyond weights k (omega arith)

no_cut : (frame : Substitution) (work : ReducedRows) (cut : Option ℤ) (weights : List ℚ) → IsOneEach frame work cut weights → cut ≡ None → cut_multiplier work weights ≡ none
no_cut frame work None weights e h = beyond weights (length (node_sides work false)) (omega (arith, many frame work None weights e))
no_cut frame work (Some value) weights e h = absurd (cc)

-- no multiplier of the cut is negative
cut_nonneg : (weights : List ℚ) (k : ℕ) → All (λ w. whole (pos 0) ≤ℚ w) weights → whole (pos 0) ≤ℚ get_or weights k none
cut_nonneg [] k h = le_refl none
cut_nonneg (w ∷ weights) zero h = h 0 none (omega arith)
cut_nonneg (w ∷ weights) (suc k) h = cut_nonneg weights k (λ i d lt. h (suc i) d (omega arith))

sides-is : (work : ReducedRows) (cut : Option ℤ) (weights : List ℚ) → length weights ≡ length (node_sides work (is_some cut)) → weighted_sides work weights ≡ node_sides work (is_some cut)
sides-is work None weights e = ap (take (length weights)) (sides-cut work) ∙ take_at (node_sides work false) (Cut ∷ []) (length weights) (sym e)
sides-is work (Some value) weights e = take_all (length weights) (node_sides work true) (omega (arith, e))

module _ (frame : Substitution) (work : ReducedRows) (cut : Option ℤ) (weights : List ℚ) (each : IsOneEach frame work cut weights) where
  rows-same : (sides : List NodeSide) → map (λ side. wholes (pulled frame.to_work (inequality_of work (pos 0) side)).factors) sides ≡ map (λ (inequality : Inequality). wholes inequality.factors) (map (λ side. pulled frame.to_work (inequality_of work (cut_of cut) side)) sides)
  rows-same [] = refl
  rows-same (side ∷ sides) =
      ap₂ (λ (z : List ℚ) (l : List (List ℚ)). z ∷ l) (ap (λ (form : List ℤ). wholes (combination integers (dimension_of frame) form (rows_in frame.to_work.lines))) (sym (factors_any work (cut_of cut) side))) (rows-same sides)

  limits-same : (sides : List NodeSide) → map (λ side. whole (pulled frame.to_work (inequality_of work (cut_of cut) side)).limit) sides ≡ map (λ (inequality : Inequality). whole inequality.limit) (map (λ side. pulled frame.to_work (inequality_of work (cut_of cut) side)) sides)
  limits-same [] = refl
  limits-same (side ∷ sides) = ap (λ (l : List ℚ). whole (pulled frame.to_work (inequality_of work (cut_of cut) side)).limit ∷ l) (limits-same sides)

  left-is : system_left frame work weights ≡ combination rationals (dimension_of frame) weights (system_rows frame work cut)
  left-is =
      ap (λ (sides : List NodeSide). combination rationals (dimension_of frame) weights (map (λ side. wholes (pulled frame.to_work (inequality_of work (pos 0) side)).factors) sides)) (sides-is work cut weights (many frame work cut weights each))
      ∙ ap (combination rationals (dimension_of frame) weights) (rows-same (node_sides work (is_some cut)))

  limit-is : system_limit frame work (cut_of cut) weights ≡ dot rationals weights (system_limits frame work cut)
  limit-is =
      ap (λ (sides : List NodeSide). dot rationals weights (map (λ side. whole (pulled frame.to_work (inequality_of work (cut_of cut) side)).limit) sides)) (sides-is work cut weights (many frame work cut weights each))
      ∙ ap (dot rationals weights) (limits-same (node_sides work (is_some cut)))

  -- the form that is carried back
  form-is : (left : List ℚ) → combination rationals (dimension_of frame) weights (system_rows frame work cut) ≡ left → system_form frame work weights ≡ combination rationals (columns_of frame) left (whole_rows (rows_in frame.back))
  form-is left e = ap (λ (l : List ℚ). combination rationals (columns_of frame) l (whole_rows (rows_in frame.back))) (left-is ∙ e)

-- ---- an empty system

empty-refuted_at : (model : WholeRows) (work : ReducedRows) (frame : Substitution) (path : List Slice) (cut : Option ℤ) (weights : List ℚ) (items : List FracUse) → IsWithinLimits model → IsShaped frame → IsFramedNode model work frame path
    → ShowsEmpty (dimension_of frame) (system_rows frame work cut) (system_limits frame work cut) weights → AreOfNode model path items
    → ((end : Option Inequality) (value : ℤ) → IsNodeOverKept model path end → ComesOver model work path end value (cut_multiplier work weights) items (system_form frame work weights) (lifted_limit frame work value weights))
    → IsRefutation model path None (cut_part cut (cut_multiplier work weights)) items
empty-refuted_at model work frame path cut weights items limits shaped node empty of_node comes =
    let form : system_form frame work weights ≡ zeros rationals (columns_of frame) =
    form-is frame work cut weights empty.as_many (zeros rationals (dimension_of frame)) empty.factors ∙ combination-zeros rationals (columns_of frame) (dimension_of frame) (whole_rows (rows_in frame.back)) (HasWidth-wholes (columns_of frame) (rows_in frame.back) (wide_back frame shaped [] tt [])) in
    let limit : lifted_limit frame work (cut_of cut) weights +ℚ none ≡ dot rationals weights (system_limits frame work cut) =
    rationals.add_zero _
    ∙ ap₂ (λ a b. a +ℚ b) (limit-is frame work cut weights empty.as_many) (ap (λ l. dot rationals l (wholes frame.to_work.base)) form ∙ Dot.dot-zeros_left rationals (columns_of frame) (wholes frame.to_work.base))
    ∙ rationals.add_zero _ in
    subst (IsRefutation model path None (cut_part cut (cut_multiplier work weights))) (append-nil items)
    (refuted-with model work path None cut (cut_multiplier work weights) items (system_form frame work weights) (lifted_limit frame work (cut_of cut) weights) limits node.reduced (no_cut frame work cut weights empty.as_many) (cut_nonneg weights (length (node_sides work false)) empty.not_negative) of_node
    (comes None (cut_of cut) (record { slices = node.kept; last = tt }))
    (λ column h removed. refl)
    (λ k h. rationals.add_zero _ ∙ ap (λ l. get_or l k none) form ∙ Matrices.zeros-at rationals (columns_of frame) k)
    (subst (λ q. q <ℚ none) (sym limit) empty.limit))

pub empty-refuted : (model : WholeRows) (work : ReducedRows) (frame : Substitution) (path : List Slice) (cut : Option ℤ) (weights : List ℚ) (times : ℚ) (items : List FracUse) → IsWithinLimits model → IsShaped frame → IsFramedNode model work frame path
    → ShowsEmpty (dimension_of frame) (system_rows frame work cut) (system_limits frame work cut) weights → times ≡ cut_multiplier work weights → AreOfNode model path items
    → ((end : Option Inequality) (value : ℤ) → IsNodeOverKept model path end → ComesOver model work path end value times items (system_form frame work weights) (lifted_limit frame work value weights))
    → IsRefutation model path None (cut_part cut times) items
empty-refuted model work frame path cut weights times items limits shaped node empty is of_node comes =
    subst (λ (t : ℚ). IsRefutation model path None (cut_part cut t) items) (sym is)
    (empty-refuted_at model work frame path cut weights items limits shaped node empty of_node (λ end value over. subst (λ (t : ℚ). ComesOver model work path end value t items (system_form frame work weights) (lifted_limit frame work value weights)) is (comes end value over)))

-- ---- an end of a form

negate-at : (v : List ℚ) (k : ℕ) → get_or (negate rationals v) k none ≡ neg_ℚ (get_or v k none)
negate-at [] k = sym (Laws.neg_zero rationals)
negate-at (a ∷ v) zero = refl
negate-at (a ∷ v) (suc k) = negate-at v k

wholes-at : (form : List ℤ) (k : ℕ) → get_or (wholes form) k none ≡ whole (get_or form k (pos 0))
wholes-at [] k = refl
wholes-at (a ∷ form) zero = refl
wholes-at (a ∷ form) (suc k) = wholes-at form k

-- a number less a greater one is below 0
below-none : (a b : ℚ) → a <ℚ b → (neg_ℚ b +ℚ a) <ℚ none
below-none a b h =
    ⊎_elim
    (λ (above : none ≤ℚ (neg_ℚ b +ℚ a)). absurd (not_le_of_lt a b h (subst (λ q. q ≤ℚ a) (Laws.zero_add rationals b) (subst (λ q. (none +ℚ b) ≤ℚ q) (back a b) (add_le_right none (neg_ℚ b +ℚ a) b above)))))
    (λ below. below)
    (le_or_lt none (neg_ℚ b +ℚ a))
  where
    back : (a b : ℚ) → (neg_ℚ b +ℚ a) +ℚ b ≡ a
    back a b = ring rationals (a ∷ b ∷ []) (search reads depth 30) (search reads depth 30) refl

both_turned : (v w : ℚ) → neg_ℚ v +ℚ neg_ℚ w ≡ neg_ℚ (v +ℚ w)
both_turned v w = ring rationals (v ∷ w ∷ []) (search reads depth 30) (search reads depth 30) refl

end-refuted : (model : WholeRows) (work : ReducedRows) (frame : Substitution) (path : List Slice) (cut : Option ℤ) (end : Inequality) (weights : List ℚ) (items : List FracUse) → IsWithinLimits model → IsFramedNode model work frame path
    → IsPastEnd model work frame cut weights end → AreOfNode model path items
    → ((end : Option Inequality) (value : ℤ) → IsNodeOverKept model path end → ComesOver model work path end value (cut_multiplier work weights) items (system_form frame work weights) (lifted_limit frame work value weights))
    → IsRefutation model path (Some end) (cut_part cut (cut_multiplier work weights)) (items ++ end_uses model path (Some end))
end-refuted model work frame path cut end weights items limits node past of_node comes =
    let least = past.least in
    let over_work : List ℤ = work_form work end.factors in
    let form : system_form frame work weights ≡ negate rationals (wholes (work_form work end.factors)) =
    form-is frame work cut weights past.least.as_many (negate rationals (wholes past.form)) past.least.factors
    ∙ combination-negate rationals (columns_of frame) (wholes past.form) (whole_rows (rows_in frame.back))
    ∙ ap (negate rationals) (sym (combination-wholes (columns_of frame) past.form (rows_in frame.back)) ∙ ap wholes (sym past.is_form)) in
    let limit : lifted_limit frame work (cut_of cut) weights +ℚ total (limit_in model path (Some end)) (end_uses model path (Some end)) ≡ neg_ℚ (past.value +ℚ whole (dot integers (work_form work end.factors) frame.to_work.base)) +ℚ whole end.limit =
    ap₂ (λ a b. a +ℚ b)
    (ap₂ (λ a b. a +ℚ b) (limit-is frame work cut weights past.least.as_many ∙ past.least.limit)
    (ap (λ l. dot rationals l (wholes frame.to_work.base)) form ∙ Dot.dot-negate_left rationals (wholes (work_form work end.factors)) (wholes frame.to_work.base) ∙ ap neg_ℚ (dot-wholes (work_form work end.factors) frame.to_work.base))
    ∙ both_turned past.value (whole (dot integers (work_form work end.factors) frame.to_work.base)))
    (end-limit model path end) in
    refuted-with model work path (Some end) cut (cut_multiplier work weights) items (system_form frame work weights) (lifted_limit frame work (cut_of cut) weights) limits node.reduced (no_cut frame work cut weights past.least.as_many) (cut_nonneg weights (length (node_sides work false)) past.least.not_negative) of_node
    (comes (Some end) (cut_of cut) (record { slices = node.kept; last = past.kept }))
    (λ column h removed. end-factor model path end column ∙ ap whole (past.kept column h removed))
    (λ k h.
    ap₂ (λ a b. a +ℚ b)
    (ap (λ l. get_or l k none) form ∙ negate-at (wholes (work_form work end.factors)) k ∙ ap neg_ℚ (wholes-at (work_form work end.factors) k ∙ ap whole (joined-at (λ j. get_or end.factors (get_or work.column_numbers j 0) (pos 0)) (length work.rows.box) k (pos 0) h)))
    (end-factor model path end (get_or work.column_numbers k 0))
    ∙ rationals.add_comm _ _ ∙ rationals.add_neg _)
    (subst (λ q. q <ℚ none) (sym limit) (below-none (whole end.limit) (past.value +ℚ whole (dot integers (work_form work end.factors) frame.to_work.base)) past.past))

-- with the items as the code has them
pub past-refuted : (model : WholeRows) (work : ReducedRows) (frame : Substitution) (path : List Slice) (cut : Option ℤ) (end : Option Inequality) (weights : List ℚ) (times : ℚ) (items all : List FracUse) (last : FracUse) → IsWithinLimits model → IsFramedNode model work frame path
    → IsSomeAnd end (IsPastEnd model work frame cut weights) → times ≡ cut_multiplier work weights → AreOfNode model path items
    → ((end : Option Inequality) (value : ℤ) → IsNodeOverKept model path end → ComesOver model work path end value times items (system_form frame work weights) (lifted_limit frame work value weights))
    → all ≡ items ++ last ∷ [] → last ≡ end_use model path → IsRefutation model path end (cut_part cut times) all
past-refuted model work frame path cut None weights times items all last limits node past is of_node comes is_all is_last = absurd past
past-refuted model work frame path cut (Some end) weights times items all last limits node past is of_node comes is_all is_last =
    subst (IsRefutation model path (Some end) (cut_part cut times)) (sym (is_all ∙ ap (λ (item : FracUse). items ++ item ∷ []) is_last))
    (subst (λ (t : ℚ). IsRefutation model path (Some end) (cut_part cut t) (items ++ end_use model path ∷ [])) (sym is)
    (end-refuted model work frame path cut end weights items limits node past of_node (λ end value over. subst (λ (t : ℚ). ComesOver model work path end value t items (system_form frame work weights) (lifted_limit frame work value weights)) is (comes end value over))))
