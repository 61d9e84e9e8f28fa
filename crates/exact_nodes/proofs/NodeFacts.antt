-- What is known of a node with a frame, and of its system.
use Rattle.std.proofs.Common.{◌≡◌, ℕ, zero, suc, ◌+◌, ◌<◌, Bool, true, false, not, List, [], ◌∷◌, length, get_or, ℤ, pos, refl, sym, ap, subst, ◌∙◌, arith, All}
use Rattle.std.specs.Prelude.{Option, is_some}
use Rattle.std.specs.List.{AllZip}
use Rattle.std.specs.Ordering.{int_eq}
use Rattle.std.proofs.lemmas.Bool.Decides.{Decides-int_eq}
use Rattle.std.proofs.lemmas.List.{length-map}
use Rattle.std.proofs.lemmas.List.Elements.{All-cons, All-nil, All-weaker}
use Rattle.std.proofs.lemmas.Nat.{mul-le}
use Rattle.exact_math.specs.Rational.{whole}
use Rattle.exact_math.specs.Ring.{integers}
use Rattle.exact_vectors.specs.Vectors.{zeros}
use Rattle.frac128.specs.Range.{IsNarrow}
use Rattle.whole_rows.specs.declared.bounds.Bounds.{Bounds}
use Rattle.whole_rows.specs.WholeRows.{WholeRows, IsWithinLimits}
use Rattle.farkas_rows.specs.declared.path.Slice.{Slice}
use Rattle.farkas_rows.specs.Inequalities.{Inequality}
use Rattle.form_widths.specs.Directions.{IsDirection}
use Rattle.lp_dict.specs.Sizes.{MeetsCondition}
use Rattle.lp_dict.specs.Systems.{left_sides, wholes}
use Rattle.lp_dict.specs.declared.system.System.{System}
use Rattle.lp_solve.specs.Certificates.{IsBounded}
use Rattle.lp_solve.specs.Outcomes.{SolvedIs}
use Rattle.lp_solve.specs.declared.answer.Solved.{Solved}
use Rattle.lp_solve.specs.declared.answer.Solved.TheVariants.{Least, Empty}
use Rattle.norm_gauge.specs.Widths.{HasBound, Has, IsInhabited, Polytope, polytope_of}
use Rattle.generalised_reduce.specs.Ready.{IsReady}
use Rattle.reformulate.specs.Frames.{IsReachedFrame}
use Rattle.reformulate.specs.Substitutions.{IsShaped, Substitution, dimension_of}
use Rattle.presolve_map.specs.Columns.{is_open}
use Rattle.presolve_map.specs.LiftedLines.{IsOverKept}
use Rattle.presolve_map.specs.ReducedRows.{ReducedRows, IsReduced}
use Rattle.farkas_lift.specs.NodeEqualities.{node_equalities}
use Rattle.farkas_lift.specs.NodeSides.{inequality_of, node_sides}
use Rattle.farkas_lift.specs.NodeSystem.{IsSystemOf, SystemStays, cut_of, node_system, pulled}
use Rattle.farkas_lift.specs.declared.side.NodeSide.{NodeSide}
use Rattle.node_lines.specs.NodeSystems.{IsFramedNode}
use Rattle.node_regions.specs.CoordinateLaws.{region_is_bounded}
use Rattle.node_regions.specs.NodeFrames.{IsKeptFactor, IsKeptForm}
use Rattle.node_regions.specs.NodeRegions.{node_polytope}
use Rattle.node_regions.specs.SystemLaws.{lines-narrow, polytope-system, sides-count}
use Rattle.exact_nodes.specs.ExactMoves.{IsNodeOf}
use Rattle.exact_nodes.specs.Regions.{AnswerIs, IsRegion}

-- ---- forms that are 0 in the columns of one value

closed : (b : Bounds) → is_open b ≡ false → b.low ≡ b.high
closed b e = by_test (int_eq b.low b.high) refl e
  where
    by_test : (t : Bool) → int_eq b.low b.high ≡ t → not t ≡ false → b.low ≡ b.high
    by_test true is e = (Decides-int_eq b.low b.high).0 is
    by_test false is e = cc

no_bounds : Bounds
no_bounds = record { low = pos 0; high = pos 0 }

zero_at : (box : List Bounds) (form : List ℤ) (j : ℕ) → j < length box → AllZip IsKeptFactor box form → is_open (get_or box j (record { low = pos 0; high = pos 0 })) ≡ false → get_or form j (pos 0) ≡ pos 0
zero_at [] form j lt h e = absurd (omega arith)
zero_at (b ∷ box) [] j lt h e = absurd h
zero_at (b ∷ box) (a ∷ form) zero lt h e = h.0 (closed b e)
zero_at (b ∷ box) (a ∷ form) (suc j) lt h e = zero_at box form j (omega arith) h.1 e

pub over_kept : (rows : WholeRows) (form : List ℤ) → IsKeptForm rows.box form → IsOverKept rows form
over_kept rows form h = λ column lt removed. zero_at rows.box form column lt h removed

-- zeros are narrow
pub zeros_narrow : (n : ℕ) → All IsNarrow (zeros integers n)
zeros_narrow zero = All-nil IsNarrow
zeros_narrow (suc n) = All-cons IsNarrow (pos 0) (zeros integers n) (omega arith) (zeros_narrow n)

-- ---- the node

module _ (rows : WholeRows) (work : ReducedRows) (frame : Substitution) (path : List Slice) (node : IsNodeOf rows work frame path) where
  pub node_reduced : IsReduced rows work
  node_reduced = subst (IsReduced rows) node.same_work node.of_node.presolved

  pub node_reached : IsReachedFrame (length work.rows.box) (node_equalities work path) frame
  node_reached = subst (λ (w : ReducedRows). IsReachedFrame (length w.rows.box) (node_equalities w path) frame) node.same_work node.of_node.reached

  -- what the lines of a node ask for
  pub node_framed : IsFramedNode rows work frame path
  node_framed = record {
    reduced = node_reduced;
    columns = node_reached.columns;
    is_frame = node_reached.frame;
    forms = node.forms;
    kept = All-weaker (λ (slice : Slice). IsKeptForm rows.box slice.form) (λ (slice : Slice). IsOverKept rows slice.form) (λ slice h. over_kept rows slice.form h) path node.of_node.kept;
  }

  -- its system at hand
  pub system_is_region : (cut : Option ℤ) (system : System) → IsWithinLimits rows → IsShaped frame → IsSystemOf (dimension_of frame) (node_system frame work cut) system → All IsNarrow system.rows.items → All IsNarrow system.limits → SystemStays frame work cut → IsRegion frame work cut system
  system_is_region cut system limits shaped is narrow_rows narrow_limits stays = record {
    width = is.width;
    polytope = polytope-system (node_system frame work cut) frame system is;
    as_many_limits = ap (λ (l : List ℤ). length l) is.limits ∙ length-map (node_system frame work cut) (λ (inequality : Inequality). inequality.limit) ∙ sym is.height;
    few = omega (arith, is.height, length-map (node_sides work (is_some cut)) (λ (side : NodeSide). pulled frame.to_work (inequality_of work (cut_of cut) side)), sides-count rows work (is_some cut) limits node_reduced);
    small = omega (arith, is.width, shaped.few);
    narrow_rows = narrow_rows;
    narrow_limits = narrow_limits;
    narrow_lines = lines-narrow work frame cut shaped node_reached.columns stays;
    bounded = region_is_bounded rows work frame path cut limits node_reduced node.forms node.of_node.kept shaped node_reached.columns node_reached.frame;
  }

-- ---- the programs of a region

module _ (frame : Substitution) (work : ReducedRows) (cut : Option ℤ) (system : System) (region : IsRegion frame work cut system) where
  pub region_condition : (form : List ℤ) → length form ≡ dimension_of frame → All IsNarrow form → MeetsCondition system.rows system.limits form
  region_condition form long narrow = record {
    as_many_limits = region.as_many_limits;
    as_many_factors = long ∙ sym region.width;
    size = omega (arith, mul-le (system.rows.rows + 1) (system.rows.width + 1) 1026 257 (omega (arith, region.few)) (omega (arith, region.small)));
    narrow_rows = region.narrow_rows;
    narrow_limits = region.narrow_limits;
    narrow_form = narrow;
  }

  pub region_bounded : (form : List ℤ) → length form ≡ dimension_of frame → IsBounded (length form) (left_sides system.rows) (wholes system.limits)
  region_bounded form long =
      subst (λ (n : ℕ). IsBounded n (left_sides system.rows) (wholes system.limits)) (sym (long ∙ sym region.width)) (subst HasBound (sym region.polytope) region.bounded)

  pub region_ready : IsInhabited (node_polytope frame work cut) → 0 < dimension_of frame → IsReady system.rows system.limits
  region_ready inhabited some = record {
    some = omega (arith, some, region.width);
    few = region.small;
    as_many_limits = region.as_many_limits;
    size = λ i lt. omega (arith, mul-le ((system.rows.rows + system.rows.rows) + (i + i) + 1) (system.rows.width + system.rows.width + 1) 2561 513 (omega (arith, lt, region.few, region.small)) (omega (arith, region.small)));
    narrow_rows = region.narrow_rows;
    narrow_limits = region.narrow_limits;
    bounded = subst HasBound (sym region.polytope) region.bounded;
    inhabited = subst IsInhabited (sym region.polytope) inhabited;
  }

  -- the answer of a program
  pub region_answer : (form : List ℤ) (solved : Solved) → length form ≡ dimension_of frame → SolvedIs (left_sides system.rows) (wholes system.limits) (wholes form) solved → AnswerIs (node_polytope frame work cut) form solved
  region_answer form (Least point value multipliers) long h =
      subst (λ (p : Polytope). AnswerIs p form (Least point value multipliers)) region.polytope
      (subst (λ (n : ℕ). AnswerIs (record { coordinates = n; rows = left_sides system.rows; limits = wholes system.limits }) form (Least point value multipliers)) (length-map form whole ∙ long ∙ sym region.width) h)
  region_answer form (Empty multipliers) long h =
      subst (λ (p : Polytope). AnswerIs p form (Empty multipliers)) region.polytope
      (subst (λ (n : ℕ). AnswerIs (record { coordinates = n; rows = left_sides system.rows; limits = wholes system.limits }) form (Empty multipliers)) (length-map form whole ∙ long ∙ sym region.width) h)

  -- a direction of the system is one of the region
  pub region_direction : (lines : List (List ℤ)) (form : List ℤ) → IsDirection (Has (polytope_of system.rows system.limits)) system.rows.width lines form → IsDirection (Has (node_polytope frame work cut)) (dimension_of frame) lines form
  region_direction lines form h = subst (λ (p : Polytope). IsDirection (Has p) p.coordinates lines form) region.polytope h
