-- What the steps of slicing a frame say of the slice of its node.
use Rattle.std.proofs.Common.{◌≡◌, ◌⊎◌, inl, inr, ℤ, ◌-ℤ◌, List, [], ◌∷◌, ◌++◌, length, map, get_or, refl, sym, ap, subst, ◌∙◌, append_assoc}
use Rattle.std.proofs.lemmas.List.{map-append}
use Rattle.whole_rows.specs.WholeRows.{WholeRows, row_at}
use Rattle.farkas_rows.specs.declared.path.Slice.{Slice}
use Rattle.farkas_lift.specs.Joined.{joined}
use Rattle.farkas_lift.specs.NodeEqualities.{node_equalities, row_equality, work_form, work_slice}
use Rattle.proof_tree.specs.Trees.{on_slice}
use Rattle.proof_tree.specs.Soundness.{on_slice-each}
use Rattle.spaces.specs.Maps.{pulled_constant, pulled_form}
use Rattle.unimodular_pair.specs.Gathering.{IsGatheredPair, StopsAfter}
use Rattle.unimodular_pair.specs.Pairs.{Matrices}
use Rattle.unimodular_pair.specs.declared.step.Step.{Step}
use Rattle.reformulate.specs.Frames.{IsReachedFrame}
use Rattle.reformulate.specs.Slices.{IsSlice, SliceLeaves}
use Rattle.reformulate.specs.Substitutions.{Substitution}
use Rattle.reformulate.specs.declared.equality.Equality.{Equality}
use Rattle.reformulate.specs.declared.outcome.FrameExcuse.{FrameExcuse}
use Rattle.reformulate.specs.declared.outcome.FrameExcuse.TheVariants as excuses
use Rattle.presolve_map.specs.ReducedRows.{ReducedRows}
use Rattle.node_regions.specs.NodeFrames.{IsKeptForm, IsNodeFrame}
use Rattle.exact_nodes.specs.PathExcuses.{CompletionStops, EqualityLeaves, IsExcusedSlice, PairStops}
use Rattle.node_slices.proofs.ReachLaws.{slice_reached}

-- one equality more
more-equalities : (work : ReducedRows) (path : List Slice) (slice : Slice) → node_equalities work path ++ work_slice work slice ∷ [] ≡ node_equalities work (path ++ slice ∷ [])
more-equalities work path slice =
    let first : List Equality = joined (λ i. row_equality (row_at work.rows i)) (length work.rows.rows) in
    append_assoc first (map (work_slice work) path) (work_slice work slice ∷ []) ∙ ap (λ (l : List Equality). first ++ l) (sym (map-append (work_slice work) path (slice ∷ [])))

module _ (rows : WholeRows) (s : Substitution) (form : List ℤ) (beta : ℤ) (path : List Slice) (h : IsNodeFrame rows path s) (w : List ℤ) (same : w ≡ work_form h.work form) where
  -- the slice over the columns that presolving keeps
  abbrev equality : Equality
  equality = record { form = w; side = beta }

  -- ---- a frame

  -- the slice of the frame is one of the node of that slice
  pub frame_of_slice : (t : Substitution) (value : ℤ) → IsKeptForm rows.box form → value ≡ beta -ℤ pulled_constant s.to_work w → IsSlice s (pulled_form s.to_work w) value t → IsNodeFrame rows (on_slice path form beta) t
  frame_of_slice t value kept_form is_value slice =
      let slice_at : IsReachedFrame (length h.work.rows.box) (node_equalities h.work path ++ equality ∷ []) t =
      slice_reached (length h.work.rows.box) (node_equalities h.work path) s w beta value h.reached is_value t slice in
      record {
        work = h.work;
        presolved = h.presolved;
        kept = on_slice-each (λ (slice : Slice). IsKeptForm rows.box slice.form) path form beta h.kept kept_form;
        reached = subst (λ (l : List Equality). IsReachedFrame (length h.work.rows.box) l t) (ap (λ (f : List ℤ). node_equalities h.work path ++ record { form = f; side = beta } ∷ []) same ∙ more-equalities h.work path (record { form = form; beta = beta })) slice_at;
      }

  -- ---- excuses

  excuse_of : IsKeptForm rows.box form → (excuse : FrameExcuse) → CompletionStops s equality excuse ⊎ PairStops s equality excuse → IsExcusedSlice rows path s (record { form = form; beta = beta }) excuse
  excuse_of kept excuse stops = record {
    of_node = h;
    kept = kept;
    stops = subst (λ (f : List ℤ). CompletionStops s (record { form = f; side = beta }) excuse ⊎ PairStops s (record { form = f; side = beta }) excuse) same stops;
  }

  -- before the first step
  pub excuse_of_values : IsKeptForm rows.box form → (excuse : FrameExcuse) → (excuse ≡ excuses.Product []) × EqualityLeaves s equality → IsExcusedSlice rows path s (record { form = form; beta = beta }) excuse
  excuse_of_values kept excuse leaves = excuse_of kept excuse (inl (subst (CompletionStops s equality) (sym leaves.0) (inl (refl, leaves.1))))

  -- in the gathering
  pub excuse_of_completion : IsKeptForm rows.box form → (excuse : FrameExcuse) (kernel : List ℤ) → kernel ≡ pulled_form s.to_work w → (steps : List Step) × (excuse ≡ excuses.Product steps) × StopsAfter kernel steps → IsExcusedSlice rows path s (record { form = form; beta = beta }) excuse
  excuse_of_completion kept excuse kernel is stop =
      excuse_of kept excuse (inl (subst (CompletionStops s equality) (sym stop.1) (inr (subst (λ (f : List ℤ). StopsAfter f stop.0) is stop.2))))

  -- in what follows
  pub excuse_of_pair : IsKeptForm rows.box form → (excuse : FrameExcuse) (kernel : List ℤ) (pair : Matrices) (value : ℤ) → kernel ≡ pulled_form s.to_work w → value ≡ beta -ℤ pulled_constant s.to_work w → IsGatheredPair kernel pair → get_or pair.u 0 [] ≡ kernel → SliceLeaves s pair value excuse → IsExcusedSlice rows path s (record { form = form; beta = beta }) excuse
  excuse_of_pair kept excuse kernel pair value is is_value gathered first leaves = excuse_of kept excuse (inr (record {
    pair = pair;
    gathered = subst (λ (f : List ℤ). IsGatheredPair f pair) is gathered;
    first = first ∙ is;
    leaves = subst (λ (v : ℤ). SliceLeaves s pair v excuse) is_value leaves;
  }))
