-- Slices of a frame.
use Rattle.std.proofs.Common.{◌≡◌, inr, ℕ, suc, ◌+◌, ◌*◌, ◌<◌, ◌≤◌, ℤ, pos, ◌+ℤ◌, ◌-ℤ◌, ◌*ℤ◌, List, [], ◌∷◌, ◌++◌, length, map, get_or, refl, sym, ap, ap₂, subst, subst₂, ◌∙◌, arith}
use Rattle.std.specs.List.{remove}
use Rattle.std.proofs.lemmas.List.Edits.{length-remove}
use Rattle.exact_math.specs.IntegerLaws as Z
use Rattle.exact_math.specs.IntegerRing.{linear}
use Rattle.exact_math.specs.Ring.{integers}
use Rattle.exact_vectors.specs.DotLaws as Dot
use Rattle.exact_vectors.specs.Matrices.{HasWidth, column, combination, times_matrix, times_vector}
use Rattle.exact_vectors.specs.MatrixLaws as Matrix
use Rattle.exact_vectors.specs.Range.{StaysInRange}
use Rattle.exact_vectors.specs.Vectors.{dot, add, scale, zeros}
use Rattle.spaces.specs.Maps.{AffineMap, CompositionStays, IsComposed}
use Rattle.spaces.specs.Multiples.{with_multiple}
use Rattle.spaces.specs.Tables.{Table, row_at, rows_in}
use Rattle.spaces.specs.TableLaws as Tables
use Rattle.unimodular_pair.specs.Gathering.{IsGatheredPair}
use Rattle.unimodular_pair.specs.PairLaws as Pair
use Rattle.unimodular_pair.specs.Pairs.{AreInverse, Matrices}
use Rattle.unimodular_pair.specs.declared.step.Step.{Step}
use Rattle.reformulate.proofs.ChartLaws.{IsChart, IsInverse, IsInverse-removed, coordinates-point}
use Rattle.reformulate.proofs.FrameLaws.{IsChart-reduced, IsChart-takes_up}
use Rattle.reformulate.proofs.SliceLaws.{combination-remove, form_back, gathered_first, times_matrix-map, times_matrix-remove}
use Rattle.reformulate.proofs.TakingSteps.{inverse_of}
use Rattle.reformulate.proofs.VectorSteps as VectorSteps
use Rattle.reformulate.specs.Charts.{Chart, chart_of}
use Rattle.reformulate.specs.Excuses.{MatricesStay, ReducingLeaves, StopsSo}
use Rattle.reformulate.specs.Frames.{IsFrame}
use Rattle.reformulate.specs.Framing.{IsReductionOf, TakesUp}
use Rattle.reformulate.specs.Framing.Reach.{one_more}
use Rattle.reformulate.specs.Slices.{applied, slice_equality, sliced, IsApplied, IsSlice, SliceLeaves, SliceStays}
use Rattle.reformulate.specs.Substitutions.{Substitution, columns_of, dimension_of, IsSubstitution}
use Rattle.reformulate.specs.declared.equality.Equality.{Equality}
use Rattle.reformulate.specs.declared.outcome.FrameExcuse.TheVariants as excuses
use Rattle.reformulate.specs.declared.outcome.FrameStop.{FrameStop}
use Rattle.reformulate.specs.declared.outcome.FrameStop.TheVariants as stops

-- ---- frames and charts

pub chart_from_frame : (equalities : List Equality) (s : Substitution) → IsSubstitution s → IsFrame equalities s → IsChart (columns_of s) (dimension_of s) equalities (chart_of s)
chart_from_frame equalities s h f = record { base = h.shaped.base; pair = inverse_of s h; into = f.into; onto = f.onto }

pub frame_from_chart : (equalities : List Equality) (s : Substitution) → IsChart (columns_of s) (dimension_of s) equalities (chart_of s) → IsFrame equalities s
frame_from_chart equalities s c = record {
  into = c.into;
  back = λ y f. coordinates-point (columns_of s) (dimension_of s) (chart_of s) y c.base c.pair f;
  onto = c.onto;
}

-- ---- the maps without the first vector

module _ (s : Substitution) (p : Matrices) (beta : ℤ) (h : IsSubstitution s) (inverse : AreInverse (dimension_of s) p) (some : 0 < dimension_of s) where
  n : ℕ
  n = columns_of s

  r : ℕ
  r = dimension_of s

  -- the pair applied is inverse
  pub inverse_applied : IsInverse (columns_of s) (dimension_of s) (applied (columns_of s) (dimension_of s) (chart_of s).pair p)
  inverse_applied =
      let old = inverse_of s h in
      record {
        height_u = Pair.length-times_matrix (columns_of s) p.u (rows_in s.back) ∙ inverse.height_u;
        width_u = VectorSteps.HasWidth-product (columns_of s) p.u (rows_in s.back) old.width_u;
        height_v = Pair.length-times_matrix (dimension_of s) (rows_in s.to_work.lines) p.v ∙ old.height_v;
        width_v = VectorSteps.HasWidth-product (dimension_of s) (rows_in s.to_work.lines) p.v inverse.width_v;
        inverse = λ y e.
            ap (times_vector integers (times_matrix integers (columns_of s) p.u (rows_in s.back))) (Matrix.times_matrix_vector integers (dimension_of s) (rows_in s.to_work.lines) p.v y inverse.width_v)
            ∙ Matrix.times_matrix_vector integers (columns_of s) p.u (rows_in s.back) (times_vector integers (rows_in s.to_work.lines) (times_vector integers p.v y)) old.width_u
            ∙ ap (times_vector integers p.u) (old.inverse (times_vector integers p.v y) (Matrix.length-times_vector integers p.v y ∙ inverse.height_v))
            ∙ sym (Matrix.times_matrix_vector integers (dimension_of s) p.u p.v y inverse.width_v)
            ∙ ap (λ l. times_vector integers l y) inverse.product
            ∙ VectorSteps.times-unit_vectors (dimension_of s) y e;
      }

  -- and without its first vector
  pub inverse_sliced : (k : ℕ) → suc k ≡ dimension_of s → IsInverse (columns_of s) k (sliced (columns_of s) (dimension_of s) (chart_of s) p beta).pair
  inverse_sliced k e = IsInverse-removed (columns_of s) k (applied (columns_of s) (dimension_of s) (chart_of s).pair p) 0 (omega arith) (subst (λ j. IsInverse (columns_of s) j (applied (columns_of s) (dimension_of s) (chart_of s).pair p)) (sym e) inverse_applied)

  -- the tables that the code makes of it
  pub is_applied : (shift : List ℤ) (vectors rows back : Table ℤ) (first to_work : AffineMap) → shift ≡ with_multiple beta (column integers p.v 0) (zeros integers (dimension_of s)) → rows_in vectors ≡ map (λ row. remove row 0) p.v → vectors.width + 1 ≡ dimension_of s
      → first ≡ record { base = shift; lines = vectors } → IsComposed first s.to_work to_work → rows_in rows ≡ remove p.u 0 → rows.rows + 1 ≡ dimension_of s
      → back.rows ≡ rows.rows → back.width ≡ s.back.width → length back.items ≡ back.rows * back.width → rows_in back ≡ times_matrix integers s.back.width (rows_in rows) (rows_in s.back) → IsApplied s p beta to_work back
  is_applied shift vectors rows back first to_work sh ve vw fi comp ro rr bh bw bs br =
      let shaped = h.shaped in
      let k : ℕ = vectors.width in
      let col : List ℤ = column integers p.v 0 in
      let count : suc k ≡ dimension_of s = omega (arith, vw) in
      let long_col : length col ≡ dimension_of s = Pair.length-column p.v 0 ∙ inverse.height_v in
      let moved : shift ≡ scale integers beta col = sh ∙ VectorSteps.add-zeros_left (dimension_of s) (scale integers beta col) (Matrix.length-scale integers beta col ∙ long_col) in
      let base : to_work.base ≡ add integers s.to_work.base (scale integers beta (column integers (times_matrix integers (dimension_of s) (rows_in s.to_work.lines) p.v) 0)) =
      comp.base ∙ ap (λ (m : AffineMap). add integers s.to_work.base (times_vector integers (rows_in s.to_work.lines) m.base)) fi
      ∙ ap (λ l. add integers s.to_work.base (times_vector integers (rows_in s.to_work.lines) l)) moved
      ∙ ap (add integers s.to_work.base) (Matrix.times_vector-scale integers (rows_in s.to_work.lines) beta col ∙ ap (scale integers beta) (sym (VectorSteps.column-product (dimension_of s) 0 (rows_in s.to_work.lines) p.v inverse.width_v))) in
      let wide : HasWidth (suc k) p.v = subst (λ j. HasWidth j p.v) (sym count) inverse.width_v in
      let lines : rows_in to_work.lines ≡ map (λ row. remove row 0) (times_matrix integers (dimension_of s) (rows_in s.to_work.lines) p.v) =
      comp.lines ∙ ap (λ (m : AffineMap). times_matrix integers m.lines.width (rows_in s.to_work.lines) (rows_in m.lines)) fi
      ∙ ap (times_matrix integers k (rows_in s.to_work.lines)) ve
      ∙ times_matrix-map (suc k) k (rows_in s.to_work.lines) p.v (map (λ row. remove row 0) p.v) (λ row. remove row 0) (λ row. combination-remove k 0 row p.v wide (omega arith))
      ∙ ap (λ j. map (λ row. remove row 0) (times_matrix integers j (rows_in s.to_work.lines) p.v)) count in
      let back_is : rows_in back ≡ remove (times_matrix integers (columns_of s) p.u (rows_in s.back)) 0 =
      br ∙ ap₂ (λ j l. times_matrix integers j l (rows_in s.back)) shaped.width ro ∙ times_matrix-remove (columns_of s) p.u (rows_in s.back) 0 in
      let width : to_work.lines.width ≡ k = comp.width ∙ ap (λ (m : AffineMap). m.lines.width) fi in
      record {
        old = h;
        inverse = inverse;
        chart = ap₂ (λ (b : List ℤ) (q : Matrices). record { base = b; pair = q }) base (ap₂ (λ (u v : List (List ℤ)). record { u = u; v = v }) back_is lines);
        base = ap length base ∙ Matrix.length-add integers (columns_of s) s.to_work.base (scale integers beta (column integers (times_matrix integers (dimension_of s) (rows_in s.to_work.lines) p.v) 0)) shaped.base
            (Matrix.length-scale integers beta (column integers (times_matrix integers (dimension_of s) (rows_in s.to_work.lines) p.v) 0) ∙ Pair.length-column (times_matrix integers (dimension_of s) (rows_in s.to_work.lines) p.v) 0 ∙ Pair.length-times_matrix (dimension_of s) (rows_in s.to_work.lines) p.v ∙ Tables.length-rows_in s.to_work.lines)
            ∙ sym comp.height;
        shape = record {
          height = bh ∙ fewer rows.rows k rr vw ∙ sym width;
          width = bw ∙ shaped.width ∙ sym comp.height;
          size_back = bs;
          size_lines = comp.size;
          narrow = subst (λ j. j ≤ 256) (sym comp.height) shaped.narrow;
          few = subst (λ j. j ≤ 256) (sym width) (below k vw shaped.few);
        };
      }
    where
      fewer : (a b : ℕ) → a + 1 ≡ dimension_of s → b + 1 ≡ dimension_of s → a ≡ b
      fewer a b e f = omega (arith, e, f)

      below : (a : ℕ) → a + 1 ≡ dimension_of s → dimension_of s ≤ 256 → a ≤ 256
      below a e f = omega (arith, e, f)

  -- ---- the frame of the slice

  d : List ℤ
  d = get_or p.u 0 []

  takes_up : IsGatheredPair (get_or p.u 0 []) p → (steps : List Step) × TakesUp (slice_equality s (get_or p.u 0 []) beta) (chart_of s) steps (sliced (columns_of s) (dimension_of s) (chart_of s) p beta)
  takes_up g =
      let e : Equality = slice_equality s (get_or p.u 0 []) beta in
      let first = gathered_first (columns_of s) (dimension_of s) (chart_of s).pair (inverse_of s h) e p some inverse g refl in (
        first.0,
        record {
          place = 0;
          quotient = beta;
          pair = applied (columns_of s) (dimension_of s) (chart_of s).pair p;
          gathered = first.1;
          divides = ap (λ z. z *ℤ beta) first.2 ∙ Z.one_mul beta ∙ rest beta (dot integers e.form s.to_work.base);
          left = refl;
        },
      )
    where
      rest : (b x : ℤ) → b ≡ (b +ℤ x) -ℤ x
      rest b x = omega linear

  pub is_slice : IsGatheredPair (get_or p.u 0 []) p → (t : Substitution) → IsReductionOf (sliced (columns_of s) (dimension_of s) (chart_of s) p beta) t → IsSlice s (get_or p.u 0 []) beta t
  is_slice g t red =
      let e : Equality = slice_equality s (get_or p.u 0 []) beta in
      let c : Chart = sliced (columns_of s) (dimension_of s) (chart_of s) p beta in
      let taken = takes_up g in
      let old = inverse_of s h in
      let new = inverse_applied in
      let there : 0 < length (times_matrix integers (columns_of s) p.u (rows_in s.back)) = omega (arith, new.height_u) in
      let fewer = length-remove (times_matrix integers (columns_of s) p.u (rows_in s.back)) 0 there in
      let dimension : dimension_of t + 1 ≡ dimension_of s = omega (arith, red.dimension, fewer, new.height_u) in
      let columns : columns_of t ≡ columns_of s = red.columns ∙ Matrix.length-add integers (columns_of s) s.to_work.base (scale integers beta (column integers (applied (columns_of s) (dimension_of s) (chart_of s).pair p).v 0)) h.shaped.base
      (Matrix.length-scale integers beta (column integers (applied (columns_of s) (dimension_of s) (chart_of s).pair p).v 0) ∙ Pair.length-column (applied (columns_of s) (dimension_of s) (chart_of s).pair p).v 0 ∙ new.height_v) in
      let pulled : List ℤ = combination integers (columns_of s) (get_or p.u 0 []) (rows_in s.back) in
      let top : 0 < length p.u = omega (arith, inverse.height_u) in
      let long_d : length (get_or p.u 0 []) ≡ dimension_of s = Matrix.HasWidth-at integers (dimension_of s) p.u 0 [] inverse.width_u top in
      let value = λ (y : List ℤ). Dot.dot-add_right integers pulled s.to_work.base (times_vector integers (rows_in s.to_work.lines) y) (h.shaped.base ∙ sym (Matrix.length-times_vector integers (rows_in s.to_work.lines) y ∙ old.height_v))
      ∙ ap (λ z. dot integers pulled s.to_work.base +ℤ z) (Matrix.dot_times_vector integers (dimension_of s) pulled (rows_in s.to_work.lines) y old.width_v ∙ ap (λ f. dot integers f y) (form_back (columns_of s) (dimension_of s) (chart_of s).pair old (get_or p.u 0 []) long_d)) in
      record {
        columns = columns;
        dimension = dimension;
        points = λ y long. (λ z. value y ∙ swap (dot integers pulled s.to_work.base) (dot integers (get_or p.u 0 []) y) z, λ z. back (dot integers pulled s.to_work.base) (dot integers (get_or p.u 0 []) y) (sym (value y) ∙ z));
        frame = λ equalities f.
            let before : IsChart (columns_of s) (length (rows_in s.back)) equalities (chart_of s) = subst (λ k. IsChart (columns_of s) k equalities (chart_of s)) (sym old.height_u) (chart_from_frame equalities s h f) in
            let between = IsChart-takes_up (columns_of s) equalities e (chart_of s) c taken.0 taken.1 before in
            let after = IsChart-reduced (columns_of s) (length c.pair.u) (equalities ++ e ∷ []) c (chart_of t) red.steps red.reduces between in
            frame_from_chart (equalities ++ e ∷ []) t (subst₂ (λ a b. IsChart a b (equalities ++ e ∷ []) (chart_of t)) (sym columns) (sym red.dimension) after);
        reach = λ equalities reach. one_more equalities e (chart_of s) c (chart_of t) taken.0 red.steps reach taken.1 red.reduces;
      }
    where
      swap : (x v : ℤ) → v ≡ beta → x +ℤ v ≡ beta +ℤ x
      swap x v z = omega (linear, z)

      back : (x v : ℤ) → x +ℤ v ≡ beta +ℤ x → v ≡ beta
      back x v z = omega (linear, z)

-- ---- the ranges

-- the composition with the map of the frame stays in range
pub composition_stays : (s : Substitution) (p : Matrices) (beta : ℤ) (shift : List ℤ) (vectors : Table ℤ) (first next : AffineMap) → IsSubstitution s → first ≡ record { base = shift; lines = vectors } → next ≡ s.to_work → shift ≡ with_multiple beta (column integers p.v 0) (zeros integers (dimension_of s))
    → rows_in vectors ≡ map (λ row. remove row 0) p.v → vectors.width + 1 ≡ dimension_of s → SliceStays s p beta → CompositionStays first next
composition_stays s p beta shift vectors first next h fi ne sh ve vw stays =
    subst₂ CompositionStays (sym fi) (sym ne) (
      λ i lt. subst (λ l. StaysInRange (get_or s.to_work.base i (pos 0)) (row_at s.to_work.lines i) l) (sym sh) (stays.base i (omega (arith, h.shaped.base))),
      λ i lt j below. subst (λ l. StaysInRange (pos 0) (row_at s.to_work.lines i) (column integers l j)) (sym ve) (stays.lines i j lt (omega (arith, vw))),
    )

-- the product with the rows of V does
pub back_stays : (s : Substitution) (p : Matrices) (beta : ℤ) (rows old : Table ℤ) → IsSubstitution s → rows_in rows ≡ remove p.u 0 → rows_in old ≡ rows_in s.back → old.width ≡ s.back.width → SliceStays s p beta → MatricesStay old.width (rows_in rows) (rows_in old)
back_stays s p beta rows old h ro ol ow stays = subst (λ n. MatricesStay n (rows_in rows) (rows_in old)) (sym (ow ∙ h.shaped.width)) (subst₂ (MatricesStay (columns_of s)) (sym ro) (sym ol) stays.back)

-- ---- the reduction that follows

-- what is reduced is inverse
pub inverse_left : (s : Substitution) (p : Matrices) (beta : ℤ) (to_work : AffineMap) (back : Table ℤ) → 0 < dimension_of s → IsApplied s p beta to_work back → (y : List ℤ) → length y ≡ to_work.lines.width → times_vector integers (rows_in back) (times_vector integers (rows_in to_work.lines) y) ≡ y
inverse_left s p beta to_work back some a y e =
    let u = ap (λ (c : Chart). c.pair.u) a.chart in
    let v = ap (λ (c : Chart). c.pair.v) a.chart in
    let new = inverse_applied s p beta a.old a.inverse some in
    let there : 0 < length (times_matrix integers (columns_of s) p.u (rows_in s.back)) = omega (arith, new.height_u) in
    let fewer = length-remove (times_matrix integers (columns_of s) p.u (rows_in s.back)) 0 there in
    let count : suc to_work.lines.width ≡ dimension_of s = omega (arith, sym (Tables.length-rows_in back) ∙ ap length u, a.shape.height, fewer, new.height_u) in
    subst₂ (λ l q. times_vector integers l (times_vector integers q y) ≡ y) (sym u) (sym v) ((inverse_sliced s p beta a.old a.inverse some to_work.lines.width count).inverse y e)

-- an excuse of it is one of the slice
pub slice_stops : (s : Substitution) (p : Matrices) (beta : ℤ) (c : Chart) → c ≡ sliced (columns_of s) (dimension_of s) (chart_of s) p beta → (stop : FrameStop) → StopsSo (ReducingLeaves c) stop → StopsSo (SliceLeaves s p beta) stop
slice_stops s p beta c e stop h = go stop (subst (λ k. StopsSo (ReducingLeaves k) stop) e h)
  where
    go : (stop : FrameStop) → StopsSo (ReducingLeaves (sliced (columns_of s) (dimension_of s) (chart_of s) p beta)) stop → StopsSo (SliceLeaves s p beta) stop
    go (stops.Excuse (excuses.Reduce excuse)) h = h
    go (stops.Excuse (excuses.Product steps)) h = inr h
    go stops.NoMemory h = tt

-- how many items the shift has
pub slice_length : (p : Matrices) (beta : ℤ) (shift : List ℤ) (r : ℕ) → AreInverse r p → shift ≡ with_multiple beta (column integers p.v 0) (zeros integers r) → length shift ≡ r
slice_length p beta shift r inverse sh =
    ap length sh ∙ Matrix.length-add integers r (zeros integers r) (scale integers beta (column integers p.v 0)) (Matrix.length-zeros integers r) (Matrix.length-scale integers beta (column integers p.v 0) ∙ Pair.length-column p.v 0 ∙ inverse.height_v)
