-- A unimodular pair applied to the vectors of a chart, whose first one then leaves.
use Rattle.std.proofs.Common.{◌≡◌, ◌≢◌, ◌⊎◌, inl, inr, ⊎_elim, ℕ, zero, suc, ◌+◌, ◌<◌, ℤ, pos, neg_ℤ, ◌+ℤ◌, ◌*ℤ◌, List, [], ◌∷◌, length, map, get_or, set, refl, sym, ap, ap₂, subst, subst₂, ◌∙◌, arith, get_or-set_other, get_or-set_same}
use Rattle.std.specs.List.{swap, remove}
use Rattle.std.proofs.lemmas.Bool.{cases_eq}
use Rattle.std.proofs.lemmas.List.{ext_get_or, length-map, length-set}
use Rattle.std.proofs.lemmas.List.Edits.{swap_is}
use Rattle.exact_math.specs.IntegerLaws as Z
use Rattle.exact_math.specs.IntegerRing.{linear}
use Rattle.exact_math.specs.Ring.{integers}
use Rattle.exact_vectors.specs.DotLaws as Dot
use Rattle.exact_vectors.specs.Matrices.{HasWidth, column, combination, times_matrix, times_vector}
use Rattle.exact_vectors.specs.MatrixLaws as Matrix
use Rattle.exact_vectors.specs.Vectors.{dot, add, scale, negate, zeros}
use Rattle.spaces.specs.Multiples.{with_multiple}
use Rattle.unimodular_pair.specs.Gathering.{after, unit_vectors, values_at, Gathers, IsGatheredPair, IsLegal}
use Rattle.unimodular_pair.specs.GatheringLaws as Gathering
use Rattle.unimodular_pair.specs.Moves.{negated, negated_item, raised_item}
use Rattle.unimodular_pair.specs.PairLaws as Pair
use Rattle.unimodular_pair.specs.Pairs.{AreInverse, Matrices, identity}
use Rattle.unimodular_pair.specs.declared.step.Step.{Step}
use Rattle.unimodular_pair.specs.declared.step.Step.TheVariants.{Swap, Combine}
use Rattle.reformulate.proofs.ChartLaws.{IsInverse}
use Rattle.reformulate.proofs.VectorSteps as VectorSteps
use Rattle.reformulate.specs.Framing.{IsGatheredAt}
use Rattle.reformulate.specs.Slices.{applied}
use Rattle.reformulate.specs.declared.equality.Equality.{Equality}

-- ---- products of matrices with one factor changed

-- a row replaced
times_matrix-set : (n : ℕ) (left right : List (List ℤ)) (i : ℕ) (row : List ℤ) → times_matrix integers n (set left i row) right ≡ set (times_matrix integers n left right) i (combination integers n row right)
times_matrix-set n [] right i row = refl
times_matrix-set n (first ∷ left) right zero row = refl
times_matrix-set n (first ∷ left) right (suc i) row = ap {B = List (List ℤ)} (λ l. combination integers n first right ∷ l) (times_matrix-set n left right i row)

-- each row of the second factor changed as the combinations are
pub times_matrix-map : (n m : ℕ) (left right right' : List (List ℤ)) (f : List ℤ → List ℤ) → ((row : List ℤ) → combination integers m row right' ≡ f (combination integers n row right)) → times_matrix integers m left right' ≡ map f (times_matrix integers n left right)
times_matrix-map n m [] right right' f h = refl
times_matrix-map n m (row ∷ left) right right' f h = ap₂ (λ (a : List ℤ) (l : List (List ℤ)). a ∷ l) (h row) (times_matrix-map n m left right right' f h)

-- a row left out
pub times_matrix-remove : (n : ℕ) (left right : List (List ℤ)) (i : ℕ) → times_matrix integers n (remove left i) right ≡ remove (times_matrix integers n left right) i
times_matrix-remove n [] right zero = refl
times_matrix-remove n [] right (suc i) = refl
times_matrix-remove n (row ∷ left) right zero = refl
times_matrix-remove n (row ∷ left) right (suc i) = ap {B = List (List ℤ)} (λ l. combination integers n row right ∷ l) (times_matrix-remove n left right i)

-- a multiple of a row added
combination-multiple : (n r : ℕ) (f : ℤ) (a b : List ℤ) (rows : List (List ℤ)) → HasWidth n rows → length a ≡ r → length b ≡ r → combination integers n (with_multiple f a b) rows ≡ with_multiple f (combination integers n a rows) (combination integers n b rows)
combination-multiple n r f a b rows h ea eb =
    let la = Matrix.length-combination integers n a rows h in
    let lb = Matrix.length-combination integers n b rows h in
    let lf = Matrix.length-scale integers f (combination integers n a rows) ∙ la in
    ext_get_or (pos 0) _ _ (Matrix.length-combination integers n (with_multiple f a b) rows h ∙ sym (Matrix.length-add integers n _ _ lb lf))
    (λ j lt.
    Matrix.combination-at integers n (with_multiple f a b) rows j h
    ∙ Dot.dot-add_left integers b (scale integers f a) (column integers rows j) (eb ∙ sym (Matrix.length-scale integers f a ∙ ea))
    ∙ ap₂ ◌+ℤ◌ (sym (Matrix.combination-at integers n b rows j h)) (Dot.dot-scale_left integers f a (column integers rows j) ∙ ap (λ z. f *ℤ z) (sym (Matrix.combination-at integers n a rows j h)) ∙ sym (Matrix.scale-at integers f (combination integers n a rows) j))
    ∙ sym (Matrix.add-at integers (combination integers n b rows) (scale integers f (combination integers n a rows)) j (lb ∙ sym lf)))

-- the opposite of a row
combination-negate : (n : ℕ) (a : List ℤ) (rows : List (List ℤ)) → HasWidth n rows → combination integers n (negate integers a) rows ≡ negate integers (combination integers n a rows)
combination-negate n a rows h =
    ext_get_or (pos 0) _ _ (Matrix.length-combination integers n (negate integers a) rows h ∙ sym (length-map (combination integers n a rows) _ ∙ Matrix.length-combination integers n a rows h))
    (λ j lt.
    Matrix.combination-at integers n (negate integers a) rows j h
    ∙ Dot.dot-negate_left integers a (column integers rows j)
    ∙ ap neg_ℤ (sym (Matrix.combination-at integers n a rows j h))
    ∙ sym (negate-at (combination integers n a rows) j))
  where
    negate-at : (v : List ℤ) (j : ℕ) → get_or (negate integers v) j (pos 0) ≡ neg_ℤ (get_or v j (pos 0))
    negate-at [] j = refl
    negate-at (a ∷ v) zero = refl
    negate-at (a ∷ v) (suc j) = negate-at v j

-- a column with the other sign
combination-negated : (r i : ℕ) (a : List ℤ) (rows : List (List ℤ)) → HasWidth r rows → i < r → combination integers r a (map (negated_item i) rows) ≡ negated_item i (combination integers r a rows)
combination-negated r i a rows h lt =
    let wide : HasWidth r (map (negated_item i) rows) = Pair.HasWidth-map r (negated_item i) rows (λ row. length-set row i _) h in
    let g : List ℤ = combination integers r a rows in
    let many : length g ≡ r = Matrix.length-combination integers r a rows h in
    ext_get_or (pos 0) _ _ (Matrix.length-combination integers r a (map (negated_item i) rows) wide ∙ sym (length-set g i _ ∙ many))
    (λ j below.
    Matrix.combination-at integers r a (map (negated_item i) rows) j wide
    ∙ ⊎_elim
    (λ (e : j ≡ i).
    ap (λ k. dot integers a (column integers (map (negated_item i) rows) k)) e
    ∙ ap (dot integers a) (Pair.column-negated r i rows h lt)
    ∙ Dot.dot-negate_right integers a (column integers rows i)
    ∙ ap neg_ℤ (sym (Matrix.combination-at integers r a rows i h))
    ∙ sym (get_or-set_same g i (neg_ℤ (get_or g i (pos 0))) (pos 0) (omega (arith, many)))
    ∙ ap (λ k. get_or (negated_item i g) k (pos 0)) (sym e))
    (λ (ne : j ≡ i → ⊥).
    ap (dot integers a) (Pair.column-negated_other i j rows ne)
    ∙ sym (Matrix.combination-at integers r a rows j h)
    ∙ sym (get_or-set_other g i j (neg_ℤ (get_or g i (pos 0))) (pos 0) ne))
    (cases_eq j i))

-- a column left out
pub combination-remove : (r i : ℕ) (a : List ℤ) (rows : List (List ℤ)) → HasWidth (suc r) rows → i < suc r → combination integers r a (map (λ row. remove row i) rows) ≡ remove (combination integers (suc r) a rows) i
combination-remove r i a rows h lt = go a rows h
  where
    add-remove : (v w : List ℤ) (i : ℕ) → add integers (remove v i) (remove w i) ≡ remove (add integers v w) i
    add-remove [] w zero = refl
    add-remove [] w (suc i) = refl
    add-remove (b ∷ v) [] zero = none v
      where
        none : (v : List ℤ) → add integers v [] ≡ []
        none [] = refl
        none (b ∷ v) = refl
    add-remove (b ∷ v) [] (suc i) = refl
    add-remove (b ∷ v) (c ∷ w) zero = refl
    add-remove (b ∷ v) (c ∷ w) (suc i) = ap {B = List ℤ} (λ l. (b +ℤ c) ∷ l) (add-remove v w i)

    scale-remove : (k : ℤ) (v : List ℤ) (i : ℕ) → scale integers k (remove v i) ≡ remove (scale integers k v) i
    scale-remove k [] zero = refl
    scale-remove k [] (suc i) = refl
    scale-remove k (b ∷ v) zero = refl
    scale-remove k (b ∷ v) (suc i) = ap {B = List ℤ} (λ l. (k *ℤ b) ∷ l) (scale-remove k v i)

    zeros-remove : (r i : ℕ) → i < suc r → zeros integers r ≡ remove (zeros integers (suc r)) i
    zeros-remove r zero lt = refl
    zeros-remove zero (suc i) lt = absurd (omega arith)
    zeros-remove (suc r) (suc i) lt = ap {B = List ℤ} (λ l. pos 0 ∷ l) (zeros-remove r i (omega arith))

    go : (a : List ℤ) (rows : List (List ℤ)) → HasWidth (suc r) rows → combination integers r a (map (λ row. remove row i) rows) ≡ remove (combination integers (suc r) a rows) i
    go [] rows h = zeros-remove r i lt
    go (k ∷ a) [] h = zeros-remove r i lt
    go (k ∷ a) (row ∷ rows) h = ap₂ (add integers) (scale-remove k row i) (go a rows h.1) ∙ add-remove (scale integers k row) (combination integers (suc r) a rows) i

-- ---- the pair applied

module _ (n r : ℕ) (m : Matrices) (inverse : IsInverse n r m) where
  -- the identity changes nothing
  applied-identity : applied n r m (unit_vectors r) ≡ m
  applied-identity = ap₂ (λ (a b : List (List ℤ)). record { u = a; v = b }) rows (Pair.times-identity r m.v inverse.width_v)
    where
      rows : times_matrix integers n (identity r) m.u ≡ m.u
      rows =
          let height = Pair.length-times_matrix n (identity r) m.u ∙ Pair.length-identity r in
          ext_get_or [] (times_matrix integers n (identity r) m.u) m.u (height ∙ sym inverse.height_u)
          (λ i lt.
          let below : i < r = omega (arith, height) in
          let there : i < length (identity r) = omega (arith, Pair.length-identity r) in
          let inside : i < length m.u = omega (arith, inverse.height_u) in
          let row : List ℤ = get_or (identity r) i [] in
          let wide_row = Matrix.HasWidth-at integers r (identity r) i [] (Pair.HasWidth-identity r) there in
          let long = Matrix.length-combination integers n row m.u inverse.width_u in
          Pair.times_matrix-at n (identity r) m.u i there
          ∙ ext_get_or (pos 0) _ _ (long ∙ sym (Matrix.HasWidth-at integers n m.u i [] inverse.width_u inside))
          (λ j lt_j.
          let col : List ℤ = column integers m.u j in
          let many : length row ≡ length col = wide_row ∙ sym (Pair.length-column m.u j ∙ inverse.height_u) in
          Matrix.combination-at integers n row m.u j inverse.width_u
          ∙ VectorSteps.dot-only row col i many (omega (arith, wide_row)) (λ k ne. Pair.identity-other r i k (λ z. ne (sym z)))
          ∙ ap (λ z. z *ℤ get_or col i (pos 0)) (Pair.identity-same r i below)
          ∙ Z.one_mul (get_or col i (pos 0))
          ∙ Matrix.column-at integers m.u j i [] (pos 0) inside))

  -- a step is taken as well before as after
  applied-after : (p : Matrices) (g : List ℤ) (step : Step) → AreInverse r p → length g ≡ r → IsLegal step g → applied n r m (after step p) ≡ after step (applied n r m p)
  applied-after p g (Swap i) h e legal =
      let above = Gathering.there g (i + 1) legal.1 in
      let low : i < length p.u = omega (arith, h.height_u) in
      let high : i + 1 < length p.u = omega (arith, h.height_u) in
      let a_low : i < length (times_matrix integers n p.u m.u) = omega (arith, Pair.length-times_matrix n p.u m.u) in
      let a_high : i + 1 < length (times_matrix integers n p.u m.u) = omega (arith, Pair.length-times_matrix n p.u m.u) in
      ap₂ (λ (a b : List (List ℤ)). record { u = a; v = b })
      (ap (λ l. times_matrix integers n l m.u) (sym (swap_is p.u i (i + 1) [] low high))
      ∙ times_matrix-set n (set p.u i (get_or p.u (i + 1) [])) m.u (i + 1) (get_or p.u i [])
      ∙ ap₂ (λ (l : List (List ℤ)) (x : List ℤ). set l (i + 1) x) (times_matrix-set n p.u m.u i (get_or p.u (i + 1) []) ∙ ap (set (times_matrix integers n p.u m.u) i) (sym (Pair.times_matrix-at n p.u m.u (i + 1) high))) (sym (Pair.times_matrix-at n p.u m.u i low))
      ∙ swap_is (times_matrix integers n p.u m.u) i (i + 1) [] a_low a_high)
      (times_matrix-map r r m.v p.v (map (λ row. swap row i (i + 1)) p.v) (λ row. swap row i (i + 1)) (λ row. Gathering.values-swapped row r i (i + 1) p.v h.width_v (omega (arith, h.height_u)) (omega (arith, h.height_u))))
  applied-after p g (Combine t s q) h e legal =
      let source = Gathering.there g s legal.2 in
      let ht : t < length p.u = omega (arith, legal.0, h.height_u) in
      let hs : s < length p.u = omega (arith, h.height_u) in
      let wide_t = Matrix.HasWidth-at integers r p.u t [] h.width_u ht in
      let wide_s = Matrix.HasWidth-at integers r p.u s [] h.width_u hs in
      ap₂ (λ (a b : List (List ℤ)). record { u = a; v = b })
      (times_matrix-set n p.u m.u s (with_multiple (neg_ℤ q) (get_or p.u t []) (get_or p.u s []))
      ∙ ap (set (times_matrix integers n p.u m.u) s)
      (combination-multiple n r (neg_ℤ q) (get_or p.u t []) (get_or p.u s []) m.u inverse.width_u wide_t wide_s
      ∙ ap₂ (with_multiple (neg_ℤ q)) (sym (Pair.times_matrix-at n p.u m.u t ht)) (sym (Pair.times_matrix-at n p.u m.u s hs))))
      (times_matrix-map r r m.v p.v (map (raised_item t s q) p.v) (raised_item t s q) (λ row. Gathering.values-raised row r t s q p.v h.width_v (omega (arith, legal.0, e))))

  -- a change of sign too
  applied-negated : (p : Matrices) (i : ℕ) → AreInverse r p → i < r → applied n r m (negated i p) ≡ negated i (applied n r m p)
  applied-negated p i h lt =
      let there : i < length p.u = omega (arith, h.height_u) in
      ap₂ (λ (a b : List (List ℤ)). record { u = a; v = b })
      (times_matrix-set n p.u m.u i (negate integers (get_or p.u i []))
      ∙ ap (set (times_matrix integers n p.u m.u) i) (combination-negate n (get_or p.u i []) m.u inverse.width_u ∙ ap (negate integers) (sym (Pair.times_matrix-at n p.u m.u i there))))
      (times_matrix-map r r m.v p.v (map (negated_item i) p.v) (negated_item i) (λ row. combination-negated r i row p.v h.width_v lt))

  -- a form on the coordinates, pulled back and pushed forward, is itself
  pub form_back : (d : List ℤ) → length d ≡ r → combination integers r (combination integers n d m.u) m.v ≡ d
  form_back d e =
      let pulled : List ℤ = combination integers n d m.u in
      ext_get_or (pos 0) _ _ (Matrix.length-combination integers r pulled m.v inverse.width_v ∙ sym e)
      (λ j lt.
      let below : j < r = omega (arith, Matrix.length-combination integers r pulled m.v inverse.width_v) in
      let there : j < length (identity r) = omega (arith, Pair.length-identity r) in
      let unit : List ℤ = get_or (identity r) j [] in
      let long : length unit ≡ r = Matrix.HasWidth-at integers r (identity r) j [] (Pair.HasWidth-identity r) there in
      item (combination integers r pulled m.v) j (Matrix.length-combination integers r pulled m.v inverse.width_v) below
      ∙ sym (Matrix.dot_times_vector integers r pulled m.v unit inverse.width_v)
      ∙ sym (Matrix.dot_times_vector integers n d m.u (times_vector integers m.v unit) inverse.width_u)
      ∙ ap (dot integers d) (inverse.inverse unit long)
      ∙ sym (item d j e below))
    where
      item : (v : List ℤ) (j : ℕ) → length v ≡ r → j < r → get_or v j (pos 0) ≡ dot integers v (get_or (identity r) j [])
      item v j e lt =
          let there : j < length (identity r) = omega (arith, Pair.length-identity r) in
          let unit : List ℤ = get_or (identity r) j [] in
          let long : length unit ≡ r = Matrix.HasWidth-at integers r (identity r) j [] (Pair.HasWidth-identity r) there in
          sym (Dot.dot_comm integers v unit
          ∙ VectorSteps.dot-only unit v j (long ∙ sym e) (omega (arith, long)) (λ k ne. Pair.identity-other r j k (λ z. ne (sym z)))
          ∙ ap (λ z. z *ℤ get_or v j (pos 0)) (Pair.identity-same r j lt)
          ∙ Z.one_mul (get_or v j (pos 0)))

  -- so it has the same values at the vectors
  values-applied : (d : List ℤ) (p : Matrices) → length d ≡ r → AreInverse r p → values_at (combination integers n d m.u) (applied n r m p) ≡ values_at d p
  values-applied d p e h =
      let count : length (times_matrix integers n p.u m.u) ≡ r = Pair.length-times_matrix n p.u m.u ∙ h.height_u in
      ap (λ k. combination integers k (combination integers n d m.u) (times_matrix integers r m.v p.v)) count
      ∙ sym (VectorSteps.combination-combination r r (combination integers n d m.u) m.v p.v inverse.width_v h.width_v)
      ∙ ap (λ l. combination integers r l p.v) (form_back d e)
      ∙ ap (λ k. combination integers k d p.v) (sym h.height_u)

  -- and the same steps gather it
  Gathers-applied : (d : List ℤ) (p last : Matrices) (steps : List Step) → length d ≡ r → AreInverse r p → Gathers d p steps last → Gathers (combination integers n d m.u) (applied n r m p) steps (applied n r m last) × AreInverse r last
  Gathers-applied d p last [] e h g = (ap (applied n r m) g, subst (AreInverse r) g h)
  Gathers-applied d p last (step ∷ steps) e h g =
      let many : length (values_at d p) ≡ r = Gathering.length-values d p (subst (λ k. HasWidth k p.v) (sym h.height_u) h.width_v) ∙ h.height_u in
      let next = Gathers-applied d (after step p) last steps e (after_inverse p (values_at d p) step h many g.0) g.1 in
      ((subst (IsLegal step) (sym (values-applied d p e h)) g.0, subst (λ k. Gathers (combination integers n d m.u) k steps (applied n r m last)) (applied-after p (values_at d p) step h many g.0) next.0), next.1)
    where
      after_inverse : (p : Matrices) (g : List ℤ) (step : Step) → AreInverse r p → length g ≡ r → IsLegal step g → AreInverse r (after step p)
      after_inverse p g (Swap i) h e legal =
          let above = Gathering.there g (i + 1) legal.1 in
          Pair.AreInverse-exchanged r i (i + 1) p (omega (arith, e)) (omega (arith, e)) h
      after_inverse p g (Combine t s q) h e legal =
          let source = Gathering.there g s legal.2 in
          subst (AreInverse r) (sym (Gathering.after-combined t s q p)) (Pair.AreInverse-combined r s t (neg_ℤ q) p (omega (arith, e)) (omega (arith, legal.0, e)) (λ z. legal.1 (sym z)) h)

  -- the first vector, of a pair that gathers its own first row
  pub gathered_first : (e : Equality) (p : Matrices) → 0 < r → AreInverse r p → IsGatheredPair (get_or p.u 0 []) p → e.form ≡ combination integers n (get_or p.u 0 []) m.u
      → (steps : List Step) × IsGatheredAt e m steps 0 (applied n r m p) × (get_or (values_at e.form (applied n r m p)) 0 (pos 0) ≡ pos 1)
  gathered_first e p some h g form =
      let d : List ℤ = get_or p.u 0 [] in
      let there : 0 < length p.u = omega (arith, h.height_u) in
      let long : length d ≡ r = Matrix.HasWidth-at integers r p.u 0 [] h.width_u there in
      let lifted = Gathers-applied d (unit_vectors r) g.last g.steps long (Pair.AreInverse-identity r) (subst (λ k. Gathers d (unit_vectors k) g.steps g.last) long g.gathers) in
      let inverse_last : AreInverse r g.last = lifted.1 in
      let gathers : Gathers e.form m g.steps (applied n r m g.last) = subst₂ (λ f k. Gathers f k g.steps (applied n r m g.last)) (sym form) applied-identity lifted.0 in
      let values : values_at e.form (applied n r m g.last) ≡ values_at d g.last = ap (λ f. values_at f (applied n r m g.last)) form ∙ values-applied d g.last long inverse_last in
      let one : get_or (values_at d p) 0 (pos 0) ≡ pos 1 =
      ap (λ k. get_or (combination integers k d p.v) 0 (pos 0)) h.height_u ∙ Matrix.combination-at integers r d p.v 0 h.width_v ∙ Pair.items_of r p 0 0 h some ∙ Pair.identity-same r 0 some in
      let unit : get_or (values_at d g.last) 0 (pos 0) ≢ pos 0 =
      ⊎_elim (λ (s : p ≡ g.last). λ z. absurd (omega (linear, subst (λ k. get_or (values_at d k) 0 (pos 0) ≡ pos 1) s one, z)))
      (λ s. λ z. absurd (omega (linear, s.0, z))) g.sign in
      let zero : (j : ℕ) → j ≢ 0 → get_or (values_at d g.last) j (pos 0) ≡ pos 0 = λ j ne. ⊎_elim (λ (z : get_or (values_at d g.last) 0 (pos 0) ≡ pos 0). absurd (unit z)) (λ z. z) (g.gathered 0 j (λ z. ne (sym z))) in
      let sign : (applied n r m p ≡ applied n r m g.last) ⊎ (applied n r m p ≡ negated 0 (applied n r m g.last)) =
      ⊎_elim (λ (s : p ≡ g.last). inl (ap (applied n r m) s)) (λ s. inr (ap (applied n r m) s.1 ∙ applied-negated g.last 0 inverse_last some)) g.sign in (
        g.steps,
        record {
          last = applied n r m g.last;
          gathers = gathers;
          there = omega (arith, Pair.length-times_matrix n g.last.u m.u, inverse_last.height_u);
          nonzero = λ z. unit (ap (λ l. get_or l 0 (pos 0)) (sym values) ∙ z);
          others = λ j ne. ap (λ l. get_or l j (pos 0)) values ∙ zero j ne;
          sign = sign;
        },
        ap (λ l. get_or l 0 (pos 0)) (ap (λ f. values_at f (applied n r m p)) form ∙ values-applied d p long h) ∙ one,
      )
