-- A reduced frame, by the tables that hold it.
use Rattle.std.proofs.Common.{◌≡◌, ℕ, zero, suc, ◌*◌, ◌<◌, ◌≤◌, ℤ, pos, ◌*ℤ◌, List, [], ◌∷◌, length, get_or, refl, sym, ap, ap₂, subst, subst₂, ◌∙◌, arith}
use Rattle.std.proofs.lemmas.List.{ext_get_or}
use Rattle.exact_math.specs.Ring.{integers}
use Rattle.exact_vectors.specs.DotLaws as Dot
use Rattle.exact_vectors.specs.Matrices.{HasWidth, combination, times_matrix, times_vector, transpose}
use Rattle.exact_vectors.specs.MatrixLaws as Matrix
use Rattle.exact_vectors.specs.SumLaws as Sum
use Rattle.exact_vectors.specs.Vectors.{zeros}
use Rattle.gram_minors.specs.Orthogonalisation.{IsIndependent, IsLovaszReduced, rational_rows}
use Rattle.lattice_reduce.specs.Beside.{ExcusedBeside, IsShifted, IsShortBeside, ReducesBeside}
use Rattle.lattice_reduce.specs.Numbers.{items_of}
use Rattle.spaces.specs.Tables.{Table, rows_in}
use Rattle.spaces.specs.TableLaws as Tables
use Rattle.unimodular_pair.specs.PairLaws as Pair
use Rattle.unimodular_pair.specs.Pairs.{Matrices, matrices_in}
use Rattle.unimodular_pair.specs.declared.step.Step.{Step}
use Rattle.reformulate.proofs.ChartLaws.{IsInverse}
use Rattle.reformulate.proofs.FrameLaws.{IsInverse-reduced}
use Rattle.reformulate.proofs.MatrixSteps.{row_of_transpose}
use Rattle.reformulate.proofs.VectorSteps as VectorSteps
use Rattle.reformulate.specs.Bases.{HoldBasis}
use Rattle.reformulate.specs.Charts.{Chart}
use Rattle.reformulate.specs.Excuses.{BackLeaves, MatricesStay}
use Rattle.reformulate.specs.Framing.{vectors_of, IsReductionOf, ReducesTo}
use Rattle.reformulate.specs.Substitutions.{Substitution, IsSubstitution}

-- ---- independent vectors

-- the first values of a function
abbrev pub first_values : (ℕ → ℤ) → ℕ → List ℤ
first_values y zero = []
first_values y (suc k) = y 0 ∷ first_values (λ i. y (suc i)) k

length-first_values : (y : ℕ → ℤ) (k : ℕ) → length (first_values y k) ≡ k
length-first_values y zero = refl
length-first_values y (suc k) = ap suc (length-first_values (λ i. y (suc i)) k)

first_values-at : (y : ℕ → ℤ) (k i : ℕ) → i < k → get_or (first_values y k) i (pos 0) ≡ y i
first_values-at y zero i h = absurd (omega arith)
first_values-at y (suc k) zero h = refl
first_values-at y (suc k) (suc i) h = first_values-at (λ i. y (suc i)) k i (omega arith)

-- where V K is the identity, the vectors of K are linearly independent
pub independent : (n r : ℕ) (m : Matrices) → IsInverse n r m → IsIndependent integers n (items_of (transpose r m.v)) r
independent n r m h y sums k lt =
    let factors : List ℤ = first_values y r in
    let long : length factors ≡ r = length-first_values y r in
    let image : times_vector integers m.v factors ≡ zeros integers n =
    ext_get_or (pos 0) (times_vector integers m.v factors) (zeros integers n) (Matrix.length-times_vector integers m.v factors ∙ h.height_v ∙ sym (Matrix.length-zeros integers n))
    (λ i below.
    let inside : i < length m.v = omega (arith, Matrix.length-times_vector integers m.v factors) in
    let within : i < n = omega (arith, inside, h.height_v) in
    let row : List ℤ = get_or m.v i [] in
    Matrix.times_vector-at integers m.v factors i (pos 0) [] inside
    ∙ Dot.dot_comm integers row factors
    ∙ Sum.dot-by_index integers factors row r (omega (arith, long))
    ∙ Sum.sum_below-same integers r (λ j. get_or factors j (pos 0) *ℤ get_or row j (pos 0)) (λ j. y j *ℤ items_of (transpose r m.v) j i)
    (λ j below_r. ap₂ ◌*ℤ◌ (first_values-at y r j below_r) (sym (ap (λ l. get_or l i (pos 0)) (row_of_transpose r m.v j h.width_v below_r) ∙ Matrix.column-at integers m.v j i [] (pos 0) inside)))
    ∙ sums i within
    ∙ sym (Matrix.zeros-at integers n i)) in
    let none : times_vector integers m.u (zeros integers n) ≡ factors = ap (times_vector integers m.u) (sym image) ∙ h.inverse factors long in
    let there : k < length m.u = omega (arith, h.height_u) in
    sym (first_values-at y r k lt) ∙ ap (λ l. get_or l k (pos 0)) (sym none) ∙ Matrix.times_vector-at integers m.u (zeros integers n) k (pos 0) [] there ∙ Dot.dot-zeros_right integers n (get_or m.u k [])

-- ---- the chart that two tables hold

pub inverse_in : (back lines : Table ℤ) → HoldBasis back lines → ((y : List ℤ) → length y ≡ lines.width → times_vector integers (rows_in back) (times_vector integers (rows_in lines) y) ≡ y) → IsInverse lines.rows lines.width (matrices_in back lines)
inverse_in back lines h inverse = record {
  height_u = Tables.length-rows_in back ∙ h.height;
  width_u = subst (λ k. HasWidth k (rows_in back)) h.width (Tables.HasWidth-rows_in back h.size_back);
  height_v = Tables.length-rows_in lines;
  width_v = Tables.HasWidth-rows_in lines h.size_lines;
  inverse = inverse;
}

-- the vectors in a table of their own
pub record AreVectors (back lines vectors : Table ℤ) : Type 0 where
  pub height : vectors.rows ≡ lines.width
  pub width : vectors.width ≡ lines.rows
  pub rows : rows_in vectors ≡ transpose lines.width (rows_in lines)

-- they are those of the chart
vectors_are : (back lines vectors : Table ℤ) → HoldBasis back lines → AreVectors back lines vectors → rows_in vectors ≡ vectors_of (matrices_in back lines)
vectors_are back lines vectors h v = v.rows ∙ ap (λ k. transpose k (rows_in lines)) (sym (Tables.length-rows_in back ∙ h.height))

pub independent_vectors : (back lines vectors : Table ℤ) → HoldBasis back lines → AreVectors back lines vectors → ((y : List ℤ) → length y ≡ lines.width → times_vector integers (rows_in back) (times_vector integers (rows_in lines) y) ≡ y)
    → IsIndependent integers vectors.width (items_of (rows_in vectors)) vectors.rows
independent_vectors back lines vectors h v inverse =
    subst₂ (λ n r. IsIndependent integers n (items_of (rows_in vectors)) r) (sym v.width) (sym v.height)
    (subst (λ l. IsIndependent integers lines.rows (items_of l) lines.width) (sym v.rows) (independent lines.rows lines.width (matrices_in back lines) (inverse_in back lines h inverse)))

-- an excuse of the reduction of the table
pub excused : (base : List ℤ) (back lines vectors : Table ℤ) (steps : List Step) → length base ≡ lines.rows → HoldBasis back lines → AreVectors back lines vectors → ExcusedBeside vectors.width (rows_in vectors) base steps
    → ExcusedBeside (length base) (vectors_of (matrices_in back lines)) base steps
excused base back lines vectors steps e h v x = subst₂ (λ n l. ExcusedBeside n l base steps) (v.width ∙ sym e) (vectors_are back lines vectors h v) x

-- what reduction answers of the table
pub record IsAnswered (base : List ℤ) (vectors basis : Table ℤ) (pair : Matrices) (last : List ℤ) (steps : List Step) : Type 0 where
  pub height : basis.rows ≡ vectors.rows
  pub width : basis.width ≡ vectors.width
  pub legal : ReducesBeside vectors.width (rows_in vectors) base steps (rows_in basis) pair last
  pub reduced : IsLovaszReduced vectors.width (rational_rows (items_of (rows_in basis))) vectors.rows
  pub product : rows_in basis ≡ times_matrix integers vectors.width pair.u (rows_in vectors)
  pub shifted : IsShifted vectors.width (rows_in basis) base last
  pub short : IsShortBeside vectors.width (rows_in basis) last

-- the pair has a row for each vector
pub pair_rows : (base : List ℤ) (vectors basis : Table ℤ) (pair : Matrices) (last : List ℤ) (steps : List Step) → IsAnswered base vectors basis pair last steps → length pair.u ≡ vectors.rows
pair_rows base vectors basis pair last steps a = sym (sym (Tables.length-rows_in basis) ∙ ap length a.product ∙ Pair.length-times_matrix vectors.width pair.u (rows_in vectors)) ∙ a.height

-- the product of the transpose and the rows of V leaves the range
pub back_leaves : (base : List ℤ) (back lines vectors basis turned : Table ℤ) (pair : Matrices) (last : List ℤ) (steps : List Step) → length base ≡ lines.rows → HoldBasis back lines → AreVectors back lines vectors → IsAnswered base vectors basis pair last steps
    → rows_in turned ≡ transpose (length pair.u) pair.v → ¬ (MatricesStay back.width (rows_in turned) (rows_in back)) → BackLeaves (record { base = base; pair = matrices_in back lines }) steps
back_leaves base back lines vectors basis turned pair last steps e h v a t leaves =
    let count : length pair.u ≡ length (rows_in back) = pair_rows base vectors basis pair last steps a ∙ v.height ∙ sym h.height ∙ sym (Tables.length-rows_in back) in
    record {
      pair = pair;
      end = rows_in basis;
      base = last;
      reduces = subst₂ (λ n l. ReducesBeside n l base steps (rows_in basis) pair last) (v.width ∙ sym e) (vectors_are back lines vectors h v) a.legal;
      reduced = subst₂ (λ n r. IsLovaszReduced n (rational_rows (items_of (rows_in basis))) r) (v.width ∙ sym e) (v.height ∙ sym (Tables.length-rows_in back ∙ h.height)) a.reduced;
      short = subst (λ n. IsShortBeside n (rows_in basis) last) (v.width ∙ sym e) a.short;
      leaves = λ stays. leaves (subst₂ (λ n l. MatricesStay n l (rows_in back)) (e ∙ sym h.width) (ap (λ k. transpose k pair.v) (sym count) ∙ sym t) stays);
    }

-- the frame that is made
pub record IsMade (back basis turned new_lines new_back : Table ℤ) (pair : Matrices) : Type 0 where
  pub turned_rows : rows_in turned ≡ transpose (length pair.u) pair.v
  pub turned_height : turned.rows ≡ length pair.u
  pub height : new_lines.rows ≡ basis.width
  pub width : new_lines.width ≡ basis.rows
  pub size : length new_lines.items ≡ new_lines.rows * new_lines.width
  pub lines : rows_in new_lines ≡ transpose basis.width (rows_in basis)
  pub back_height : new_back.rows ≡ turned.rows
  pub back_width : new_back.width ≡ back.width
  pub back_size : length new_back.items ≡ new_back.rows * new_back.width
  pub back_rows : rows_in new_back ≡ times_matrix integers back.width (rows_in turned) (rows_in back)

module _ (base : List ℤ) (back lines vectors basis turned new_lines new_back : Table ℤ) (pair : Matrices) (last : List ℤ) (steps : List Step) (e : length base ≡ lines.rows) (h : HoldBasis back lines) (v : AreVectors back lines vectors) (a : IsAnswered base vectors basis pair last steps) (made : IsMade back basis turned new_lines new_back pair) where
  abbrev pub from : Chart
  from = record { base = base; pair = matrices_in back lines }

  count : length (rows_in back) ≡ lines.width
  count = Tables.length-rows_in back ∙ h.height

  pub reduces_to : ReducesTo (record { base = base; pair = matrices_in back lines }) steps (record { base = last; pair = matrices_in new_back new_lines })
  reduces_to = record {
    pair = pair;
    end = rows_in basis;
    reduces = subst₂ (λ n l. ReducesBeside n l base steps (rows_in basis) pair last) (v.width ∙ sym e) (vectors_are back lines vectors h v) a.legal;
    reduced = subst₂ (λ n r. IsLovaszReduced n (rational_rows (items_of (rows_in basis))) r) (v.width ∙ sym e) (v.height ∙ sym count) a.reduced;
    product = a.product ∙ ap₂ (λ n l. times_matrix integers n pair.u l) (v.width ∙ sym e) (vectors_are back lines vectors h v);
    shifted = subst (λ n. IsShifted n (rows_in basis) base last) (v.width ∙ sym e) a.shifted;
    short = subst (λ n. IsShortBeside n (rows_in basis) last) (v.width ∙ sym e) a.short;
    lines = made.lines ∙ ap (λ k. transpose k (rows_in basis)) (a.width ∙ v.width ∙ sym e);
    back = made.back_rows ∙ ap₂ (λ n l. times_matrix integers n l (rows_in back)) (h.width ∙ sym e) (made.turned_rows ∙ ap (λ k. transpose k pair.v) (pair_rows base vectors basis pair last steps a ∙ v.height ∙ sym count));
  }

  pub length_last : length last ≡ new_lines.rows
  length_last =
      let wide : HasWidth vectors.width (rows_in basis) = subst (HasWidth vectors.width) (sym a.product) (VectorSteps.HasWidth-product vectors.width pair.u (rows_in vectors) (subst (λ k. HasWidth k (rows_in vectors)) refl vectors_wide)) in
      ap length a.shifted.sum ∙ Matrix.length-add integers vectors.width base (combination integers vectors.width a.shifted.factors (rows_in basis)) (e ∙ sym v.width) (Matrix.length-combination integers vectors.width a.shifted.factors (rows_in basis) wide) ∙ sym a.width ∙ sym made.height
    where
      vectors_wide : HasWidth vectors.width (rows_in vectors)
      vectors_wide = subst₂ HasWidth (Tables.length-rows_in lines ∙ sym v.width) (sym v.rows) (VectorSteps.HasWidth-transpose lines.width (rows_in lines) (Tables.HasWidth-rows_in lines h.size_lines))

  pub is_substitution : ((y : List ℤ) → length y ≡ lines.width → times_vector integers (rows_in back) (times_vector integers (rows_in lines) y) ≡ y) → IsSubstitution (record { to_work = record { base = last; lines = new_lines }; back = new_back })
  is_substitution inverse =
      let rows : new_lines.rows ≡ lines.rows = made.height ∙ a.width ∙ v.width in
      let width : new_lines.width ≡ lines.width = made.width ∙ a.height ∙ v.height in
      let back_rows : new_back.rows ≡ new_lines.width = made.back_height ∙ made.turned_height ∙ pair_rows base vectors basis pair last steps a ∙ v.height ∙ sym width in
      let kept = IsInverse-reduced lines.rows lines.width from (record { base = last; pair = matrices_in new_back new_lines }) steps reduces_to e (inverse_in back lines h inverse) in
      record {
        shaped = record {
          base = length_last;
          height = back_rows;
          width = made.back_width ∙ h.width ∙ sym rows;
          size_lines = made.size;
          size_back = made.back_size;
          narrow = subst (λ k. k ≤ 256) (sym rows) h.narrow;
          few = subst (λ k. k ≤ 256) (sym width) h.few;
        };
        inverse = λ y f. kept.inverse y (f ∙ width);
      }

  pub is_reduction : ((y : List ℤ) → length y ≡ lines.width → times_vector integers (rows_in back) (times_vector integers (rows_in lines) y) ≡ y) → (s : Substitution) → s ≡ record { to_work = record { base = last; lines = new_lines }; back = new_back } → IsReductionOf (record { base = base; pair = matrices_in back lines }) s
  is_reduction inverse s is =
      subst (IsReductionOf from) (sym is)
      (record { steps = steps; reduces = reduces_to; shaped = is_substitution inverse; columns = made.height ∙ a.width ∙ v.width ∙ sym e; dimension = made.width ∙ a.height ∙ v.height ∙ sym count })
