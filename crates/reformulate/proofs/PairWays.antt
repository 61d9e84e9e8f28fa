-- Charts after their vectors were replaced by a unimodular pair.
use Rattle.std.proofs.Common.{◌≡◌, ◌≢◌, ℕ, ◌<◌, ℤ, neg_ℤ, List, length, sym, ap, subst, ◌∙◌, arith}
use Rattle.std.specs.List.{swap}
use Rattle.exact_math.specs.Ring.{integers}
use Rattle.exact_math.specs.IntegerLaws as Z
use Rattle.exact_vectors.specs.Matrices.{HasWidth, combination, times_matrix, times_vector, transpose}
use Rattle.exact_vectors.specs.MatrixLaws as Matrix
use Rattle.unimodular_pair.specs.Gathering.{unit_vectors}
use Rattle.unimodular_pair.specs.GatheringLaws as Gathering
use Rattle.unimodular_pair.specs.Moves.{combined, exchanged, raised_item, raised_row}
use Rattle.unimodular_pair.specs.PairLaws as Pair
use Rattle.unimodular_pair.specs.Pairs.{AreInverse, Matrices, identity}
use Rattle.reformulate.proofs.ChartLaws.{IsChange, IsInverse}
use Rattle.reformulate.proofs.VectorSteps as VectorSteps

-- each matrix of the pair undoes the other
pub record AreBothInverse (r : ℕ) (p : Matrices) : Type 0 where
  pub inverse : AreInverse r p
  pub other : (z : List ℤ) → length z ≡ r → combination integers r (combination integers r z p.v) p.u ≡ z

-- two identity matrices
pub AreBothInverse-identity : (r : ℕ) → AreBothInverse r (unit_vectors r)
AreBothInverse-identity r = record {
  inverse = Pair.AreInverse-identity r;
  other = λ z e. Pair.combination-identity r (combination integers r z (identity r)) (Matrix.length-combination integers r z (identity r) (Pair.HasWidth-identity r)) ∙ Pair.combination-identity r z e;
}

-- a multiple of one row added to another
pub AreBothInverse-combined : (r t s : ℕ) (f : ℤ) (p : Matrices) → t < r → s < r → t ≢ s → AreBothInverse r p → AreBothInverse r (combined t s f p)
AreBothInverse-combined r t s f p ht hs ne h =
    let i = h.inverse in
    let t_there : t < length p.u = omega (arith, i.height_u) in
    let s_there : s < length p.u = omega (arith, i.height_u) in
    record {
      inverse = Pair.AreInverse-combined r t s f p ht hs ne i;
      other = λ z e.
          let g : List ℤ = combination integers r z p.v in
          let many : length g ≡ length p.u = Matrix.length-combination integers r z p.v i.width_v ∙ sym i.height_u in
          ap (λ l. combination integers r l (raised_row t s f p.u)) (Gathering.values-raised z r s t (neg_ℤ f) p.v i.width_v hs)
          ∙ ap (λ q. combination integers r (raised_item s t (neg_ℤ f) g) (raised_row t s q p.u)) (sym (Z.neg_neg f))
          ∙ Gathering.whole-raised r s t (neg_ℤ f) g p.u i.width_u many s_there t_there (λ k. ne (sym k))
          ∙ h.other z e;
    }

-- two rows in each other's place
pub AreBothInverse-exchanged : (r a b : ℕ) (p : Matrices) → a < r → b < r → a ≢ b → AreBothInverse r p → AreBothInverse r (exchanged a b p)
AreBothInverse-exchanged r a b p ha hb ne h =
    let i = h.inverse in
    let a_there : a < length p.u = omega (arith, i.height_u) in
    let b_there : b < length p.u = omega (arith, i.height_u) in
    record {
      inverse = Pair.AreInverse-exchanged r a b p ha hb i;
      other = λ z e.
          let g : List ℤ = combination integers r z p.v in
          let many : length g ≡ length p.u = Matrix.length-combination integers r z p.v i.width_v ∙ sym i.height_u in
          ap (λ l. combination integers r l (swap p.u a b)) (Gathering.values-swapped z r a b p.v i.width_v ha hb)
          ∙ Gathering.whole-swapped r a b g p.u i.width_u many a_there b_there ne
          ∙ h.other z e;
    }

-- the vectors that the first matrix makes of those of K, and the rows of V times the transpose of the second
abbrev pub replaced : ℕ → ℕ → Matrices → Matrices → Matrices
replaced n r p m = record { u = times_matrix integers n (transpose r p.v) m.u; v = transpose n (times_matrix integers n p.u (transpose r m.v)) }

-- they are other coordinates
pub change_of_pair : (n r : ℕ) (p m : Matrices) → AreBothInverse r p → IsInverse n r m → IsChange n r m (replaced n r p m) (λ y. combination integers r y p.u) (λ z. combination integers r z p.v)
change_of_pair n r p m h i =
    let q = h.inverse in
    let vectors : List (List ℤ) = transpose r m.v in
    let wide : HasWidth n vectors = subst (λ k. HasWidth k vectors) i.height_v (VectorSteps.HasWidth-transpose r m.v i.width_v) in
    let new : List (List ℤ) = times_matrix integers n p.u vectors in
    let wide_new = VectorSteps.HasWidth-product n p.u vectors wide in
    let many : length new ≡ r = Pair.length-times_matrix n p.u vectors ∙ q.height_u in
    record {
      height_u = Pair.length-times_matrix n (transpose r p.v) m.u ∙ Matrix.length-transpose integers r p.v q.width_v;
      width_u = VectorSteps.HasWidth-product n (transpose r p.v) m.u i.width_u;
      height_v = Matrix.length-transpose integers n new wide_new;
      width_v = subst (λ k. HasWidth k (transpose n new)) many (VectorSteps.HasWidth-transpose n new wide_new);
      long_there = λ y e. Matrix.length-combination integers r y p.u q.width_u;
      vectors = λ y e.
          Matrix.times_transpose integers n new y wide_new (e ∙ sym many)
          ∙ sym (VectorSteps.combination-combination n r y p.u vectors q.width_u wide)
          ∙ VectorSteps.combination-transpose n r m.v (combination integers r y p.u) i.height_v i.width_v;
      back = λ d e.
          Matrix.times_matrix_vector integers n (transpose r p.v) m.u d i.width_u
          ∙ Matrix.times_transpose integers r p.v (times_vector integers m.u d) q.width_v (Matrix.length-times_vector integers m.u d ∙ i.height_u ∙ sym q.height_v);
      undone = λ y e.
          VectorSteps.combination-combination r r y p.u p.v q.width_u q.width_v
          ∙ ap (combination integers r y) q.product
          ∙ Pair.combination-identity r y e;
      redone = h.other;
      long_back = λ z e. Matrix.length-combination integers r z p.v q.width_v;
    }
