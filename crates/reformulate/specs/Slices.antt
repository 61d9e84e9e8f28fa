-- Slices of a frame: the points at which a form on its coordinates has one value.
use Rattle.std.specs.Prelude.{◌≡◌, ◌⊎◌, ℕ, ◌+◌, ◌<◌, ℤ, pos, ◌+ℤ◌, List, [], ◌∷◌, ◌++◌, length, map, get_or}
use Rattle.std.specs.List.{remove}
use Rattle.exact_math.specs.Ring.{integers}
use Rattle.exact_vectors.specs.Matrices.{column, combination, times_matrix}
use Rattle.exact_vectors.specs.Range.{StaysInRange}
use Rattle.exact_vectors.specs.Vectors.{dot, zeros}
use Rattle.spaces.specs.Maps.{AffineMap}
use Rattle.spaces.specs.Multiples.{with_multiple, MultipleStays}
use Rattle.spaces.specs.Tables.{Table, row_at, rows_in}
use Rattle.unimodular_pair.specs.Pairs.{AreInverse, Matrices, matrices_in}
use Rattle.reformulate.specs.Bases.{HoldBasis}
use Rattle.reformulate.specs.Charts.{Chart, chart_of}
use Rattle.reformulate.specs.Excuses.{BackLeaves, MatricesStay, ReducingLeaves}
use Rattle.reformulate.specs.Frames.{IsFrame}
use Rattle.reformulate.specs.Framing.{without_vector, Reach}
use Rattle.reformulate.specs.Solutions.{Meets}
use Rattle.reformulate.specs.Substitutions.{Substitution, columns_of, dimension_of, point_of, IsSubstitution}
use Rattle.reformulate.specs.declared.equality.Equality.{Equality}
use Rattle.reformulate.specs.declared.outcome.FrameExcuse.{FrameExcuse}
use Rattle.reformulate.specs.declared.outcome.FrameExcuse.TheVariants as excuses

-- the pair `p` of r rows applied to the vectors: the rows of V combine as the rows of its u say, and the vectors of K as the columns of its v do
abbrev pub applied : ℕ → ℕ → Matrices → Matrices → Matrices
applied n r m p = record { u = times_matrix integers n p.u m.u; v = times_matrix integers r m.v p.v }

-- The equality d V x = beta + d V x0: the points x0 + K y with d y = beta are those of the frame's points that meet it.
abbrev pub slice_equality : Substitution → List ℤ → ℤ → Equality
slice_equality s d beta =
    let form = combination integers (columns_of s) d (rows_in s.back) in
    record { form = form; side = beta +ℤ dot integers form s.to_work.base }

-- what is left when the first vector of the pair leaves: x0 moves by beta times it
abbrev pub sliced : ℕ → ℕ → Chart → Matrices → ℤ → Chart
sliced n r c p beta = without_vector c.base (applied n r c.pair p) 0 beta

-- the numbers on the way stay in range: beta times the first vector of the pair, x0 and the entries of K, and those of V
pub record SliceStays (s : Substitution) (p : Matrices) (beta : ℤ) : Type 0 where
  pub shift : MultipleStays beta (column integers p.v 0) (zeros integers (dimension_of s))
  pub base : (i : ℕ) → i < columns_of s → StaysInRange (get_or s.to_work.base i (pos 0)) (row_at s.to_work.lines i) (with_multiple beta (column integers p.v 0) (zeros integers (dimension_of s)))
  pub lines : (i j : ℕ) → i < columns_of s → j + 1 < dimension_of s → StaysInRange (pos 0) (row_at s.to_work.lines i) (column integers (map (λ row. remove row 0) p.v) j)
  pub back : MatricesStay (columns_of s) (remove p.u 0) (rows_in s.back)

-- The frame of a slice: its points are the frame's points at which the form d on the coordinates is beta, which meet the equality of the slice.
pub record IsSlice (s : Substitution) (d : List ℤ) (beta : ℤ) (t : Substitution) : Type 0 where
  pub columns : columns_of t ≡ columns_of s
  pub dimension : dimension_of t + 1 ≡ dimension_of s
  pub points : (y : List ℤ) → length y ≡ dimension_of s → (dot integers d y ≡ beta → Meets (point_of s y) (slice_equality s d beta)) × (Meets (point_of s y) (slice_equality s d beta) → dot integers d y ≡ beta)
  pub frame : (equalities : List Equality) → IsFrame equalities s → IsFrame (equalities ++ slice_equality s d beta ∷ []) t
  pub reach : (equalities : List Equality) → Reach (columns_of s) equalities (chart_of s) → Reach (columns_of s) (equalities ++ slice_equality s d beta ∷ []) (chart_of t)

-- the excuse of a slice: a number on the way leaves the range, or one of the reduction that follows does; its steps are those of the reduction
abbrev pub SliceLeaves : Substitution → Matrices → ℤ → FrameExcuse → Type 0
SliceLeaves s p beta (excuses.Reduce excuse) = ReducingLeaves (sliced (columns_of s) (dimension_of s) (chart_of s) p beta) (excuses.Reduce excuse)
SliceLeaves s p beta (excuses.Product steps) =
    ((steps ≡ []) × ¬ (SliceStays s p beta)) ⊎ BackLeaves (sliced (columns_of s) (dimension_of s) (chart_of s) p beta) steps

-- what is left of the maps without the first vector
pub record IsApplied (s : Substitution) (p : Matrices) (beta : ℤ) (to_work : AffineMap) (back : Table ℤ) : Type 0 where
  pub old : IsSubstitution s
  pub inverse : AreInverse (dimension_of s) p
  pub chart : record { base = to_work.base; pair = matrices_in back to_work.lines } ≡ sliced (columns_of s) (dimension_of s) (chart_of s) p beta
  pub base : length to_work.base ≡ to_work.lines.rows
  pub shape : HoldBasis back to_work.lines
