-- Nodes that are split by single columns.
use Rattle.std.proofs.Common.{◌≡◌, ⊎_elim, inl, ℕ, ◌+◌, ◌-◌, ◌^◌, ◌<◌, ◌≤◌, ℤ, pos, ◌+ℤ◌, ◌≤ℤ◌, ◌<ℤ◌, true, List, [], ◌∷◌, ◌++◌, length, refl, subst, sym, ◌∙◌, arith}
use Rattle.std.specs.Prelude.{Option, nat_abs}
use Rattle.std.proofs.lemmas.Bool.{cases_lt}
use Rattle.std.proofs.lemmas.List.{length_push, get_or_append_left}
use Rattle.std.proofs.lemmas.List.Quantifiers.{Any-push}
use Rattle.exact_math.specs.IntegerRing.{linear}
use Rattle.whole_rows.specs.declared.bounds.Bounds.{Bounds}
use Rattle.whole_rows.specs.WholeRows.{WholeRows, bounds_at, reach, span}
use Rattle.farkas_rows.specs.declared.path.Slice.{Slice}
use Rattle.proof_tree.specs.declared.tree.Cut.{Cut}
use Rattle.proof_tree.specs.declared.tree.Move.{Move}
use Rattle.proof_tree.specs.declared.tree.Move.TheVariants.{Close, Split, Point}
use Rattle.proof_tree.specs.Trees.{IsOfSize, on_slice}
use Rattle.proof_tree.specs.Moves.{SplitsUnder, IsMove, IsValueOfPoint}
use Rattle.proof_tree.specs.Soundness.{on_slice-each, on_slice-forms}
use Rattle.plain_slices.specs.Shut.{IsColumn, IsFixedBy}
use Rattle.plain_slices.specs.PlainMoves.{IsPlainMove, IsPlainAnswer}
use Rattle.slice_branch.specs.ExcusedPaths.{IsExcusedPath}
use Rattle.slice_branch.specs.Framed.{IsAllowed, IsMarked}
use Rattle.slice_branch.specs.Places.{IsPathWithin, IsPlainFrom}

-- a column that is fixed stays so
fixed-more : (n : ℕ) (path : List Slice) (slice : Slice) (column : ℕ) → IsFixedBy n path column → IsFixedBy n (path ++ slice ∷ []) column
fixed-more n path slice column fixed = (fixed.0, fixed.1, omega (arith, length_push path slice, fixed.2), get_or_append_left path (slice ∷ []) fixed.1 fixed.0 fixed.2 ∙ fixed.3, fixed.4)

-- bounds within the limits
reach-bounds : (b : Bounds) → reach b ≤ 2 ^ 96 → IsOfSize (2 ^ 98) b.low × IsOfSize (2 ^ 98) b.high
reach-bounds b h =
    let low : nat_abs b.low ≤ 2 ^ 96 = omega arith in
    let high : nat_abs b.high ≤ 2 ^ 96 = omega arith in
    ((omega linear, omega linear), (omega linear, omega linear))

-- a number between two bounds within the limits
between : (b : Bounds) (lo count j : ℤ) → reach b ≤ 2 ^ 96 → lo ≡ b.low → lo +ℤ count ≡ b.high +ℤ pos 1 → pos 0 ≤ℤ j → j <ℤ count → IsOfSize (2 ^ 98) (lo +ℤ j)
between b lo count j small is_low is_last first last =
    let sides = reach-bounds b small in
    (omega (linear, is_low, first, sides.0.0), omega (linear, is_last, last, sides.1.1))

-- a path behind a slice more keeps the limits
pub within-more : (rows : WholeRows) (path : List Slice) (form : List ℤ) (beta : ℤ) → IsPathWithin rows path → length form ≡ length rows.box → span form rows.box ≤ 2 ^ 96 → IsOfSize (2 ^ 98) beta → IsPathWithin rows (on_slice path form beta)
within-more rows path form beta within dense light size = record {
  limits = within.limits;
  forms = on_slice-forms (length rows.box) path form beta within.forms dense;
  light = on_slice-each (λ (s : Slice). span s.form rows.box ≤ 2 ^ 96) path form beta within.light light;
  values = on_slice-each (λ (s : Slice). IsOfSize (2 ^ 98) s.beta) path form beta within.values size;
}

module _ (rows : WholeRows) (depth : ℕ) (path : List Slice) (plain : IsPlainFrom rows depth path) (best : Option ℤ) where
  -- the first column that no slice fixes is behind as many as there are plain slices
  reached : (cut : Cut) (move : IsPlainMove rows path best cut) → length path - depth ≤ move.column
  reached cut move = ⊎_elim (λ (before : move.column < length path - depth). absurd (move.free (plain.fixed move.column before))) (λ (behind : length path - depth ≤ move.column). behind) (cases_lt move.column (length path - depth))

  -- the answer of a plain node is a move there
  pub move_of_plain : (move : Move) → IsPlainAnswer rows path best move → IsMove rows path best ((depth + length rows.box) - length path) true move
  move_of_plain (Close line) h = h.1
  move_of_plain (Split cut) h = (h.1, (λ some. let d = reached cut h.0 in let b = plain.behind in omega (arith, d, b, h.0.is_column)), ((λ _. refl), (λ _. h.0.mark)))
  move_of_plain (Point x) h = h.2

  module _ (cut : Cut) (j : ℤ) (move : IsPlainMove rows path best cut) (splits : SplitsUnder rows best path cut) (first : pos 0 ≤ℤ j) (last : j <ℤ cut.count) where
    abbrev beta : ℤ
    beta = cut.lo +ℤ j

    abbrev slice : Slice
    slice = record { form = cut.form; beta = beta }

    here : IsFixedBy (length rows.box) (on_slice path cut.form beta) move.column
    here = Any-push (λ (s : Slice). IsColumn (length rows.box) move.column s.form) path slice (inl move.form)

    fixed : (column : ℕ) → column < length (on_slice path cut.form beta) - depth → IsFixedBy (length rows.box) (on_slice path cut.form beta) column
    fixed column h =
        ⊎_elim (λ (before : column < move.column). fixed-more (length rows.box) path slice column (move.first column before))
        (λ (behind : move.column ≤ column).
        let same : move.column ≡ column = let d = reached cut move in let b = plain.behind in omega (arith, length_push path slice, d, b, h, behind) in
        subst (IsFixedBy (length rows.box) (on_slice path cut.form beta)) same here)
        (cases_lt column move.column)

    -- and so is the path of each of its slices
    pub below_plain : IsPlainFrom rows depth (on_slice path cut.form beta)
    below_plain = record {
      within = within-more rows path cut.form beta plain.within splits.form.dense splits.form.light
          (between (bounds_at rows move.column) cut.lo cut.count j (plain.within.limits.light.reaches move.column (record { low = pos 0; high = pos 0 }) move.is_column) move.lo move.last first last);
      early = plain.early;
      behind = let b = plain.behind in omega (arith, length_push path slice, b);
      short = let d = reached cut move in let b = plain.behind in omega (arith, length_push path slice, d, b, move.is_column);
      fixed = fixed;
    }

    -- one slice more leaves one less
    pub lower_plain : ((depth + length rows.box) - length (on_slice path cut.form beta)) + 1 ≤ (depth + length rows.box) - length path
    lower_plain = let d = reached cut move in let b = plain.behind in omega (arith, length_push path slice, d, b, move.is_column)

-- the answer of a plain node that is excused is allowed
pub plain_is_allowed : (rows : WholeRows) (path : List Slice) (best : Option ℤ) → IsValueOfPoint rows best → IsExcusedPath rows path best → (move : Move) → IsPlainAnswer rows path best move → IsAllowed rows path best move
plain_is_allowed rows path best value excused (Close line) h = h.1
plain_is_allowed rows path best value excused (Split cut) h = (h.1, subst (IsMarked rows path best cut) (sym h.0.mark) (h.0, excused), value)
plain_is_allowed rows path best value excused (Point x) h = h.2
