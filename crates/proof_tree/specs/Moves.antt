-- What may be done at a node of a search.
use Rattle.std.specs.Prelude.{◌≡◌, ℕ, ◌+◌, ◌^◌, ◌≤◌, ◌↔◌, max, Bool, IsTrue, ℤ, pos, negsuc, ◌+ℤ◌, ◌-ℤ◌, ◌≤ℤ◌, ◌<ℤ◌, List, [], ◌∷◌, Option, None, Some, IfSome}
use Rattle.std.specs.Option.{IsSomeAnd}
use Rattle.whole_rows.specs.declared.bounds.Bounds.{Bounds}
use Rattle.whole_rows.specs.WholeRows.{WholeRows, Meets, cut_value}
use Rattle.farkas_rows.specs.declared.line.CutUse.{CutUse}
use Rattle.farkas_rows.specs.declared.line.Line.{Line}
use Rattle.farkas_rows.specs.declared.path.Slice.{Slice}
use Rattle.farkas_rows.specs.Inequalities.{Inequality, below, above}
use Rattle.farkas_rows.specs.Refutes.{Refutes, IsOnPath}
use Rattle.proof_tree.specs.declared.tree.Cut.{Cut}
use Rattle.proof_tree.specs.declared.tree.Mark.TheVariants.{Plain}
use Rattle.proof_tree.specs.declared.tree.Move.{Move}
use Rattle.proof_tree.specs.declared.tree.Move.TheVariants.{Close, Split, Point}
use Rattle.proof_tree.specs.Trees.{on_slice, IsOfSize, IsSplitForm}

-- `now` is no higher than `before`; none is above every value
abbrev pub IsNoHigher : Option ℤ → Option ℤ → Type 0
IsNoHigher now before = IfSome before (λ value. IsSomeAnd now (λ lower. lower ≤ℤ value))

-- the value, where there is one, is the cut value of a point
abbrev pub IsValueOfPoint : WholeRows → Option ℤ → Type 0
IsValueOfPoint rows value = IfSome value (λ number. (x : List ℤ) × Meets rows x × (number ≡ cut_value rows x))

-- the number, or 0 where it is negative
abbrev pub nonnegative_part : ℤ → ℕ
nonnegative_part (pos n) = n
nonnegative_part (negsuc n) = 0

-- the greatest difference between the two bounds of a column, and at least 0
abbrev pub widest : List Bounds → ℕ
widest [] = 0
widest (bounds ∷ box) = max (nonnegative_part (bounds.high -ℤ bounds.low)) (widest box)

-- the line refutes the path with the end, and a cut in it has the best value
pub record ClosesUnder (rows : WholeRows) (best : Option ℤ) (path : List Slice) (end : Option Inequality) (line : Line) : Type 0 where
  pub refutes : Refutes rows path end line
  pub cut : IfSome line.cut (λ (cut : CutUse). best ≡ Some cut.value)

-- A split whose two ends are closed, with no more slices than the widest column has values.
pub record SplitsUnder (rows : WholeRows) (best : Option ℤ) (path : List Slice) (cut : Cut) : Type 0 where
  pub form : IsSplitForm rows cut.form
  pub lo : IsOfSize (2 ^ 97) cut.lo
  pub count : (pos 0 ≤ℤ cut.count) × (cut.count ≤ℤ pos (2 ^ 98))
  pub narrow : cut.count ≤ℤ pos (widest rows.box + 1)
  pub below : ClosesUnder rows best path (Some (below cut.form cut.lo)) cut.below
  pub above : ClosesUnder rows best path (Some (above cut.form (cut.lo +ℤ cut.count))) cut.above

-- a point on the path that is better than the best one
pub record Improves (rows : WholeRows) (best : Option ℤ) (path : List Slice) (x : List ℤ) : Type 0 where
  pub meets : Meets rows x
  pub on_path : IsOnPath path x
  pub better : IfSome best (λ value. cut_value rows x <ℤ value)

-- The move of a node at a place of this height, which is plain or not: a split into slices wants a height of at least 1, and is
-- marked plain exactly where the place is.
abbrev pub IsMove : WholeRows → List Slice → Option ℤ → ℕ → Bool → Move → Type 0
IsMove rows path best height plain (Close line) = ClosesUnder rows best path None line
IsMove rows path best height plain (Split cut) = SplitsUnder rows best path cut × (pos 1 ≤ℤ cut.count → 1 ≤ height) × (cut.mark ≡ Plain ↔ IsTrue plain)
IsMove rows path best height plain (Point x) = Improves rows best path x

module _ {Place : Type 0} (stands : WholeRows → Place → List Slice → Option ℤ → Type 0) (height : WholeRows → Place → List Slice → ℕ) (is_plain : Place → Bool) where
  -- the place stands for the path under the best value, and the split is a move there that is allowed
  pub record Branches (allows : WholeRows → List Slice → Option ℤ → Move → Type 0) (rows : WholeRows) (place : Place) (cut : Cut) (path : List Slice) (best : Option ℤ) : Type 0 where
    pub here : stands rows place path best
    pub chosen : IsMove rows path best (height rows place path) (is_plain place) (Split cut)
    pub allowed : allows rows path best (Split cut)

  -- The place of the slice with the value beta: it stands there under each value under which its parent stands, it is lower than
  -- its parent, and plain where its parent is.
  pub record IsChildOf (rows : WholeRows) (parent : Place) (path : List Slice) (form : List ℤ) (beta : ℤ) (child : Place) : Type 0 where
    pub here : (best : Option ℤ) → stands rows parent path best → stands rows child (on_slice path form beta) best
    pub lower : height rows child (on_slice path form beta) + 1 ≤ height rows parent path
    pub plain : IsTrue (is_plain parent) → IsTrue (is_plain child)
