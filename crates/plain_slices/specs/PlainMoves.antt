-- What is done at a node that is split by single columns.
use Rattle.std.specs.Prelude.{◌≡◌, ℕ, ◌<◌, ℤ, pos, ◌+ℤ◌, List, length, Option, None}
use Rattle.whole_rows.specs.WholeRows.{WholeRows, bounds_at}
use Rattle.farkas_rows.specs.declared.path.Slice.{Slice}
use Rattle.farkas_rows.specs.Inequalities.{unit}
use Rattle.proof_tree.specs.declared.tree.Cut.{Cut}
use Rattle.proof_tree.specs.declared.tree.Mark.TheVariants.{Plain}
use Rattle.proof_tree.specs.declared.tree.Move.{Move}
use Rattle.proof_tree.specs.declared.tree.Move.TheVariants.{Close, Split, Point}
use Rattle.proof_tree.specs.Moves.{ClosesUnder, SplitsUnder, Improves}
use Rattle.plain_slices.specs.Shut.{IsFixedBy, Shut}

-- The node is not shut, and the split is that of the first column that no slice of the path fixes: from its lower bound to its
-- upper bound.
pub record IsPlainMove (rows : WholeRows) (path : List Slice) (best : Option ℤ) (cut : Cut) : Type 0 where
  pub not_shut : Shut rows path best → ⊥
  pub column : ℕ
  pub is_column : column < length rows.box
  pub free : IsFixedBy (length rows.box) path column → ⊥
  pub first : (other : ℕ) → other < column → IsFixedBy (length rows.box) path other
  pub form : cut.form ≡ unit (length rows.box) column
  pub lo : cut.lo ≡ (bounds_at rows column).low
  pub last : cut.lo +ℤ cut.count ≡ (bounds_at rows column).high +ℤ pos 1
  pub mark : cut.mark ≡ Plain

-- A shut node is closed by a line that refutes it. One that is not shut is split on its first column that no slice fixes, both of
-- whose ends are refuted, or where there is none, has a point that is better than the best one.
abbrev pub IsPlainAnswer : WholeRows → List Slice → Option ℤ → Move → Type 0
IsPlainAnswer rows path best (Close line) = Shut rows path best × ClosesUnder rows best path None line
IsPlainAnswer rows path best (Split cut) = IsPlainMove rows path best cut × SplitsUnder rows best path cut
IsPlainAnswer rows path best (Point x) = (Shut rows path best → ⊥) × ((column : ℕ) → column < length rows.box → IsFixedBy (length rows.box) path column) × Improves rows best path x
