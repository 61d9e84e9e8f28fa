-- What is read off a line that refutes one end of a form at a node.
use Rattle.std.specs.Prelude.{◌≡◌, ℕ, ◌+◌, ◌*◌, ◌==◌, true, false, ℤ, pos, ◌+ℤ◌, neg_ℤ, List, length, map, Option, Some, IfSome}
use Rattle.exact_math.specs.Ring.{integers}
use Rattle.exact_math.specs.Rational.{ℚ, whole, ◌-ℚ◌, ◌/ℚ◌}
use Rattle.exact_vectors.specs.Vectors.{dot, sum}
use Rattle.whole_rows.specs.WholeRows.{WholeRows, IsWithinLimits}
use Rattle.farkas_rows.specs.declared.line.Use.{Use}
use Rattle.farkas_rows.specs.declared.line.CutUse.{CutUse}
use Rattle.farkas_rows.specs.declared.line.Line.{Line}
use Rattle.farkas_rows.specs.declared.path.Slice.{Slice}
use Rattle.farkas_rows.specs.Inequalities.{Inequality, below, above}
use Rattle.farkas_rows.specs.Refutes.{Refutes, HasForms, multipliers, used}

-- the number of the end's inequality: two for each row, column and slice come before it
abbrev pub end_number : WholeRows → List Slice → ℕ
end_number rows path = 2 * (length rows.rows + length rows.box + length path)

-- the multiplier of the inequality of this number in a line, and 0 where the line does not use it
abbrev pub times_of : ℕ → Line → ℤ
times_of number line = sum integers (map (λ (item : Use). elim (item.index == number) [ true ↦ item.times | false ↦ pos 0 ]) line.items)

-- by how much the limits that a line combines come to less than 0
abbrev pub shortfall : WholeRows → List Slice → Inequality → Line → ℤ
shortfall rows path end line = neg_ℤ (dot integers (multipliers line) (map (λ (inequality : Inequality). inequality.limit) (used rows path (Some end) line)))

-- by how much the form at any point of the node is past the end: the shortfall over the multiplier of the end
abbrev pub margin : WholeRows → List Slice → Inequality → Line → ℚ
margin rows path end line = whole (shortfall rows path end line) /ℚ whole (times_of (end_number rows path) line)

-- the line refutes the end at the node with this cut, and uses no other cut
pub record RefutesEnd (rows : WholeRows) (path : List Slice) (cut : Option ℤ) (end : Inequality) (line : Line) : Type 0 where
  pub refutes : Refutes rows path (Some end) line
  pub same_cut : IfSome line.cut (λ (used_cut : CutUse). cut ≡ Some used_cut.value)

-- Rows and a path of one number of columns, a form over them, and lines that refute the values of the form below `lo` and from `lo + count` on.
pub record HasClosedEnds (rows : WholeRows) (path : List Slice) (cut : Option ℤ) (form : List ℤ) (lo count : ℤ) (line_below line_above : Line) : Type 0 where
  pub limits : IsWithinLimits rows
  pub forms : HasForms (length rows.box) path
  pub dense : length form ≡ length rows.box
  pub below : RefutesEnd rows path cut (below form lo) line_below
  pub above : RefutesEnd rows path cut (above form (lo +ℤ count)) line_above

-- what the two lines leave of the width: from the end below to the end above, less both margins
abbrev pub width_between : WholeRows → List Slice → List ℤ → ℤ → ℤ → Line → Line → ℚ
width_between rows path form lo count line_below line_above =
    (whole (count +ℤ pos 1) -ℚ margin rows path (below form lo) line_below) -ℚ margin rows path (above form (lo +ℤ count)) line_above
