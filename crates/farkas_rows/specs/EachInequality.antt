-- What holds of each inequality of a node, and of each that a line uses, where it holds of those of the rows, the box, the slices and the end.
use Rattle.std.proofs.Common.{ℕ, zero, suc, ◌+◌, ◌<◌, List, [], ◌∷◌, ◌++◌, length, get_or, map, subst, arith, add-zero}
use Rattle.std.specs.Prelude.{Option, Some, None, IfSome, IsSome, All, flat_map, option_map, option_to_list, unwrap_or}
use Rattle.std.proofs.lemmas.List.Elements.{All-nil, All-cons, All-head, All-tail, All-append}
use Rattle.whole_rows.specs.declared.bounds.Bounds.{Bounds}
use Rattle.whole_rows.specs.WholeRows.{WholeRow, WholeRows}
use Rattle.farkas_rows.specs.declared.line.Use.{Use}
use Rattle.farkas_rows.specs.declared.line.CutUse.{CutUse}
use Rattle.farkas_rows.specs.declared.line.Line.{Line}
use Rattle.farkas_rows.specs.declared.path.Slice.{Slice}
use Rattle.farkas_rows.specs.Inequalities.{Inequality, at_most, at_least, unit, row_sides, column_bounds, slice_sides, inequalities, inequality_at, cut_inequality}
use Rattle.farkas_rows.specs.Refutes.{nothing, used}

module _ (Q : Inequality → Type 0) where
  -- Q holds of the inequality, where there is one
  abbrev pub Has : Option Inequality → Type 0
  Has side = IfSome side Q

  -- Q holds of each inequality that is there
  abbrev pub EachHas : List (Option Inequality) → Type 0
  EachHas sides = All Has sides

  -- of two in front of others
  two-each : (first second : Option Inequality) (sides : List (Option Inequality)) → Has first → Has second → EachHas sides → EachHas (first ∷ second ∷ sides)
  two-each first second sides h k rest = All-cons Has first (second ∷ sides) h (All-cons Has second sides k rest)

  -- of the inequality of a side, where the side is there
  side-each : {X : Type 0} (f : X → Inequality) (side : Option X) → IfSome side (λ x. Q (f x)) → Has (option_map f side)
  side-each f None h = tt
  side-each f (Some x) h = h

  -- of both sides of a row
  pub row_sides-each : (row : WholeRow) → IfSome row.high (λ side. Q (at_most row.factors side)) → IfSome row.low (λ side. Q (at_least row.factors side)) → EachHas (row_sides row)
  row_sides-each row h k = two-each (option_map (at_most row.factors) row.high) (option_map (at_least row.factors) row.low) [] (side-each (at_most row.factors) row.high h) (side-each (at_least row.factors) row.low k) (All-nil Has)

  -- of both sides of a slice
  pub slice_sides-each : (slice : Slice) → Q (at_most slice.form slice.beta) → Q (at_least slice.form slice.beta) → EachHas (slice_sides slice)
  slice_sides-each slice h k = two-each (Some (at_most slice.form slice.beta)) (Some (at_least slice.form slice.beta)) [] h k (All-nil Has)

  -- of the parts of a list
  pub flat_map-each : {X : Type 0} (f : X → List (Option Inequality)) (xs : List X) → All (λ x. EachHas (f x)) xs → EachHas (flat_map f xs)
  flat_map-each f [] h = All-nil Has
  flat_map-each f (x ∷ xs) h = All-append Has (f x) (flat_map f xs) (All-head (λ x. EachHas (f x)) x xs h) (flat_map-each f xs (All-tail (λ x. EachHas (f x)) x xs h))

  -- of the bounds of the columns
  pub column_bounds-each : (columns column : ℕ) (box : List Bounds) (b : Bounds) → ((k : ℕ) → k < length box → Q (at_most (unit columns (column + k)) (get_or box k b).high) × Q (at_least (unit columns (column + k)) (get_or box k b).low)) → EachHas (column_bounds columns column box)
  column_bounds-each columns column [] b h = All-nil Has
  column_bounds-each columns column (bounds ∷ box) b h =
      let here : Q (at_most (unit columns column) bounds.high) × Q (at_least (unit columns column) bounds.low) = simp add-zero at (h 0 (omega arith)) in
      two-each (Some (at_most (unit columns column) bounds.high)) (Some (at_least (unit columns column) bounds.low)) (column_bounds columns (suc column) box) here.0 here.1 (column_bounds-each columns (suc column) box b (λ k lt. subst (λ (j : ℕ). Q (at_most (unit columns j) (get_or box k b).high) × Q (at_least (unit columns j) (get_or box k b).low)) (omega arith) (h (suc k) (omega arith))))

  -- of all
  pub inequalities-each : (rows : WholeRows) (path : List Slice) (end : Option Inequality) → All (λ row. EachHas (row_sides row)) rows.rows → EachHas (column_bounds (length rows.box) 0 rows.box) → All (λ slice. EachHas (slice_sides slice)) path → Has end → EachHas (inequalities rows path end)
  inequalities-each rows path end of_rows of_box of_path of_end =
      All-append Has (flat_map row_sides rows.rows) (column_bounds (length rows.box) 0 rows.box ++ (flat_map slice_sides path ++ end ∷ [])) (flat_map-each row_sides rows.rows of_rows)
      (All-append Has (column_bounds (length rows.box) 0 rows.box) (flat_map slice_sides path ++ end ∷ []) of_box
      (All-append Has (flat_map slice_sides path) (end ∷ []) (flat_map-each slice_sides path of_path) (All-cons Has end [] of_end (All-nil Has))))

  -- of that of a number
  pub at-each : (sides : List (Option Inequality)) (number : ℕ) → EachHas sides → Has (get_or sides number None)
  at-each [] number h = tt
  at-each (side ∷ sides) zero h = All-head Has side sides h
  at-each (side ∷ sides) (suc number) h = at-each sides number (All-tail Has side sides h)

  -- of what is there
  there-each : (side : Option Inequality) → IsSome side → Has side → Q (unwrap_or side nothing)
  there-each None is h = cc
  there-each (Some inequality) is h = h

  -- of the cut, where a line uses it
  cut-each : (rows : WholeRows) (cut : Option CutUse) → IfSome cut (λ (cut : CutUse). Q (cut_inequality rows cut.value)) → All Q (option_to_list (option_map (λ (cut : CutUse). cut_inequality rows cut.value) cut))
  cut-each rows None h = All-nil Q
  cut-each rows (Some cut) h = All-cons Q (cut_inequality rows cut.value) [] h (All-nil Q)

  -- of those that a line's items number
  items-each : (rows : WholeRows) (path : List Slice) (end : Option Inequality) (items : List Use) → All (λ (item : Use). IsSome (inequality_at rows path end item.index)) items → EachHas (inequalities rows path end) → All Q (map (λ (item : Use). unwrap_or (inequality_at rows path end item.index) nothing) items)
  items-each rows path end [] there h = All-nil Q
  items-each rows path end (item ∷ items) there h =
      All-cons Q (unwrap_or (inequality_at rows path end item.index) nothing) (map (λ (item : Use). unwrap_or (inequality_at rows path end item.index) nothing) items)
      (there-each (inequality_at rows path end item.index) (All-head (λ (item : Use). IsSome (inequality_at rows path end item.index)) item items there) (at-each (inequalities rows path end) item.index h))
      (items-each rows path end items (All-tail (λ (item : Use). IsSome (inequality_at rows path end item.index)) item items there) h)

  -- of each that a line uses
  pub used-each : (rows : WholeRows) (path : List Slice) (end : Option Inequality) (line : Line) → IfSome line.cut (λ (cut : CutUse). Q (cut_inequality rows cut.value)) → All (λ (item : Use). IsSome (inequality_at rows path end item.index)) line.items → EachHas (inequalities rows path end) → All Q (used rows path end line)
  used-each rows path end line of_cut there h = All-append Q (option_to_list (option_map (λ (cut : CutUse). cut_inequality rows cut.value) line.cut)) (map (λ (item : Use). unwrap_or (inequality_at rows path end item.index) nothing) line.items) (cut-each rows line.cut of_cut) (items-each rows path end line.items there h)
