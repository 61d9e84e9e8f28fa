-- What is printable depends on the path by its length alone, and on the end by its being there.
use Rattle.std.proofs.Common.{◌≡◌, ◌≢◌, ℕ, zero, suc, ◌+◌, ◌-◌, ◌*◌, ◌/◌, ◌%◌, ◌<◌, ◌≤◌, ℤ, pos, ◌+ℤ◌, Bool, true, false, List, [], ◌∷◌, ◌++◌, length, get_or, map, replicate, Option, Some, None, is_some, IsSome, option_map, refl, sym, ap, ◌∙◌, arith, append_assoc, ⊎_elim, eqb-true, true≢false}
use Rattle.std.specs.Prelude.{flat_map}
use Rattle.std.proofs.Math.ListN.{get_or-map}
use Rattle.std.proofs.lemmas.List.{map-append, replicate-append-replicate, length-replicate, get_or-replicate, get_or-append_right, get_or_append_left, length_push}
use Rattle.std.proofs.lemmas.Bool.{cases_Bool, cases_eq, eqb-false}
use Rattle.std.specs.Prelude.{◌==◌, if◌then◌else◌}
use Rattle.std.proofs.lemmas.List.Elements.{All-weaker}
use Rattle.whole_rows.specs.declared.bounds.Bounds.{Bounds}
use Rattle.whole_rows.specs.WholeRows.{WholeRow, WholeRows}
use Rattle.farkas_rows.specs.declared.line.Use.{Use}
use Rattle.farkas_rows.specs.declared.line.Line.{Line}
use Rattle.farkas_rows.specs.declared.path.Slice.{Slice}
use Rattle.farkas_rows.specs.Inequalities.{Inequality, row_sides, column_bounds, slice_sides, inequalities, inequality_at, at_most, at_least, below, above}
use Rattle.proof_tree.specs.declared.tree.Cut.{Cut}
use Rattle.proof_tree.specs.declared.tree.Tree as tree
use Rattle.proof_tree.specs.Trees.{on_slice}
use Rattle.proof_text.specs.Reads.{some_path, some_end}
use Rattle.proof_text.specs.Printable.{IsPrintableLine, IsPrintableCut, IsPrintableTree, ArePrintableTrees}

-- ---- which numbers name an inequality

abbrev There : Option Inequality → Bool
There side = is_some side

-- whether each side of the rows is there
abbrev pub row_sides_there : List WholeRow → List Bool
row_sides_there rows = flat_map (λ (row : WholeRow). is_some row.high ∷ is_some row.low ∷ []) rows

-- whether each inequality is there: the sides of the rows, those of columns and slices, and the end
abbrev pub all_there : WholeRows → ℕ → Bool → List Bool
all_there rows depth has_end = row_sides_there rows.rows ++ (replicate (2 * (length rows.box + depth)) true ++ has_end ∷ [])

is_some-mapped : {X : Type 0} (f : X → Inequality) (side : Option X) → There (option_map f side) ≡ is_some side
is_some-mapped f None = refl
is_some-mapped f (Some x) = refl

rows-there : (rows : List WholeRow) → map There (flat_map row_sides rows) ≡ row_sides_there rows
rows-there [] = refl
rows-there (row ∷ rows) =
    ap (λ b. b ∷ There (option_map (at_least row.factors) row.low) ∷ map There (flat_map row_sides rows)) (is_some-mapped (at_most row.factors) row.high)
    ∙ ap (λ b. is_some row.high ∷ b ∷ map There (flat_map row_sides rows)) (is_some-mapped (at_least row.factors) row.low)
    ∙ ap (λ r. is_some row.high ∷ is_some row.low ∷ r) (rows-there rows)

two_more : (n : ℕ) → replicate (2 * suc n) true ≡ true ∷ true ∷ replicate (2 * n) true
two_more n = let e : 2 * suc n ≡ suc (suc (2 * n)) = omega arith in ap (λ k. replicate k true) e

columns-there : (columns column : ℕ) (box : List Bounds) → map There (column_bounds columns column box) ≡ replicate (2 * length box) true
columns-there columns column [] = refl
columns-there columns column (bounds ∷ box) = ap (λ r. true ∷ true ∷ r) (columns-there columns (suc column) box) ∙ sym (two_more (length box))

slices-there : (path : List Slice) → map There (flat_map slice_sides path) ≡ replicate (2 * length path) true
slices-there [] = refl
slices-there (slice ∷ path) = ap (λ r. true ∷ true ∷ r) (slices-there path) ∙ sym (two_more (length path))

-- the inequalities that are there
pub inequalities-there : (rows : WholeRows) (path : List Slice) (end : Option Inequality) → map There (inequalities rows path end) ≡ all_there rows (length path) (is_some end)
inequalities-there rows path end =
    let n : ℕ = length rows.box in
    let a : List (Option Inequality) = flat_map row_sides rows.rows in
    let b : List (Option Inequality) = column_bounds n 0 rows.box in
    let d : List (Option Inequality) = flat_map slice_sides path in
    let last : List Bool = is_some end ∷ [] in
    map-append There a (b ++ (d ++ end ∷ []))
    ∙ ap (λ r. r ++ map There (b ++ (d ++ end ∷ []))) (rows-there rows.rows)
    ∙ ap (λ r. row_sides_there rows.rows ++ r)
    (map-append There b (d ++ end ∷ [])
    ∙ ap (λ r. r ++ map There (d ++ end ∷ [])) (columns-there n 0 rows.box)
    ∙ ap (λ r. replicate (2 * n) true ++ r) (map-append There d (end ∷ []) ∙ ap (λ r. r ++ last) (slices-there path))
    ∙ sym (append_assoc (replicate (2 * n) true) (replicate (2 * length path) true) last)
    ∙ ap (λ r. r ++ last) (replicate-append-replicate (2 * n) (2 * length path) true ∙ ap (λ k. replicate k true) (omega arith)))

-- whether a number names one
pub there_at : (rows : WholeRows) (path : List Slice) (end : Option Inequality) (number : ℕ) → is_some (inequality_at rows path end number) ≡ get_or (all_there rows (length path) (is_some end)) number false
there_at rows path end number = sym (get_or-map There (inequalities rows path end) number None) ∙ ap (λ sides. get_or sides number false) (inequalities-there rows path end)

some_end-there : (has_end : Bool) → is_some (some_end has_end) ≡ has_end
some_end-there true = refl
some_end-there false = refl

pub some_there : (rows : WholeRows) (depth : ℕ) (has_end : Bool) (number : ℕ) → is_some (inequality_at rows (some_path depth) (some_end has_end) number) ≡ get_or (all_there rows depth has_end) number false
some_there rows depth has_end number =
    there_at rows (some_path depth) (some_end has_end) number
    ∙ ap (λ k. get_or (all_there rows k (is_some (some_end has_end))) number false) (length-replicate depth (record { form = []; beta = pos 0 }))
    ∙ ap (λ b. get_or (all_there rows depth b) number false) (some_end-there has_end)

row_high : (rows : List WholeRow) (rest : List Bool) (i number : ℕ) (d : WholeRow) → i < length rows → number ≡ 2 * i → get_or (row_sides_there rows ++ rest) number false ≡ is_some (get_or rows i d).high
row_high [] rest i number d h e = absurd (omega (arith, h))
row_high (row ∷ rows) rest zero number d h e = let z : number ≡ 0 = omega (arith, e) in ap (λ k. get_or (row_sides_there (row ∷ rows) ++ rest) k false) z
row_high (row ∷ rows) rest (suc i) number d h e =
    let z : number ≡ suc (suc (2 * i)) = omega (arith, e) in
    ap (λ k. get_or (row_sides_there (row ∷ rows) ++ rest) k false) z ∙ row_high rows rest i (2 * i) d (omega (arith, h)) refl

row_low : (rows : List WholeRow) (rest : List Bool) (i number : ℕ) (d : WholeRow) → i < length rows → number ≡ 2 * i + 1 → get_or (row_sides_there rows ++ rest) number false ≡ is_some (get_or rows i d).low
row_low [] rest i number d h e = absurd (omega (arith, h))
row_low (row ∷ rows) rest zero number d h e = let z : number ≡ 1 = omega (arith, e) in ap (λ k. get_or (row_sides_there (row ∷ rows) ++ rest) k false) z
row_low (row ∷ rows) rest (suc i) number d h e =
    let z : number ≡ suc (suc (2 * i + 1)) = omega (arith, e) in
    ap (λ k. get_or (row_sides_there (row ∷ rows) ++ rest) k false) z ∙ row_low rows rest i (2 * i + 1) d (omega (arith, h)) refl

-- the number of a side of a row
pub row_side_there : (rows : List WholeRow) (rest : List Bool) (number place : ℕ) (d : WholeRow) → place ≡ number / 2 → place < length rows
    → get_or (row_sides_there rows ++ rest) number false ≡ (if number % 2 == 1 then is_some (get_or rows place d).low else is_some (get_or rows place d).high)
row_side_there rows rest number place d half h = ⊎_elim
    (λ (t : (number % 2 == 1) ≡ true).
    let odd : number % 2 ≡ 1 = eqb-true (number % 2) 1 t in
    row_low rows rest place number d h (omega (arith, half, odd)) ∙ sym (ap (λ b. if b then is_some (get_or rows place d).low else is_some (get_or rows place d).high) t))
    (λ (t : (number % 2 == 1) ≡ false).
    let even : number % 2 ≢ 1 = eqb-false (number % 2) 1 t in
    row_high rows rest place number d h (omega (arith, half, even)) ∙ sym (ap (λ b. if b then is_some (get_or rows place d).low else is_some (get_or rows place d).high) t))
    (cases_Bool (number % 2 == 1))

row_sides_there-length : (rows : List WholeRow) → length (row_sides_there rows) ≡ 2 * length rows
row_sides_there-length [] = refl
row_sides_there-length (row ∷ rows) = omega (arith, row_sides_there-length rows)

behind_rows : (rows : WholeRows) (depth : ℕ) (has_end : Bool) (number : ℕ) → 2 * length rows.rows ≤ number
    → get_or (all_there rows depth has_end) number false ≡ get_or (replicate (2 * (length rows.box + depth)) true ++ has_end ∷ []) (number - 2 * length rows.rows) false
behind_rows rows depth has_end number h = get_or-append_right (row_sides_there rows.rows) (replicate (2 * (length rows.box + depth)) true ++ has_end ∷ []) (2 * length rows.rows) number false (row_sides_there-length rows.rows) h

-- the numbers of columns and slices
pub middle_there : (rows : WholeRows) (depth : ℕ) (has_end : Bool) (number : ℕ) → 2 * length rows.rows ≤ number → number < 2 * (length rows.rows + length rows.box + depth) → get_or (all_there rows depth has_end) number false ≡ true
middle_there rows depth has_end number h below =
    let m : ℕ = 2 * (length rows.box + depth) in
    let k : ℕ = number - 2 * length rows.rows in
    behind_rows rows depth has_end number h
    ∙ get_or_append_left (replicate m true) (has_end ∷ []) false k (omega (arith, length-replicate m true, below, h))
    ∙ get_or-replicate m k true false (omega (arith, below, h))

-- the number of the end
pub last_there : (rows : WholeRows) (depth : ℕ) (has_end : Bool) (number : ℕ) → number ≡ 2 * (length rows.rows + length rows.box + depth) → get_or (all_there rows depth has_end) number false ≡ has_end
last_there rows depth has_end number e =
    let m : ℕ = 2 * (length rows.box + depth) in
    let k : ℕ = number - 2 * length rows.rows in
    let none : k - m ≡ 0 = omega (arith, e) in
    behind_rows rows depth has_end number (omega (arith, e))
    ∙ get_or-append_right (replicate m true) (has_end ∷ []) m k false (length-replicate m true) (omega (arith, e))
    ∙ ap (λ i. get_or (has_end ∷ []) i false) none

-- no number behind them
pub none_there : (rows : WholeRows) (depth : ℕ) (has_end : Bool) (number : ℕ) → 2 * (length rows.rows + length rows.box + depth) < number → get_or (all_there rows depth has_end) number false ≡ false
none_there rows depth has_end number above =
    let m : ℕ = 2 * (length rows.box + depth) in
    let k : ℕ = number - 2 * length rows.rows in
    let more : k - m ≡ suc (k - m - 1) = omega (arith, above) in
    behind_rows rows depth has_end number (omega (arith, above))
    ∙ get_or-append_right (replicate m true) (has_end ∷ []) m k false (length-replicate m true) (omega (arith, above))
    ∙ ap (λ i. get_or (has_end ∷ []) i false) more

-- behind the columns and slices stands the end alone
pub end_there : (rows : WholeRows) (depth : ℕ) (has_end : Bool) (number : ℕ) → 2 * (length rows.rows + length rows.box + depth) ≤ number → get_or (all_there rows depth has_end) number false ≡ true → (number ≡ 2 * (length rows.rows + length rows.box + depth)) × (has_end ≡ true)
end_there rows depth has_end number past there = ⊎_elim
    (λ (at : number ≡ 2 * (length rows.rows + length rows.box + depth)). (at, sym (last_there rows depth has_end number at) ∙ there))
    (λ (other : number ≡ 2 * (length rows.rows + length rows.box + depth) → ⊥). absurd (true≢false (sym there ∙ none_there rows depth has_end number (omega arith))))
    (cases_eq number (2 * (length rows.rows + length rows.box + depth)))

-- ---- what is printable

module _ (rows : WholeRows) (p q : List Slice) (e f : Option Inequality) (same : length p ≡ length q) (ends : is_some e ≡ is_some f) where
  there_on : (number : ℕ) → IsSome (inequality_at rows p e number) → IsSome (inequality_at rows q f number)
  there_on number there =
      there_at rows q f number
      ∙ sym (ap (λ k. get_or (all_there rows k (is_some e)) number false) same ∙ ap (λ b. get_or (all_there rows (length q) b) number false) ends)
      ∙ sym (there_at rows p e number)
      ∙ there

  -- a line on another path of this length
  pub line_on : (line : Line) → IsPrintableLine rows p e line → IsPrintableLine rows q f line
  line_on line h = record {
    some = h.some;
    rising = h.rising;
    there = All-weaker (λ (item : Use). IsSome (inequality_at rows p e item.index)) (λ (item : Use). IsSome (inequality_at rows q f item.index)) (λ item. there_on item.index) line.items h.there;
    times = h.times;
    value = h.value;
  }

-- a split
pub cut_on : (rows : WholeRows) (p q : List Slice) (cut : Cut) → length p ≡ length q → IsPrintableCut rows p cut → IsPrintableCut rows q cut
cut_on rows p q cut same h = record {
  dense = h.dense;
  some = h.some;
  factors = h.factors;
  lo = h.lo;
  count = h.count;
  below = line_on rows p q (Some (below cut.form cut.lo)) (Some (below cut.form cut.lo)) same refl cut.below h.below;
  above = line_on rows p q (Some (above cut.form (cut.lo +ℤ cut.count))) (Some (above cut.form (cut.lo +ℤ cut.count))) same refl cut.above h.above;
}

-- the paths to two slices are as long as one another
slice_on : (p q : List Slice) (form other : List ℤ) (beta value : ℤ) → length p ≡ length q → length (on_slice p form beta) ≡ length (on_slice q other value)
slice_on p q form other beta value same = length_push p (record { form = form; beta = beta }) ∙ ap (λ n. n + 1) same ∙ sym (length_push q (record { form = other; beta = value }))

-- a tree
mutual
  pub tree_on : (rows : WholeRows) (p q : List Slice) (t : tree.Tree) → length p ≡ length q → IsPrintableTree rows p t → IsPrintableTree rows q t
  tree_on rows p q (tree.Empty line) same h = line_on rows p q None None same refl line h
  tree_on rows p q (tree.Split' b cut s children) same h = (cut_on rows p q cut same h.0, trees_on rows p q cut.form cut.lo (cut.lo +ℤ cut.count) children same h.1)

  trees_on : (rows : WholeRows) (p q : List Slice) (form : List ℤ) (from until : ℤ) {m : _} (k : tree.Row_of-Tree m) → length p ≡ length q → ArePrintableTrees rows p form from until k → ArePrintableTrees rows q form from until k
  trees_on rows p q form from until tree.end_of-Tree same h = h
  trees_on rows p q form from until (tree.more_of-Tree child rest) same h =
      (tree_on rows (on_slice p form from) (on_slice q form from) child (slice_on p q form form from from same) h.0, trees_on rows p q form (from +ℤ pos 1) until rest same h.1)
