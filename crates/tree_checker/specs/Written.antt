-- What is printed of a tree that holds is accepted.
use Rattle.std.proofs.Common.{◌≡◌, ◌≢◌, ℕ, suc, ◌*◌, ◌^◌, ◌≤◌, ℤ, pos, ◌+ℤ◌, ◌≤ℤ◌, ◌<ℤ◌, List, [], ◌∷◌, length, refl, ap, arith}
use Rattle.std.specs.Prelude.{Option, Some, None, IfSome, All, map, codes, unsigned_abs}
use Rattle.std.specs.Option.{IsSomeAnd}
use Rattle.std.proofs.lemmas.Int.{ints}
use Rattle.std.proofs.lemmas.List.Elements.{All-head, All-tail, All-nil, All-cons, All-append}
use Rattle.exact_math.specs.Ring.{integers}
use Rattle.exact_vectors.specs.Vectors.{dot}
use Rattle.whole_rows.specs.declared.bounds.Bounds.{Bounds}
use Rattle.whole_rows.specs.WholeRows.{WholeRows, IsWithinLimits, LiesIn, reach, span}
use Rattle.whole_rows.specs.WeightLaws.{factor_le_term, size_within}
use Rattle.farkas_rows.specs.declared.line.CutUse.{CutUse}
use Rattle.farkas_rows.specs.declared.line.Line.{Line}
use Rattle.farkas_rows.specs.declared.path.Slice.{Slice}
use Rattle.farkas_rows.specs.Inequalities.{Inequality, below, above}
use Rattle.farkas_rows.specs.Refutes.{multipliers, used}
use Rattle.proof_tree.specs.declared.tree.Cut.{Cut}
use Rattle.proof_tree.specs.declared.tree.Tree.{Tree, Empty, Split', Row_of-Tree, end_of-Tree, more_of-Tree}
use Rattle.proof_tree.specs.Trees.{on_slice, IsOfSize, Closes, IsSplit, Holds, HoldEach}
use Rattle.proof_text.specs.declared.claim.Claim.{Claim}
use Rattle.proof_text.specs.declared.claim.Claim.TheVariants as claims
use Rattle.proof_text.specs.Spelling.{in_words, line_words, claim_line, tree_lines, forest_lines, closing_line, split_line, below_line, above_line, split_lines, proof_text}
use Rattle.proof_text.specs.Printable.{IsPrintableLine, IsPrintableCut, IsPrintableTree, ArePrintableTrees, IsPrintableClaim}
use Rattle.proof_text.specs.LineLengths.{printed_line-length}
use Rattle.proof_text.specs.SplitLengths.{split_short, claim_short}
use Rattle.tree_checker.specs.Accepts.{longest, last_of, IsClaim, HasShortLines, Accepts}

-- ---- what holds can be printed

of_cut : (cut : Option CutUse) (P Q : CutUse → Type 0) → IfSome cut (λ (cut : CutUse). P cut × Q cut) → IfSome cut Q
of_cut None P Q h = tt
of_cut (Some cut) P Q h = h.1

limits_of : List Inequality → List ℤ
limits_of inequalities = map (λ (inequality : Inequality). inequality.limit) inequalities

-- a combination that comes to less than 0 uses something
uses_some : (times : List ℤ) (inequalities : List Inequality) → dot integers times (map (λ (inequality : Inequality). inequality.limit) inequalities) <ℤ pos 0 → times ≢ []
uses_some [] inequalities h = absurd (omega (arith, ints, h))
uses_some (t ∷ times) inequalities h = λ e. absurd cc

pub line_printable : (rows : WholeRows) (last : Option ℤ) (path : List Slice) (end : Option Inequality) (line : Line) → Closes rows last path end line → IsPrintableLine rows path end line
line_printable rows last path end line closes = record {
  some = uses_some (multipliers line) (used rows path end line) closes.refutes.combination.negative;
  rising = closes.refutes.rising;
  there = closes.refutes.there;
  times = closes.refutes.in_range;
  value = of_cut line.cut (λ (cut : CutUse). IsSomeAnd last (λ least. least ≤ℤ cut.value)) (λ (cut : CutUse). IsOfSize (2 ^ 97) cut.value) closes.cut;
}

-- a number whose size is at most the limit
of_size : (limit : ℕ) (number : ℤ) → unsigned_abs number ≤ limit → IsOfSize limit number
of_size limit number h = omega (arith, ints, h)

-- the factors of a form are no larger than what it spans
pub factors_of_size : (limit : ℕ) (form : List ℤ) (box : List Bounds) → length form ≡ length box → span form box ≤ limit → All (IsOfSize limit) form
factors_of_size limit [] box e h = All-nil (IsOfSize limit)
factors_of_size limit (factor ∷ form) [] e h = absurd (omega (arith, e))
factors_of_size limit (factor ∷ form) (bounds ∷ box) e h =
    All-cons (IsOfSize limit) factor form
    (of_size limit factor (omega (arith, h, factor_le_term factor bounds)))
    (factors_of_size limit form box (omega (arith, e)) (omega (arith, h)))

pub cut_printable : (rows : WholeRows) (last : Option ℤ) (path : List Slice) (cut : Cut) → IsSplit rows last path cut → IsPrintableCut rows path cut
cut_printable rows last path cut split = record {
  dense = split.form.dense;
  some = split.form.some;
  factors = factors_of_size (2 ^ 96) cut.form rows.box split.form.dense split.form.light;
  lo = split.lo;
  count = split.count;
  below = line_printable rows last path (Some (below cut.form cut.lo)) cut.below split.below;
  above = line_printable rows last path (Some (above cut.form (cut.lo +ℤ cut.count))) cut.above split.above;
}

mutual
  pub tree_printable : (rows : WholeRows) (last : Option ℤ) (path : List Slice) (tree : Tree) → Holds rows last path tree → IsPrintableTree rows path tree
  tree_printable rows last path (Empty line) holds = line_printable rows last path None line holds.1
  tree_printable rows last path (Split' p cut s children) holds = (cut_printable rows last path cut holds.1, trees_printable rows last path cut.form cut.lo (cut.lo +ℤ cut.count) children holds.2)

  trees_printable : (rows : WholeRows) (last : Option ℤ) (path : List Slice) (form : List ℤ) (from until : ℤ) {m : _} (children : Row_of-Tree m) → HoldEach rows last path form from until children → ArePrintableTrees rows path form from until children
  trees_printable rows last path form from until end_of-Tree hold = hold
  trees_printable rows last path form from until (more_of-Tree child rest) hold = (tree_printable rows last (on_slice path form from) child hold.0, trees_printable rows last path form (from +ℤ pos 1) until rest hold.1)

-- a point of the box has a number for each column, none of them larger than the reaches
values_of_size : (limit : ℕ) (box : List Bounds) (x : List ℤ) → All (λ bounds. reach bounds ≤ limit) box → LiesIn box x → (length x ≡ length box) × All (IsOfSize limit) x
values_of_size limit [] [] light lies = (refl, All-nil (IsOfSize limit))
values_of_size limit [] (value ∷ x) light lies = absurd lies
values_of_size limit (bounds ∷ box) [] light lies = absurd lies
values_of_size limit (bounds ∷ box) (value ∷ x) light lies =
    let rest = values_of_size limit box x (All-tail (λ bounds. reach bounds ≤ limit) bounds box light) lies.1 in
    let here : reach bounds ≤ limit = All-head (λ bounds. reach bounds ≤ limit) bounds box light in
    (ap suc rest.0, All-cons (IsOfSize limit) value x (of_size limit value (omega (arith, here, size_within bounds value lies.0.0 lies.0.1))) rest.1)

pub claim_printable : (rows : WholeRows) (claim : Claim) → IsWithinLimits rows → IsClaim rows claim → IsPrintableClaim rows claim
claim_printable rows claims.Infeasible limits is = tt
claim_printable rows (claims.Optimal x) limits is = values_of_size (2 ^ 96) rows.box x limits.light.reaches is.in_box
claim_printable rows claims.Open limits is = absurd is

-- ---- and its lines are short

abbrev IsShortLine : List ℕ → Type 0
IsShortLine line = length line ≤ longest

module _ (rows : WholeRows) (last : Option ℤ) (limits : IsWithinLimits rows) where
  short_closing : (path : List Slice) (end : Option Inequality) (first : ℕ) (line : Line) → length path ≤ 2 * length rows.box → Closes rows last path end line → IsShortLine (in_words ((first ∷ []) ∷ line_words line))
  short_closing path end first line short closes = printed_line-length rows path end first line limits.few_rows limits.few_columns short (line_printable rows last path end line closes)

  short_split : (path : List Slice) (cut : Cut) → length path ≤ 2 * length rows.box → IsSplit rows last path cut → HasShortLines (split_lines cut)
  short_split path cut short split =
      All-cons IsShortLine (split_line cut) (below_line cut ∷ above_line cut ∷ []) (split_short rows path cut limits.few_columns (cut_printable rows last path cut split))
      (All-cons IsShortLine (below_line cut) (above_line cut ∷ []) (short_closing path (Some (below cut.form cut.lo)) 66 cut.below short split.below)
      (All-cons IsShortLine (above_line cut) [] (short_closing path (Some (above cut.form (cut.lo +ℤ cut.count))) 65 cut.above short split.above)
      (All-nil IsShortLine)))

  mutual
    pub tree_short : (path : List Slice) (tree : Tree) → Holds rows last path tree → HasShortLines (tree_lines tree)
    tree_short path (Empty line) holds = All-cons IsShortLine (closing_line line) [] (short_closing path None 69 line holds.0 holds.1) (All-nil IsShortLine)
    tree_short path (Split' p cut s children) holds =
        All-append IsShortLine (split_lines cut) (forest_lines children) (short_split path cut holds.0 holds.1) (trees_short path cut.form cut.lo (cut.lo +ℤ cut.count) children holds.2)

    trees_short : (path : List Slice) (form : List ℤ) (from until : ℤ) {m : _} (children : Row_of-Tree m) → HoldEach rows last path form from until children → HasShortLines (forest_lines children)
    trees_short path form from until end_of-Tree hold = All-nil IsShortLine
    trees_short path form from until (more_of-Tree child rest) hold =
        All-append IsShortLine (tree_lines child) (forest_lines rest) (tree_short (on_slice path form from) child hold.0) (trees_short path form (from +ℤ pos 1) until rest hold.1)

-- ---- the law

-- the text of a claim that is a point, or of none, with a tree that holds for it
pub written_accepted : (rows : WholeRows) (claim : Claim) (tree : Tree) → IsWithinLimits rows → IsClaim rows claim → Holds rows (last_of rows claim) [] tree → Accepts rows (proof_text claim tree) claim
written_accepted rows claim tree limits is holds = record {
  tree = tree;
  spells = record { bytes = refl; claimed = claim_printable rows claim limits is; printable = tree_printable rows (last_of rows claim) [] tree holds };
  short = tree_short rows (last_of rows claim) limits [] tree holds;
  short_head = All-cons IsShortLine (codes "SLICER 1") (claim_line claim ∷ []) (omega arith)
      (All-cons IsShortLine (claim_line claim) [] (claim_short rows claim limits.few_columns (claim_printable rows claim limits is)) (All-nil IsShortLine));
  point = is;
  holds = holds;
}
