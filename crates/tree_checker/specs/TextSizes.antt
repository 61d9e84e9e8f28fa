-- The bytes of a proof that holds: at most 199,000 for each node, and a head.
use Rattle.std.proofs.Common.{◌≡◌, ℕ, ◌+◌, ◌*◌, ◌≤◌, ℤ, pos, ◌+ℤ◌, List, [], ◌∷◌, ◌++◌, length, length-append, arith}
use Rattle.std.specs.Prelude.{Option, Some, None, codes}
use Rattle.whole_rows.specs.WholeRows.{WholeRows, IsWithinLimits}
use Rattle.farkas_rows.specs.declared.line.Line.{Line}
use Rattle.farkas_rows.specs.declared.path.Slice.{Slice}
use Rattle.farkas_rows.specs.Inequalities.{Inequality, below, above}
use Rattle.proof_tree.specs.declared.tree.Cut.{Cut}
use Rattle.proof_tree.specs.declared.tree.Tree.{Tree, Empty, Split', Row_of-Tree, end_of-Tree, more_of-Tree}
use Rattle.proof_tree.specs.Trees.{on_slice, Closes, IsSplit, Holds, HoldEach}
use Rattle.proof_tree.specs.Counts.{records, records_of_each}
use Rattle.proof_text.specs.declared.claim.Claim.{Claim}
use Rattle.proof_text.specs.Spelling.{in_words, in_lines, line_words, claim_line, head_lines, tree_lines, forest_lines, closing_line, split_line, below_line, above_line, split_lines, proof_text}
use Rattle.proof_text.specs.LineLengths.{printed_line-bytes}
use Rattle.proof_text.specs.SplitLengths.{split_bytes, claim_short}
use Rattle.tree_checker.specs.Accepts.{last_of, IsClaim}
use Rattle.tree_checker.specs.Written.{line_printable, cut_printable, claim_printable}

-- a line and its line feed, and then the others
bytes-cons : (line : List ℕ) (lines : List (List ℕ)) → length (in_lines (line ∷ lines)) ≡ length line + 1 + length (in_lines lines)
bytes-cons line lines = omega (arith, length-append (line ++ 10 ∷ []) (in_lines lines), length-append line (10 ∷ []))

bytes-append : (lines others : List (List ℕ)) → length (in_lines (lines ++ others)) ≡ length (in_lines lines) + length (in_lines others)
bytes-append [] others = omega arith
bytes-append (line ∷ lines) others = omega (arith, bytes-cons line lines, bytes-cons line (lines ++ others), bytes-append lines others)

module _ (rows : WholeRows) (last : Option ℤ) (limits : IsWithinLimits rows) where
  closing_bytes : (path : List Slice) (end : Option Inequality) (first : ℕ) (line : Line) → length path ≤ 2 * length rows.box → Closes rows last path end line → length (in_words ((first ∷ []) ∷ line_words line)) ≤ 90300
  closing_bytes path end first line short closes = printed_line-bytes rows path end first line limits.few_rows limits.few_columns short (line_printable rows last path end line closes)

  split_node_bytes : (path : List Slice) (cut : Cut) → length path ≤ 2 * length rows.box → IsSplit rows last path cut → length (in_lines (split_lines cut)) ≤ 199000
  split_node_bytes path cut short split =
      omega (
        arith,
        split_bytes rows path cut limits.few_columns (cut_printable rows last path cut split),
        closing_bytes path (Some (below cut.form cut.lo)) 66 cut.below short split.below,
        closing_bytes path (Some (above cut.form (cut.lo +ℤ cut.count))) 65 cut.above short split.above,
        bytes-cons (split_line cut) (below_line cut ∷ above_line cut ∷ []),
        bytes-cons (below_line cut) (above_line cut ∷ []),
        bytes-cons (above_line cut) [],
      )

  mutual
    tree_bytes : (path : List Slice) (tree : Tree) → Holds rows last path tree → length (in_lines (tree_lines tree)) ≤ 199000 * records tree
    tree_bytes path (Empty line) holds = omega (arith, closing_bytes path None 69 line holds.0 holds.1, bytes-cons (closing_line line) [])
    tree_bytes path (Split' p cut s children) holds =
        omega (arith, bytes-append (split_lines cut) (forest_lines children), split_node_bytes path cut holds.0 holds.1, trees_bytes path cut.form cut.lo (cut.lo +ℤ cut.count) children holds.2)

    trees_bytes : (path : List Slice) (form : List ℤ) (from until : ℤ) {m : _} (children : Row_of-Tree m) → HoldEach rows last path form from until children → length (in_lines (forest_lines children)) ≤ 199000 * records_of_each children
    trees_bytes path form from until end_of-Tree hold = omega arith
    trees_bytes path form from until (more_of-Tree child rest) hold =
        omega (arith, bytes-append (tree_lines child) (forest_lines rest), tree_bytes (on_slice path form from) child hold.0, trees_bytes path form (from +ℤ pos 1) until rest hold.1)

-- the text of a claim with a tree that holds for it
pub proof_bytes : (rows : WholeRows) (claim : Claim) (tree : Tree) → IsWithinLimits rows → IsClaim rows claim → Holds rows (last_of rows claim) [] tree → length (proof_text claim tree) ≤ 98400 + 199000 * records tree
proof_bytes rows claim tree limits is holds =
    omega (
      arith,
      claim_short rows claim limits.few_columns (claim_printable rows claim limits is),
      tree_bytes rows (last_of rows claim) limits [] tree holds,
      bytes-append (head_lines claim) (tree_lines tree ++ codes "DONE" ∷ []),
      bytes-append (tree_lines tree) (codes "DONE" ∷ []),
      bytes-cons (codes "SLICER 1") (claim_line claim ∷ []),
      bytes-cons (claim_line claim) [],
      bytes-cons (codes "DONE") [],
    )
