-- What the reader of a proof text takes off its lines.
use Rattle.std.specs.Prelude.{◌≡◌, ◌≢◌, ℕ, ◌^◌, ◌<◌, Bool, true, false, ℤ, pos, ◌≤ℤ◌, List, [], ◌∷◌, ◌++◌, length, replicate, flat_map, All, Option, Some, None, codes, decimal}
use Rattle.std.specs.Fmt.{signed_decimal}
use Rattle.whole_rows.specs.WholeRows.{WholeRows}
use Rattle.farkas_rows.specs.declared.line.Line.{Line}
use Rattle.farkas_rows.specs.declared.line.CutUse.{CutUse}
use Rattle.farkas_rows.specs.declared.line.Use.{Use}
use Rattle.farkas_rows.specs.declared.path.Slice.{Slice}
use Rattle.farkas_rows.specs.Inequalities.{Inequality}
use Rattle.farkas_rows.specs.Refutes.{nothing}
use Rattle.proof_tree.specs.declared.tree.Cut.{Cut}
use Rattle.proof_tree.specs.declared.tree.Tree.{Tree}
use Rattle.proof_tree.specs.Trees.{IsOfSize}
use Rattle.proof_text.specs.declared.claim.Claim.{Claim}
use Rattle.proof_text.specs.declared.claim.Claim.TheVariants as claims
use Rattle.proof_text.specs.declared.splits.Opening.{Opening}
use Rattle.proof_text.specs.Spelling.{in_words, pair, cut_word, line_words, form_words, mark_word, split_lines, tree_lines, claim_line, head_lines}
use Rattle.proof_text.specs.Printable.{IsMultiplier, IsPrintableLine, IsPrintableCut, IsPrintableTree}
use Rattle.proof_text.specs.OneLine.{IsSmallCut}

-- a path of this length; what is printable depends on a path by its length alone
abbrev pub some_path : ℕ → List Slice
some_path depth = replicate depth (record { form = []; beta = pos 0 })

-- an end or none; what is printable depends on an end by its being there alone
abbrev pub some_end : Bool → Option Inequality
some_end false = None
some_end true = Some nothing

-- the cut, where the first of the words spells one, and the words behind it
abbrev pub TakesCut : List (List ℕ) → List (List ℕ) → Option CutUse → Type 0
TakesCut words rest None = (rest ≡ words) × ((cut : CutUse) (more : List (List ℕ)) → IsSmallCut cut → words ≢ cut_word cut ∷ more)
TakesCut words rest (Some cut) = IsSmallCut cut × (words ≡ cut_word cut ∷ rest)

-- the numbers of an inequality's word are in the ranges in which a word is read
abbrev pub IsReadUse : Use → Type 0
IsReadUse item = (item.index < 2 ^ 32) × IsMultiplier item.times

-- the text is a line of multipliers behind its first word, over the inequalities of a path of this length
pub record SpellsLine (rows : WholeRows) (depth : ℕ) (has_end : Bool) (first : ℕ) (text : List ℕ) (line : Line) : Type 0 where
  pub spelled : text ≡ in_words ((first ∷ []) ∷ line_words line)
  pub printable : IsPrintableLine rows (some_path depth) (some_end has_end) line

-- the first of the lines is that of an end of a split, and the rest stands behind it
pub record SpellsEnd (rows : WholeRows) (depth first : ℕ) (lines rest : List (List ℕ)) (line : Line) : Type 0 where
  pub spelled : lines ≡ in_words ((first ∷ []) ∷ line_words line) ∷ rest
  pub printable : IsPrintableLine rows (some_path depth) (some_end true) line

-- the factor of this column, where the first of the words spells one that is not 0, and the words behind it; else 0
pub record TakesFactor (column : ℕ) (words rest : List (List ℕ)) (factor : ℤ) : Type 0 where
  pub spelled : words ≡ form_words column (factor ∷ []) ++ rest
  pub size : IsOfSize (2 ^ 96) factor
  pub none : factor ≡ pos 0 → (other : ℤ) (more : List (List ℕ)) → other ≢ pos 0 → IsOfSize (2 ^ 96) other → words ≢ pair (decimal column) other ∷ more

-- the words are the factors of a form that has one for each column
pub record SpellsForm (columns : ℕ) (words : List (List ℕ)) (form : List ℤ) : Type 0 where
  pub spelled : words ≡ form_words 0 form
  pub dense : length form ≡ columns
  pub factors : All (IsOfSize (2 ^ 96)) form

-- the text is the first line of a split
pub record SpellsOpening (columns : ℕ) (text : List ℕ) (opening : Opening) : Type 0 where
  pub spelled : text ≡ in_words (codes "S" ∷ mark_word opening.mark ∷ signed_decimal opening.lo ∷ signed_decimal opening.count ∷ form_words 0 opening.form)
  pub dense : length opening.form ≡ columns
  pub some : ¬ (All (λ factor. factor ≡ pos 0) opening.form)
  pub factors : All (IsOfSize (2 ^ 96)) opening.form
  pub lo : IsOfSize (2 ^ 97) opening.lo
  pub count : (pos 0 ≤ℤ opening.count) × (opening.count ≤ℤ pos (2 ^ 98))

-- the lines begin with those of a split, without its children
pub record SpellsCut (rows : WholeRows) (depth : ℕ) (lines rest : List (List ℕ)) (cut : Cut) : Type 0 where
  pub spelled : lines ≡ split_lines cut ++ rest
  pub printable : IsPrintableCut rows (some_path depth) cut

-- the lines begin with those of a tree
pub record SpellsTree (rows : WholeRows) (depth : ℕ) (lines rest : List (List ℕ)) (tree : Tree) : Type 0 where
  pub spelled : lines ≡ tree_lines tree ++ rest
  pub printable : IsPrintableTree rows (some_path depth) tree

-- the lines begin with those of so many trees
pub record SpellsTrees (rows : WholeRows) (depth : ℕ) (count : ℤ) (lines rest : List (List ℕ)) (trees : List Tree) : Type 0 where
  pub spelled : lines ≡ flat_map tree_lines trees ++ rest
  pub counted : pos (length trees) ≡ count
  pub printable : All (IsPrintableTree rows (some_path depth)) trees

-- a finished claim, with so many values where it is of a point
abbrev pub IsSizedClaim : ℕ → Claim → Type 0
IsSizedClaim columns claims.Infeasible = Unit {0}
IsSizedClaim columns (claims.Optimal x) = (length x ≡ columns) × All (IsOfSize (2 ^ 96)) x
IsSizedClaim columns claims.Open = ⊥

-- the text is the line of a finished claim
pub record SpellsClaim (columns : ℕ) (text : List ℕ) (claim : Claim) : Type 0 where
  pub spelled : text ≡ claim_line claim
  pub sized : IsSizedClaim columns claim

-- the lines begin with the two in front of the nodes
pub record SpellsHead (columns : ℕ) (lines rest : List (List ℕ)) (claim : Claim) : Type 0 where
  pub spelled : lines ≡ head_lines claim ++ rest
  pub sized : IsSizedClaim columns claim
