-- How a claim and a tree are spelled: lines of words.
use Rattle.std.specs.Prelude.{ℕ, suc, ℤ, pos, if◌then◌else◌, List, [], ◌∷◌, ◌++◌, map, flat_map, codes, decimal, option_map, option_to_list}
use Rattle.std.specs.Ordering.{int_eq}
use Rattle.std.specs.Fmt.{signed_decimal}
use Rattle.farkas_rows.specs.declared.line.Use.{Use}
use Rattle.farkas_rows.specs.declared.line.CutUse.{CutUse}
use Rattle.farkas_rows.specs.declared.line.Line.{Line}
use Rattle.proof_tree.specs.declared.tree.Mark.{Mark}
use Rattle.proof_tree.specs.declared.tree.Mark.TheVariants.{Thin, Plain}
use Rattle.proof_tree.specs.declared.tree.Cut.{Cut}
use Rattle.proof_tree.specs.declared.tree.Tree as tree
use Rattle.proof_tree.specs.declared.tree.PartTree as part
use Rattle.proof_text.specs.declared.claim.Claim.{Claim}
use Rattle.proof_text.specs.declared.claim.Claim.TheVariants as claims
use Rattle.proof_text.specs.declared.claim.Record.{Record}
use Rattle.proof_text.specs.declared.claim.Record.TheVariants as records

-- each of the words, with a blank (the byte 32) in front of it
abbrev pub further : List (List ℕ) → List ℕ
further words = flat_map (λ word. 32 ∷ word) words

-- the words, with a blank between neighbours
abbrev pub in_words : List (List ℕ) → List ℕ
in_words [] = []
in_words (word ∷ rest) = word ++ further rest

-- the lines, each with a line feed (the byte 10) behind it
abbrev pub in_lines : List (List ℕ) → List ℕ
in_lines lines = flat_map (λ line. line ++ 10 ∷ []) lines

-- a number behind what it belongs to, and a colon (the byte 58) between them
abbrev pub pair : List ℕ → ℤ → List ℕ
pair first number = first ++ 58 ∷ signed_decimal number

-- the cut, by a `Z` (the byte 90) and its value, with its multiplier
abbrev pub cut_word : CutUse → List ℕ
cut_word cut = 90 ∷ pair (signed_decimal cut.value) cut.times

-- an inequality, by its number, with its multiplier
abbrev pub use_word : Use → List ℕ
use_word item = pair (decimal item.index) item.times

-- the cut where it is used, and then each inequality
abbrev pub line_words : Line → List (List ℕ)
line_words line = option_to_list (option_map cut_word line.cut) ++ map use_word line.items

-- each factor that is not 0, behind its column, the first of which has the number `column`
abbrev pub form_words : ℕ → List ℤ → List (List ℕ)
form_words column [] = []
form_words column (factor ∷ form) = if int_eq factor (pos 0) then form_words (suc column) form else pair (decimal column) factor ∷ form_words (suc column) form

-- how a mark is spelled
abbrev pub mark_word : Mark → List ℕ
mark_word Thin = codes "T"
mark_word Plain = codes "P"

-- the line of a node that is closed
abbrev pub closing_line : Line → List ℕ
closing_line line = in_words (codes "E" ∷ line_words line)

-- the first line of a split
abbrev pub split_line : Cut → List ℕ
split_line cut = in_words (codes "S" ∷ mark_word cut.mark ∷ signed_decimal cut.lo ∷ signed_decimal cut.count ∷ form_words 0 cut.form)

-- the lines of the two ends of a split
abbrev pub below_line : Cut → List ℕ
below_line cut = in_words (codes "B" ∷ line_words cut.below)

abbrev pub above_line : Cut → List ℕ
above_line cut = in_words (codes "A" ∷ line_words cut.above)

-- the three lines of a split
abbrev pub split_lines : Cut → List (List ℕ)
split_lines cut = split_line cut ∷ below_line cut ∷ above_line cut ∷ []

-- the line of nodes that were not worked
abbrev pub run_line : ℤ → List ℕ
run_line count = in_words (codes "O" ∷ signed_decimal count ∷ [])

-- the lines of one node without its children
abbrev pub record_lines : Record → List (List ℕ)
record_lines (records.Close line) = closing_line line.now ∷ []
record_lines (records.Split cut) = split_lines cut.now
record_lines (records.Run count) = run_line count ∷ []

-- the lines of a tree: those of a node, and then those of its children in order
abbrev mutual
  pub tree_lines : tree.Tree → List (List ℕ)
  tree_lines (tree.Empty line) = closing_line line ∷ []
  tree_lines (tree.Split' _ cut _ children) = split_lines cut ++ forest_lines children

  pub forest_lines : {m : _} → tree.Row_of-Tree m → List (List ℕ)
  forest_lines tree.end_of-Tree = []
  forest_lines (tree.more_of-Tree child rest) = tree_lines child ++ forest_lines rest

-- the lines of a part of a tree
abbrev mutual
  pub part_lines : part.PartTree → List (List ℕ)
  part_lines (part.Open count) = run_line count ∷ []
  part_lines (part.Empty line) = closing_line line ∷ []
  part_lines (part.Split' _ cut _ children) = split_lines cut ++ parts_lines children

  pub parts_lines : {m : _} → part.Row_of-PartTree m → List (List ℕ)
  parts_lines part.end_of-PartTree = []
  parts_lines (part.more_of-PartTree child rest) = part_lines child ++ parts_lines rest

-- the line of a claim
abbrev pub claim_line : Claim → List ℕ
claim_line claims.Infeasible = codes "INFEASIBLE"
claim_line (claims.Optimal x) = in_words (codes "OPTIMAL" ∷ map signed_decimal x)
claim_line claims.Open = codes "OPEN"

-- the two lines in front of the nodes
abbrev pub head_lines : Claim → List (List ℕ)
head_lines claim = codes "SLICER 1" ∷ claim_line claim ∷ []

-- the text of a claim with a tree
abbrev pub proof_text : Claim → tree.Tree → List ℕ
proof_text claim tree = in_lines (head_lines claim ++ (tree_lines tree ++ codes "DONE" ∷ []))

-- the text of a search that was not finished
abbrev pub part_text : part.PartTree → List ℕ
part_text part = in_lines (head_lines claims.Open ++ (part_lines part ++ codes "SPENT" ∷ []))
