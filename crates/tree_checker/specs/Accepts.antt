-- When a text shows that its claim is true.
use Rattle.std.specs.Prelude.{ℕ, ◌≤◌, ℤ, List, [], length, All, Option, Some, None}
use Rattle.whole_rows.specs.WholeRows.{WholeRows, Meets, HasLeastCutValue, cut_value}
use Rattle.proof_tree.specs.declared.tree.Tree.{Tree}
use Rattle.proof_tree.specs.Trees.{Holds}
use Rattle.proof_text.specs.declared.claim.Claim.{Claim}
use Rattle.proof_text.specs.declared.claim.Claim.TheVariants as claims
use Rattle.proof_text.specs.Spelling.{head_lines, tree_lines}
use Rattle.proof_text.specs.Printable.{Spells}

-- the most bytes that a line may have in front of its line feed
abbrev pub longest : ℕ
longest = 98304

-- the cut value below which no point is to be; none where no point is to be at all
abbrev pub last_of : WholeRows → Claim → Option ℤ
last_of rows claims.Infeasible = None
last_of rows (claims.Optimal x) = Some (cut_value rows x)
last_of rows claims.Open = None

-- the claimed point is one; an open search claims nothing
abbrev pub IsClaim : WholeRows → Claim → Type 0
IsClaim rows claims.Infeasible = Unit {0}
IsClaim rows (claims.Optimal x) = Meets rows x
IsClaim rows claims.Open = ⊥

-- what the claim says of the rows
abbrev pub IsTrueOf : WholeRows → Claim → Type 0
IsTrueOf rows claims.Infeasible = (x : List ℤ) → Meets rows x → ⊥
IsTrueOf rows (claims.Optimal x) = HasLeastCutValue rows x
IsTrueOf rows claims.Open = ⊥

-- no line is too long
abbrev pub HasShortLines : List (List ℕ) → Type 0
HasShortLines lines = All (λ line. length line ≤ longest) lines

-- the text spells the claim and a tree that holds for it
pub record Accepts (rows : WholeRows) (text : List ℕ) (claim : Claim) : Type 0 where
  pub tree : Tree
  pub spells : Spells rows text claim tree
  pub short : HasShortLines (tree_lines tree)
  pub short_head : HasShortLines (head_lines claim)
  pub point : IsClaim rows claim
  pub holds : Holds rows (last_of rows claim) [] tree
