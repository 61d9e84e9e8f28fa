-- What is read of the line of a claim.
use Rattle.std.specs.Prelude.{◌≡◌, ◌^◌, ℕ, ℤ, List, map, All, Option, Some, None}
use Rattle.std.specs.Fmt.{signed_decimal}
use Rattle.whole_rows.specs.WholeRows.{WholeRows}
use Rattle.proof_tree.specs.Trees.{IsOfSize}
use Rattle.proof_text.specs.declared.claim.Claim.{Claim}
use Rattle.proof_text.specs.declared.claim.Claim.TheVariants as claims
use Rattle.proof_text.specs.Spelling.{claim_line}
use Rattle.tree_checker.specs.Accepts.{last_of, IsClaim}

-- the words are these numbers, none of which is larger than 2 to the power 96 in size
abbrev pub AreNumbers : List (List ℕ) → List ℤ → Type 0
AreNumbers words x = (words ≡ map signed_decimal x) × All (IsOfSize (2 ^ 96)) x

-- the claim of a point with a cut value, or that there is none
abbrev pub claim_of : List ℤ → Option ℤ → Claim
claim_of point None = claims.Infeasible
claim_of point (Some last) = claims.Optimal point

-- the line claims the point, whose cut value is this, or that there is none
pub record IsClaimed (rows : WholeRows) (text : List ℕ) (point : List ℤ) (last : Option ℤ) : Type 0 where
  pub spelled : text ≡ claim_line (claim_of point last)
  pub is_claim : IsClaim rows (claim_of point last)
  pub value : last ≡ last_of rows (claim_of point last)
