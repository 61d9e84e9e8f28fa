-- When a line passes at its place, and where the next one stands then.
use Rattle.std.specs.Prelude.{◌≡◌, ◌⊎◌, ℕ, ◌+◌, ◌*◌, ◌^◌, ◌≤◌, pos, ◌+ℤ◌, ◌≤ℤ◌, List, [], ◌∷◌, length, codes, Option, Some, None}
use Rattle.std.specs.Fmt.{signed_decimal}
use Rattle.whole_rows.specs.WholeRows.{WholeRows}
use Rattle.farkas_rows.specs.Inequalities.{Inequality, below, above}
use Rattle.proof_tree.specs.Trees.{IsSplitForm, IsOfSize}
use Rattle.proof_text.specs.declared.claim.Claim.{Claim}
use Rattle.proof_text.specs.Spelling.{in_words, in_lines, form_words, mark_word, claim_line}
use Rattle.tree_checker.specs.Accepts.{last_of, IsClaim, longest}
use Rattle.tree_checker.specs.Lines.{SpellsClosing}
use Rattle.tree_checker.specs.Stages.{OpenSplit, Opening, Stage, at_head, at_claim, at_node, at_below, at_above, at_done, at_end, path_of, behind, into}

-- the first line of a split
abbrev pub opening_line : Opening → List ℕ
opening_line opening = in_words (codes "S" ∷ mark_word opening.mark ∷ signed_decimal opening.lo ∷ signed_decimal opening.count ∷ form_words 0 opening.form)

-- the end below the slices of a split, and the end above them
abbrev pub below_of : Opening → Inequality
below_of opening = below opening.form opening.lo

abbrev pub above_of : Opening → Inequality
above_of opening = above opening.form (opening.lo +ℤ opening.count)

-- the line is this first word with a line that closes the path and the end
abbrev pub IsClosing : WholeRows → Claim → List OpenSplit → Option Inequality → List ℕ → List ℕ → Type 0
IsClosing rows claimed splits end first text = SpellsClosing rows (last_of rows claimed) (path_of splits) end first text

-- a split may have slices only where the path has room for one more
pub record IsOpening (rows : WholeRows) (splits : List OpenSplit) (opening : Opening) : Type 0 where
  pub form : IsSplitForm rows opening.form
  pub lo : IsOfSize (2 ^ 97) opening.lo
  pub count : (pos 0 ≤ℤ opening.count) × (opening.count ≤ℤ pos (2 ^ 98))
  pub room : pos 1 ≤ℤ opening.count → length splits + 1 ≤ 2 * length rows.box

-- the line passes, and the next one stands there
abbrev pub PassesTo : WholeRows → Stage → List ℕ → Stage → Type 0
PassesTo rows at_head text next = (text ≡ codes "SLICER 1") × (next ≡ at_claim)
PassesTo rows at_claim text next = (claimed : Claim) × (text ≡ claim_line claimed) × IsClaim rows claimed × (next ≡ at_node claimed [])
PassesTo rows (at_node claimed splits) text next =
    (IsClosing rows claimed splits None (codes "E") text × (next ≡ behind claimed splits))
    ⊎ ((opening : Opening) × (text ≡ opening_line opening) × IsOpening rows splits opening × (next ≡ at_below claimed splits opening))
PassesTo rows (at_below claimed splits opening) text next = IsClosing rows claimed splits (Some (below_of opening)) (codes "B") text × (next ≡ at_above claimed splits opening)
PassesTo rows (at_above claimed splits opening) text next = IsClosing rows claimed splits (Some (above_of opening)) (codes "A") text × (next ≡ into claimed splits opening)
PassesTo rows (at_done claimed) text next = (text ≡ codes "DONE") × (next ≡ at_end claimed)
PassesTo rows (at_end claimed) text next = ⊥

-- the lines pass one after another, none of them too long, and the next one stands there
abbrev pub PassTo : WholeRows → Stage → List (List ℕ) → Stage → Type 0
PassTo rows from [] stage = from ≡ stage
PassTo rows from (line ∷ lines) stage = (length line ≤ longest) × (next : Stage) × PassesTo rows from line next × PassTo rows next lines stage

-- the lines of the text pass, from its head to its end
abbrev pub PassesWhole : WholeRows → List ℕ → Claim → Type 0
PassesWhole rows text claim = (lines : List (List ℕ)) × (text ≡ in_lines lines) × PassTo rows at_head lines (at_end claim)
