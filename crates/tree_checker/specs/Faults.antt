-- Why a line does not pass at its place: the first kind that holds.
use Rattle.std.specs.Prelude.{◌≡◌, ◌⊎◌, ℕ, ◌*◌, ◌^◌, ◌≤◌, ◌<◌, ℤ, pos, ◌≤ℤ◌, List, ◌∷◌, length, map, All, codes, Option, Some, None}
use Rattle.std.specs.Fmt.{signed_decimal}
use Rattle.whole_rows.specs.WholeRows.{WholeRows, Meets, span}
use Rattle.farkas_rows.specs.Inequalities.{Inequality}
use Rattle.proof_tree.specs.Trees.{IsOfSize}
use Rattle.proof_text.specs.declared.claim.Claim.{Claim}
use Rattle.proof_text.specs.Spelling.{in_words}
use Rattle.proof_text.specs.Shapes.{IsNumberWord, HasLineShape, HasSplitShape}
use Rattle.tree_checker.specs.declared.verdict.RejectKind.{RejectKind}
use Rattle.tree_checker.specs.declared.verdict.RejectKind.TheVariants as kinds
use Rattle.tree_checker.specs.Accepts.{last_of}
use Rattle.tree_checker.specs.Lines.{IsFaultOn}
use Rattle.tree_checker.specs.Stages.{OpenSplit, Opening, Stage, at_head, at_claim, at_node, at_below, at_above, at_done, at_end, path_of}
use Rattle.tree_checker.specs.Passes.{opening_line, below_of, above_of}

-- the second line is `OPTIMAL` with some numbers, of any length
abbrev pub SpellsNumbers : List ℕ → Type 0
SpellsNumbers text = (words : List (List ℕ)) × (text ≡ in_words (codes "OPTIMAL" ∷ words)) × All IsNumberWord words

-- the second line is `OPTIMAL` with these numbers
abbrev pub SpellsPoint : List ℕ → List ℤ → Type 0
SpellsPoint text x = text ≡ in_words (codes "OPTIMAL" ∷ map signed_decimal x)

-- the kinds of a line of multipliers at its place
abbrev pub IsLineFault : WholeRows → Claim → List OpenSplit → Option Inequality → List ℕ → List ℕ → RejectKind → Type 0
IsLineFault rows claimed splits end first text kind = IsFaultOn rows (last_of rows claimed) (path_of splits) end first text kind

-- the form of a split, its first value and the number of its slices are in their ranges
pub record IsPrintableOpening (rows : WholeRows) (opening : Opening) : Type 0 where
  pub dense : length opening.form ≡ length rows.box
  pub some : ¬ (All (λ factor. factor ≡ pos 0) opening.form)
  pub factors : All (IsOfSize (2 ^ 96)) opening.form
  pub lo : IsOfSize (2 ^ 97) opening.lo
  pub count : (pos 0 ≤ℤ opening.count) × (opening.count ≤ℤ pos (2 ^ 98))

abbrev pub SpellsOpening : WholeRows → List ℕ → Opening → Type 0
SpellsOpening rows text opening = (text ≡ opening_line opening) × IsPrintableOpening rows opening

-- the path has as many slices as it may have, and the split has some
abbrev pub IsTooDeep : WholeRows → List OpenSplit → Opening → Type 0
IsTooDeep rows splits opening = (2 * length rows.box ≤ length splits) × (pos 1 ≤ℤ opening.count)

-- the kinds of the first line of a split
abbrev pub IsSplitFault : WholeRows → List OpenSplit → List ℕ → RejectKind → Type 0
IsSplitFault rows splits text kinds.Number = (opening : Opening) → ¬ SpellsOpening rows text opening
IsSplitFault rows splits text kinds.Depth = (opening : Opening) × SpellsOpening rows text opening × IsTooDeep rows splits opening
IsSplitFault rows splits text kinds.Weight = (opening : Opening) × SpellsOpening rows text opening × (¬ IsTooDeep rows splits opening) × (2 ^ 96 < span opening.form rows.box)
IsSplitFault rows splits text _ = ⊥

-- the kinds of the line of a node: a line, a split, or neither
abbrev pub IsNodeFault : WholeRows → Claim → List OpenSplit → List ℕ → RejectKind → Type 0
IsNodeFault rows claimed splits text kind =
    (HasLineShape (codes "E") text × IsLineFault rows claimed splits None (codes "E") text kind)
    ⊎ ((HasSplitShape text × IsSplitFault rows splits text kind)
    ⊎ ((kind ≡ kinds.Record) × (¬ HasLineShape (codes "E") text) × (¬ HasSplitShape text)))

-- the kind that a line has at its place, where it is not too long
abbrev pub IsFault : WholeRows → Stage → List ℕ → RejectKind → Type 0
IsFault rows at_head text kind = (kind ≡ kinds.Head) × (¬ (text ≡ codes "SLICER 1"))
IsFault rows at_claim text kinds.Claim = (¬ (text ≡ codes "INFEASIBLE")) × (¬ SpellsNumbers text)
IsFault rows at_claim text kinds.Point = SpellsNumbers text × ((x : List ℤ) → SpellsPoint text x → ¬ Meets rows x)
IsFault rows at_claim text _ = ⊥
IsFault rows (at_node claimed splits) text kind = IsNodeFault rows claimed splits text kind
IsFault rows (at_below claimed splits opening) text kind = IsLineFault rows claimed splits (Some (below_of opening)) (codes "B") text kind
IsFault rows (at_above claimed splits opening) text kind = IsLineFault rows claimed splits (Some (above_of opening)) (codes "A") text kind
IsFault rows (at_done claimed) text kind = (kind ≡ kinds.Record) × (¬ (text ≡ codes "DONE"))
IsFault rows (at_end claimed) text kind = ⊥
