-- What is read of the first line of a split.
use Rattle.std.specs.Prelude.{◌≡◌, ◌⊎◌, ℕ, ◌^◌, ℤ, pos, neg_ℤ, List, All}
use Rattle.whole_rows.specs.WholeRows.{WholeRows}
use Rattle.proof_tree.specs.Trees.{IsOfSize}
use Rattle.proof_text.specs.declared.shapes.SplitWords.{SplitWords}
use Rattle.proof_text.specs.Spelling.{form_words}
use Rattle.proof_text.specs.Shapes.{HasSplitShape}
use Rattle.proof_text.specs.Items.{SpellsBetween}
use Rattle.tree_checker.specs.declared.opening.Range.{Range}
use Rattle.tree_checker.specs.declared.verdict.RejectKind.{RejectKind}
use Rattle.tree_checker.specs.declared.verdict.RejectKind.TheVariants as kinds
use Rattle.tree_checker.specs.Stages.{OpenSplit, Opening}
use Rattle.tree_checker.specs.Passes.{opening_line, IsOpening}
use Rattle.tree_checker.specs.Faults.{IsSplitFault}

-- the words are this form, none of whose factors is larger than 2 to the power 96 in size
abbrev pub AreFormWords : List (List ℕ) → List ℤ → Type 0
AreFormWords words form = (words ≡ form_words 0 form) × All (IsOfSize (2 ^ 96)) form

-- the mark, and the values, that the words spell
pub record SpellsRange (words : SplitWords) (range : Range) : Type 0 where
  pub mark : words.mark ≡ range.mark
  pub lo : SpellsBetween (neg_ℤ (pos (2 ^ 97))) (pos (2 ^ 97)) words.lo.now range.lo
  pub count : SpellsBetween (pos 0) (pos (2 ^ 98)) words.count.now range.count

-- the values with a form
abbrev pub opening_of : Range → List ℤ → Opening
opening_of range form = record { mark = range.mark; form = form; lo = range.lo; count = range.count }

-- the line opens a split below these
abbrev pub Opens : WholeRows → List OpenSplit → List ℕ → Opening → Type 0
Opens rows splits text opening = (text ≡ opening_line opening) × IsOpening rows splits opening

-- the line opens none, and why
abbrev pub IsUnopened : WholeRows → List OpenSplit → List ℕ → RejectKind → Type 0
IsUnopened rows splits text kind = ((kind ≡ kinds.Record) × (¬ HasSplitShape text)) ⊎ (HasSplitShape text × IsSplitFault rows splits text kind)
