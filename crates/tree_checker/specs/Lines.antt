-- A line of multipliers: whether it closes a path with an end, and why it does not.
use Rattle.std.specs.Prelude.{◌≡◌, ℕ, ◌^◌, ◌≤◌, ℤ, pos, ◌≤ℤ◌, List, ◌∷◌, map, All, Option, IfSome, IsSome}
use Rattle.std.specs.Option.{IsSomeAnd}
use Rattle.std.specs.List.Sorted.{IsStrictlyIncreasing}
use Rattle.whole_rows.specs.WholeRows.{WholeRows}
use Rattle.farkas_rows.specs.declared.line.Use.{Use}
use Rattle.farkas_rows.specs.declared.line.CutUse.{CutUse}
use Rattle.farkas_rows.specs.declared.line.Line.{Line}
use Rattle.farkas_rows.specs.declared.path.Slice.{Slice}
use Rattle.farkas_rows.specs.Inequalities.{Inequality, inequality_at}
use Rattle.farkas_rows.specs.Refutes.{Refutes, line_weight}
use Rattle.proof_tree.specs.Trees.{Closes}
use Rattle.proof_text.specs.Spelling.{in_words, line_words, cut_word, use_word}
use Rattle.proof_text.specs.Printable.{IsMultiplier, IsPrintableLine}
use Rattle.proof_text.specs.Shapes.{HasLineShape}
use Rattle.proof_text.specs.Items.{SpellsItem, IsPrintableItem}
use Rattle.proof_text.specs.declared.items.Item.TheVariants as items
use Rattle.tree_checker.specs.declared.verdict.RejectKind.{RejectKind}
use Rattle.tree_checker.specs.declared.verdict.RejectKind.TheVariants as kinds

-- the text is this first word with a line that closes the path and the end
abbrev pub SpellsClosing : WholeRows → Option ℤ → List Slice → Option Inequality → List ℕ → List ℕ → Type 0
SpellsClosing rows last path end first text = (line : Line) × (text ≡ in_words (first ∷ line_words line)) × Closes rows last path end line

-- the text is this first word with a line over the inequalities of the path and the end
abbrev pub SpellsLineOn : WholeRows → List Slice → Option Inequality → List ℕ → List ℕ → Line → Type 0
SpellsLineOn rows path end first text line = (text ≡ in_words (first ∷ line_words line)) × IsPrintableLine rows path end line

-- the words are those of a line over the inequalities of the path and the end
abbrev pub AreWordsOf : WholeRows → List Slice → Option Inequality → List (List ℕ) → Line → Type 0
AreWordsOf rows path end words line = (words ≡ line_words line) × IsPrintableLine rows path end line

-- the words are those of inequalities of the path and the end, in rising order
pub record AreWordsOfUses (rows : WholeRows) (path : List Slice) (end : Option Inequality) (words : List (List ℕ)) (items : List Use) : Type 0 where
  pub spelled : words ≡ map use_word items
  pub rising : IsStrictlyIncreasing (map (λ (item : Use). item.index) items)
  pub there : All (λ (item : Use). IsSome (inequality_at rows path end item.index)) items
  pub times : All (λ (item : Use). IsMultiplier item.times) items

-- the words are a cut and these others
abbrev pub BeginsWithCut : List (List ℕ) → CutUse → List (List ℕ) → Type 0
BeginsWithCut words cut rest = (words ≡ cut_word cut ∷ rest) × IsPrintableItem (items.Cut cut)

-- the word is an inequality of the path and the end, whose number is at least this one
abbrev pub IsNextUse : WholeRows → List Slice → Option Inequality → ℕ → List ℕ → Use → Type 0
IsNextUse rows path end least word item = SpellsItem word (items.Inequality item) × (least ≤ item.index) × IsSome (inequality_at rows path end item.index)

-- the line weighs at most 2 to the power 126
abbrev pub IsLight : WholeRows → List Slice → Option Inequality → Line → Type 0
IsLight rows path end line = line_weight rows path end line ≤ℤ pos (2 ^ 126)

-- each cut that the line uses has a value of at least the last one
abbrev pub MayUseCut : Option ℤ → Option CutUse → Type 0
MayUseCut last cut = IfSome cut (λ (cut : CutUse). IsSomeAnd last (λ least. least ≤ℤ cut.value))

-- the kinds of a line whose words are read
abbrev pub IsFaultOfLine : WholeRows → Option ℤ → List Slice → Option Inequality → Line → RejectKind → Type 0
IsFaultOfLine rows last path end line kinds.Weight = ¬ IsLight rows path end line
IsFaultOfLine rows last path end line kinds.Cut = IsLight rows path end line × (¬ MayUseCut last line.cut)
IsFaultOfLine rows last path end line kinds.Refute = IsLight rows path end line × MayUseCut last line.cut × (¬ Refutes rows path end line)
IsFaultOfLine rows last path end line _ = ⊥

-- the kinds of a line of multipliers: the first one that holds
abbrev pub IsFaultOn : WholeRows → Option ℤ → List Slice → Option Inequality → List ℕ → List ℕ → RejectKind → Type 0
IsFaultOn rows last path end first text kinds.Record = ¬ HasLineShape first text
IsFaultOn rows last path end first text kinds.Number = HasLineShape first text × ((line : Line) → ¬ SpellsLineOn rows path end first text line)
IsFaultOn rows last path end first text kinds.Weight = (line : Line) × SpellsLineOn rows path end first text line × (¬ IsLight rows path end line)
IsFaultOn rows last path end first text kinds.Cut = (line : Line) × SpellsLineOn rows path end first text line × IsLight rows path end line × (¬ MayUseCut last line.cut)
IsFaultOn rows last path end first text kinds.Refute = (line : Line) × SpellsLineOn rows path end first text line × IsLight rows path end line × MayUseCut last line.cut × (¬ Refutes rows path end line)
IsFaultOn rows last path end first text _ = ⊥
