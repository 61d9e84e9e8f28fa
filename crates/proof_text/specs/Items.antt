-- The words of a line of multipliers and of a form, each with its numbers in their ranges.
use Rattle.std.specs.Prelude.{◌≡◌, ◌≢◌, ℕ, ◌^◌, ◌<◌, ℤ, pos, ◌≤ℤ◌, List, decimal}
use Rattle.std.specs.Fmt.{signed_decimal}
use Rattle.proof_tree.specs.Trees.{IsOfSize}
use Rattle.proof_text.specs.declared.items.Item.{Item}
use Rattle.proof_text.specs.declared.items.Item.TheVariants as items
use Rattle.proof_text.specs.declared.items.Factor.{Factor}
use Rattle.proof_text.specs.Spelling.{pair, cut_word, use_word}
use Rattle.proof_text.specs.Printable.{IsMultiplier}

-- the word is a number between two others
abbrev pub SpellsBetween : ℤ → ℤ → List ℕ → ℤ → Type 0
SpellsBetween low high word number = (word ≡ signed_decimal number) × (low ≤ℤ number) × (number ≤ℤ high)

-- how the cut or an inequality is spelled
abbrev pub item_word : Item → List ℕ
item_word (items.Cut cut) = cut_word cut
item_word (items.Inequality item) = use_word item

-- the numbers of the cut or of an inequality are in their ranges, but for the one that numbers the inequality
abbrev pub IsPrintableItem : Item → Type 0
IsPrintableItem (items.Cut cut) = IsOfSize (2 ^ 97) cut.value × IsMultiplier cut.times
IsPrintableItem (items.Inequality item) = (item.index < 2 ^ 32) × IsMultiplier item.times

abbrev pub SpellsItem : List ℕ → Item → Type 0
SpellsItem word item = (word ≡ item_word item) × IsPrintableItem item

-- the word is a column with its factor, which is not 0
pub record SpellsFactor (word : List ℕ) (factor : Factor) : Type 0 where
  pub spelled : word ≡ pair (decimal factor.column) factor.factor
  pub column : factor.column < 2 ^ 32
  pub some : factor.factor ≢ pos 0
  pub size : IsOfSize (2 ^ 96) factor.factor
