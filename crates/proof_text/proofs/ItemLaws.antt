-- What is read of a word with a colon is what it spells.
use Rattle.std.proofs.Common.{◌≡◌, ◌≢◌, ℕ, ◌^◌, ◌<◌, ◌≤◌, ℤ, pos, neg_ℤ, ◌≤ℤ◌, ◌<ℤ◌, List, ◌∷◌, ◌++◌, All, decimal, sym, subst, ◌∙◌, arith}
use Rattle.std.specs.Fmt.{signed_decimal}
use Rattle.std.proofs.lemmas.Int.{ints}
use Rattle.std.proofs.lemmas.List.Elements.{All-head}
use Rattle.proof_tree.specs.Trees.{IsOfSize}
use Rattle.proof_text.specs.declared.shapes.Pair.{Pair}
use Rattle.proof_text.specs.declared.items.Item.{Item}
use Rattle.proof_text.specs.declared.items.Item.TheVariants as items
use Rattle.proof_text.specs.declared.items.Factor.{Factor}
use Rattle.proof_text.specs.Shapes.{IsToken, IsDigit, IsPair}
use Rattle.proof_text.specs.Printable.{IsMultiplier}
use Rattle.proof_text.specs.Lent.{IsPairOf}
use Rattle.proof_text.specs.Numbers.{SpellsSize, SpellsNumber}
use Rattle.proof_text.specs.NumberLaws.{decimal-digits, decimal-same}
use Rattle.proof_text.specs.TokenLaws.{decimal-token, signed-token, signed-same, token-cons}
use Rattle.proof_text.specs.Items.{SpellsBetween, SpellsItem, SpellsFactor}
use Rattle.proof_text.specs.PairLaws.{same_cut, token_free}

module _ (low high : ℤ) (least : neg_ℤ (pos (2 ^ 126)) ≤ℤ low) (most : high ≤ℤ pos (2 ^ 126)) (word : List ℕ) where
  in_size : (number : ℤ) → low ≤ℤ number → number ≤ℤ high → IsOfSize (2 ^ 126) number
  in_size number l h = (omega (arith, ints, least, l), omega (arith, ints, most, h))

  -- a word that spells no number spells none between
  pub none_between : ((number : ℤ) → SpellsNumber word number → ⊥) → (number : ℤ) → SpellsBetween low high word number → ⊥
  none_between none number spells = none number (spells.0, in_size number spells.1 spells.2)

  same_number : (read number : ℤ) → SpellsNumber word read → SpellsBetween low high word number → read ≡ number
  same_number read number r spells = signed-same read number r.1 (in_size number spells.1 spells.2) (sym r.0 ∙ spells.0)

  pub below_low : (read : ℤ) → SpellsNumber word read → read <ℤ low → (number : ℤ) → SpellsBetween low high word number → ⊥
  below_low read r below number spells = omega (arith, ints, subst (λ n. n <ℤ low) (same_number read number r spells) below, spells.1)

  pub above_high : (read : ℤ) → SpellsNumber word read → high <ℤ read → (number : ℤ) → SpellsBetween low high word number → ⊥
  above_high read r above number spells = omega (arith, ints, subst (λ n. high <ℤ n) (same_number read number r spells) above, spells.2)

small_place : (place : ℕ) → place < 2 ^ 32 → place ≤ 2 ^ 126
small_place place h = omega (arith, h)

-- a word with a colon between tokens is cut at it
pub pair_cut : (word first second : List ℕ) (parts : Pair) → IsPairOf word parts → IsToken first → IsToken second → word ≡ first ++ 58 ∷ second → (parts.first.now ≡ first) × (parts.second.now ≡ second)
pair_cut word first second parts p a b e = same_cut 58 parts.first.now first parts.second.now second (token_free parts.first.now p.first) (token_free first a) (sym p.spelled ∙ e)

-- a number of a smaller size
from_97 : (z : ℤ) → IsOfSize (2 ^ 97) z → IsOfSize (2 ^ 126) z
from_97 z h = (omega (arith, ints, h.0), omega (arith, ints, h.1))

from_96 : (z : ℤ) → IsOfSize (2 ^ 96) z → IsOfSize (2 ^ 126) z
from_96 z h = (omega (arith, ints, h.0), omega (arith, ints, h.1))

times_size : (z : ℤ) → IsMultiplier z → IsOfSize (2 ^ 126) z
times_size z h = (omega (arith, ints, h.0), omega (arith, ints, h.1))

place_token : (place : ℕ) → place < 2 ^ 32 → IsToken (decimal place)
place_token place h = decimal-token place (omega (arith, h))

letter_token : (word : List ℕ) → IsToken word → IsToken (90 ∷ word)
letter_token word t = token-cons 90 word (λ e. omega (arith, e)) (λ e. omega (arith, e)) t

-- ---- the cut or an inequality

item_first : Item → List ℕ
item_first (items.Cut cut) = 90 ∷ signed_decimal cut.value
item_first (items.Inequality item) = decimal item.index

item_times : Item → ℤ
item_times (items.Cut cut) = cut.times
item_times (items.Inequality item) = item.times

record HasItem (word : List ℕ) (item : Item) : Type 0 where
  spelled : word ≡ item_first item ++ 58 ∷ signed_decimal (item_times item)
  first : IsToken (item_first item)
  second : IsToken (signed_decimal (item_times item))
  times : IsMultiplier (item_times item)

has_item : (word : List ℕ) (item : Item) → SpellsItem word item → HasItem word item
unfolding item_first item_times
has_item word (items.Cut cut) s = record {
  spelled = s.0;
  first = letter_token (signed_decimal cut.value) (signed-token cut.value (from_97 cut.value s.1.0));
  second = signed-token cut.times (times_size cut.times s.1.1);
  times = s.1.1;
}
has_item word (items.Inequality item) s = record {
  spelled = s.0;
  first = place_token item.index s.1.0;
  second = signed-token item.times (times_size item.times s.1.1);
  times = s.1.1;
}

-- a word without a colon between tokens is none
pub no_item_pair : (word : List ℕ) → (IsPair word → ⊥) → (item : Item) → SpellsItem word item → ⊥
no_item_pair word none item s = let h = has_item word item s in none (item_first item, signed_decimal (item_times item), h.spelled, h.first, h.second)

parts_of : (word : List ℕ) (parts : Pair) (item : Item) → IsPairOf word parts → SpellsItem word item → (parts.first.now ≡ item_first item) × (parts.second.now ≡ signed_decimal (item_times item))
parts_of word parts item p s = let h = has_item word item s in pair_cut word (item_first item) (signed_decimal (item_times item)) parts p h.first h.second h.spelled

-- nor is one without a multiplier
pub no_item_times : (word : List ℕ) (parts : Pair) → IsPairOf word parts → ((times : ℤ) → SpellsBetween (pos 1) (pos (2 ^ 126)) parts.second.now times → ⊥) → (item : Item) → SpellsItem word item → ⊥
no_item_times word parts p none item s = let h = has_item word item s in none (item_times item) ((parts_of word parts item p s).1, h.times.0, h.times.1)

no_letter : (place : ℕ) (rest : List ℕ) → place < 2 ^ 32 → decimal place ≡ 90 ∷ rest → ⊥
no_letter place rest h e = omega (arith, (All-head IsDigit 90 rest (subst (All IsDigit) e (decimal-digits place (omega (arith, h))))).1)

-- nor is a cut without a value
pub no_item_value : (word digits : List ℕ) (parts : Pair) → IsPairOf word parts → parts.first.now ≡ 90 ∷ digits → ((value : ℤ) → SpellsBetween (neg_ℤ (pos (2 ^ 97))) (pos (2 ^ 97)) digits value → ⊥)
    → (item : Item) → SpellsItem word item → ⊥
unfolding item_first
no_item_value word digits parts p letter none (items.Cut cut) s =
    let first : 90 ∷ digits ≡ 90 ∷ signed_decimal cut.value = sym letter ∙ (parts_of word parts (items.Cut cut) p s).0 in
    none cut.value (cc (first), s.1.0.0, s.1.0.1)
no_item_value word digits parts p letter none (items.Inequality item) s = no_letter item.index digits s.1.0 (sym (parts_of word parts (items.Inequality item) p s).0 ∙ letter)

-- nor is an inequality without a number
pub no_item_index : (word : List ℕ) (parts : Pair) → IsPairOf word parts → ((rest : List ℕ) → parts.first.now ≢ 90 ∷ rest) → ((place : ℕ) → place < 2 ^ 32 → parts.first.now ≢ decimal place)
    → (item : Item) → SpellsItem word item → ⊥
unfolding item_first
no_item_index word parts p letter none (items.Cut cut) s = letter (signed_decimal cut.value) (parts_of word parts (items.Cut cut) p s).0
no_item_index word parts p letter none (items.Inequality item) s = none item.index s.1.0 (parts_of word parts (items.Inequality item) p s).0

-- ---- a factor

pub no_factor_pair : (word : List ℕ) → (IsPair word → ⊥) → (factor : Factor) → SpellsFactor word factor → ⊥
no_factor_pair word none factor s = none (decimal factor.column, signed_decimal factor.factor, s.spelled, place_token factor.column s.column, signed-token factor.factor (from_96 factor.factor s.size))

factor_parts : (word : List ℕ) (parts : Pair) (factor : Factor) → IsPairOf word parts → SpellsFactor word factor → (parts.first.now ≡ decimal factor.column) × (parts.second.now ≡ signed_decimal factor.factor)
factor_parts word parts factor p s =
    pair_cut word (decimal factor.column) (signed_decimal factor.factor) parts p (place_token factor.column s.column) (signed-token factor.factor (from_96 factor.factor s.size)) s.spelled

pub no_factor_column : (word : List ℕ) (parts : Pair) → IsPairOf word parts → ((place : ℕ) → place < 2 ^ 32 → parts.first.now ≢ decimal place) → (factor : Factor) → SpellsFactor word factor → ⊥
no_factor_column word parts p none factor s = none factor.column s.column (factor_parts word parts factor p s).0

pub no_factor_number : (word : List ℕ) (parts : Pair) → IsPairOf word parts → ((number : ℤ) → SpellsBetween (neg_ℤ (pos (2 ^ 96))) (pos (2 ^ 96)) parts.second.now number → ⊥) → (factor : Factor) → SpellsFactor word factor → ⊥
no_factor_number word parts p none factor s = none factor.factor ((factor_parts word parts factor p s).1, s.size.0, s.size.1)

pub no_factor_zero : (word : List ℕ) (parts : Pair) (number : ℤ) → IsPairOf word parts → SpellsBetween (neg_ℤ (pos (2 ^ 96))) (pos (2 ^ 96)) parts.second.now number → number ≡ pos 0 → (factor : Factor) → SpellsFactor word factor → ⊥
no_factor_zero word parts number p read zero_number factor s =
    s.some (sym (signed-same number factor.factor (from_96 number (read.1, read.2)) (from_96 factor.factor s.size) (sym read.0 ∙ (factor_parts word parts factor p s).1)) ∙ zero_number)

-- ---- a place

pub place_too_large : (word : List ℕ) (read : ℕ) → SpellsSize word read → 2 ^ 32 ≤ read → (place : ℕ) → place < 2 ^ 32 → word ≡ decimal place → ⊥
place_too_large word read r large place h e = omega (arith, large, h, decimal-same read place (omega (arith, r.1)) (omega (arith, h)) (sym r.0 ∙ e))

pub none_small : (word : List ℕ) → ((number : ℕ) → SpellsSize word number → ⊥) → (place : ℕ) → place < 2 ^ 32 → word ≡ decimal place → ⊥
none_small word none place h e = none place (e, small_place place h)
