-- What the words of a line of multipliers spell.
use Rattle.std.proofs.Common.{◌≡◌, ◌≢◌, ℕ, ◌+◌, ◌*◌, ◌^◌, ◌<◌, ◌≤◌, List, [], ◌∷◌, ◌++◌, length, map, All, Option, Some, None, IfSome, IsSome, option_map, option_to_list, refl, sym, ap, ◌∙◌, arith}
use Rattle.std.proofs.lemmas.List.Splits.{length-slice_split}
use Rattle.std.proofs.lemmas.List.Elements.{All-nil, All-cons, All-head, All-tail}
use Rattle.whole_rows.specs.WholeRows.{WholeRows, IsWithinLimits}
use Rattle.farkas_rows.specs.declared.line.Use.{Use}
use Rattle.farkas_rows.specs.declared.line.CutUse.{CutUse}
use Rattle.farkas_rows.specs.declared.line.Line.{Line}
use Rattle.farkas_rows.specs.declared.path.Slice.{Slice}
use Rattle.farkas_rows.specs.Inequalities.{Inequality, inequalities, inequality_at}
use Rattle.farkas_rows.specs.Refutes.{multipliers}
use Rattle.proof_text.specs.declared.items.Item.{Item}
use Rattle.proof_text.specs.declared.items.Item.TheVariants as items
use Rattle.proof_text.specs.Items.{SpellsItem}
use Rattle.proof_text.specs.Shapes.{HasLineShape}
use Rattle.proof_text.specs.Words.{is_blank, IsWord, words_of}
use Rattle.proof_text.specs.WordLaws.{words_of-in, in_words-of}
use Rattle.proof_text.specs.PrintedShapes.{line_words-pairs}
use Rattle.proof_text.specs.LineLengths.{inequalities-length, past}
use Rattle.proof_text.specs.PairLaws.{pairs_words}
use Rattle.proof_text.specs.OneLine.{IsSmallUse, same_use, same_cut_use, cut_is_no_use}
use Rattle.proof_text.specs.Printable.{IsMultiplier}
use Rattle.proof_text.specs.Spelling.{further, in_words, line_words, cut_word, use_word}
use Rattle.tree_checker.specs.Lines.{SpellsLineOn, AreWordsOf}

-- ---- one word

small : (item : Use) → (item.index < 2 ^ 32) × IsMultiplier item.times → IsSmallUse item
small item h = (omega (arith, h.0), h.1)

-- a word spells one cut or one inequality at most
pub item_same : (word : List ℕ) (item other : Item) → SpellsItem word item → SpellsItem word other → item ≡ other
item_same word (items.Cut cut) (items.Cut other) s t = ap items.Cut (same_cut_use cut other s.1 t.1 (sym s.0 ∙ t.0))
item_same word (items.Cut cut) (items.Inequality other) s t = absurd (cut_is_no_use cut other s.1 (small other t.1) (sym s.0 ∙ t.0))
item_same word (items.Inequality item) (items.Cut other) s t = absurd (cut_is_no_use other item t.1 (small item s.1) (sym t.0 ∙ s.0))
item_same word (items.Inequality item) (items.Inequality other) s t = ap items.Inequality (same_use item other (small item s.1) (small other t.1) (sym s.0 ∙ t.0))

-- ---- the words of a line

-- a line that uses something has a word
line_words-some : (cut : Option CutUse) (items : List Use) → multipliers (record { cut = cut; items = items }) ≢ [] → option_to_list (option_map cut_word cut) ++ map use_word items ≢ []
line_words-some None [] some e = some refl
line_words-some None (item ∷ items) some e = absurd cc
line_words-some (Some cut) items some e = absurd cc

further_in : (words : List (List ℕ)) → words ≢ [] → further words ≡ 32 ∷ in_words words
further_in [] some = absurd (some refl)
further_in (word ∷ words) some = refl

-- a line has a word
pub words_of-some : (line : List ℕ) → words_of line ≢ []
words_of-some line e = omega (arith, length-slice_split is_blank line, ap length e)

-- a text with the shape of a line begins with its first word and a blank
pub shape_behind : (first : ℕ) (text : List ℕ) → HasLineShape (first ∷ []) text → (rest : List ℕ) × (text ≡ first ∷ 32 ∷ rest)
shape_behind first text shape = (in_words shape.0, shape.1 ∙ ap (λ r. first ∷ r) (further_in shape.0 shape.2.0))

words_back : (words : List (List ℕ)) → words ≢ [] → All IsWord words → words_of (in_words words) ≡ words
words_back [] some h = absurd (some refl)
words_back (word ∷ words) some h = words_of-in word words h

module _ (rows : WholeRows) (path : List Slice) (end : Option Inequality) (first : ℕ) (text rest : List ℕ) (line : Line) (e : text ≡ first ∷ 32 ∷ rest) where
  -- what is behind the first word of a text that spells a line has the words of the line
  pub words_behind : SpellsLineOn rows path end (first ∷ []) text line → AreWordsOf rows path end (words_of rest) line
  words_behind spells =
      let words : List (List ℕ) = line_words line in
      let some : words ≢ [] = line_words-some line.cut line.items spells.1.some in
      let whole : first ∷ 32 ∷ rest ≡ first ∷ 32 ∷ in_words words = sym e ∙ spells.0 ∙ ap (λ r. first ∷ r) (further_in words some) in
      let behind : rest ≡ in_words words = cc in
      (ap words_of behind ∙ words_back words some (pairs_words words (line_words-pairs line)), spells.1)

  -- and back
  pub spelled_behind : AreWordsOf rows path end (words_of rest) line → SpellsLineOn rows path end (first ∷ []) text line
  spelled_behind are =
      let words : List (List ℕ) = line_words line in
      let some : words ≢ [] = line_words-some line.cut line.items are.1.some in
      let behind : rest ≡ in_words words = sym (in_words-of rest) ∙ ap in_words are.0 in
      (e ∙ ap (λ r. first ∷ 32 ∷ r) behind ∙ ap (λ r. first ∷ r) (sym (further_in words some)), are.1)

-- ---- the inequalities of a path and an end have small numbers

-- a number that names one is below their count
pub side_below : (rows : WholeRows) (path : List Slice) (end : Option Inequality) (number : ℕ) → IsSome (inequality_at rows path end number) → number < 2 * length rows.rows + 2 * length rows.box + 2 * length path + 1
side_below rows path end number there = omega (arith, past (inequalities rows path end) number there, inequalities-length rows path end)

pub side_small : (rows : WholeRows) (path : List Slice) (end : Option Inequality) (number : ℕ) → IsWithinLimits rows → length path ≤ 2 * length rows.box → IsSome (inequality_at rows path end number) → number < 2 ^ 32
side_small rows path end number limits short there = omega (arith, side_below rows path end number there, limits.few_rows, limits.few_columns, short)

-- ---- the multipliers of a line

unmapped : (uses : List Use) → All IsMultiplier (map (λ (item : Use). item.times) uses) → All (λ (item : Use). IsMultiplier item.times) uses
unmapped [] h = All-nil (λ (item : Use). IsMultiplier item.times)
unmapped (item ∷ uses) h =
    All-cons (λ (used : Use). IsMultiplier used.times) item uses (All-head IsMultiplier item.times (map (λ (used : Use). used.times) uses) h)
    (unmapped uses (All-tail IsMultiplier item.times (map (λ (used : Use). used.times) uses) h))

-- the multipliers of a line, by its parts
pub times_parts : (cut : Option CutUse) (uses : List Use) → All IsMultiplier (multipliers (record { cut = cut; items = uses })) → IfSome cut (λ (used : CutUse). IsMultiplier used.times) × All (λ (item : Use). IsMultiplier item.times) uses
times_parts None uses h = (tt, unmapped uses h)
times_parts (Some cut) uses h = (All-head IsMultiplier cut.times (map (λ (item : Use). item.times) uses) h, unmapped uses (All-tail IsMultiplier cut.times (map (λ (item : Use). item.times) uses) h))
