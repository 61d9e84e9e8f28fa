-- What is read of a line of multipliers is what it spells.
use Rattle.std.proofs.Common.{◌≡◌, ℕ, ◌-◌, ◌^◌, ◌<◌, pos, Bool, List, [], ◌∷◌, ◌++◌, length, get_or, map, All, Option, Some, None, IfSome, IsSome, option_map, option_to_list, refl, sym, ap, ◌∙◌, arith}
use Rattle.std.specs.List.Sorted.{IsStrictlyIncreasing}
use Rattle.std.proofs.lemmas.List.{length-replicate}
use Rattle.std.proofs.lemmas.List.Elements.{All-cons, All-head, All-tail, All-map, All-weaker}
use Rattle.whole_rows.specs.WholeRows.{WholeRows, IsWithinLimits}
use Rattle.farkas_rows.specs.declared.line.Use.{Use}
use Rattle.farkas_rows.specs.declared.line.CutUse.{CutUse}
use Rattle.farkas_rows.specs.declared.line.Line.{Line}
use Rattle.farkas_rows.specs.Inequalities.{inequalities, inequality_at}
use Rattle.farkas_rows.specs.Refutes.{multipliers}
use Rattle.proof_tree.specs.Trees.{IsOfSize}
use Rattle.proof_text.specs.declared.items.Item.{Item}
use Rattle.proof_text.specs.declared.items.Item.TheVariants as items
use Rattle.proof_text.specs.Spelling.{in_words, cut_word, use_word, line_words}
use Rattle.proof_text.specs.Printable.{IsMultiplier}
use Rattle.proof_text.specs.Shapes.{ArePairs}
use Rattle.proof_text.specs.Items.{SpellsItem}
use Rattle.proof_text.specs.PairLaws.{pairs_words, words_behind}
use Rattle.proof_text.specs.PrintedShapes.{line_words-pairs}
use Rattle.proof_text.specs.LineLengths.{inequalities-length, past}
use Rattle.proof_text.specs.OneLine.{IsSmallUse, IsSmallCut, IsSmallLine, cut_is_no_use, same_uses, printable-small}
use Rattle.proof_text.specs.Reads.{some_path, some_end, TakesCut, IsReadUse, SpellsLine}

small_use : (item : Use) → IsReadUse item → IsSmallUse item
small_use item h = (omega (arith, h.0), h.1)

-- ---- one word

-- the word of an inequality is none of the cut
pub use_no_cut : (word : List ℕ) (words rest : List (List ℕ)) (item : Use) → SpellsItem word (items.Inequality item) → words ≡ word ∷ rest → (cut : CutUse) (more : List (List ℕ)) → IsSmallCut cut → words ≡ cut_word cut ∷ more → ⊥
use_no_cut word words rest item s e cut more small f =
    let same : cut_word cut ≡ use_word item = cc (e, f, s.0) in
    cut_is_no_use cut item small (small_use item s.1) same

-- nor is a word that spells nothing
pub nothing_no_cut : (word : List ℕ) (words rest : List (List ℕ)) → ((item : Item) → SpellsItem word item → ⊥) → words ≡ word ∷ rest → (cut : CutUse) (more : List (List ℕ)) → IsSmallCut cut → words ≡ cut_word cut ∷ more → ⊥
nothing_no_cut word words rest none e cut more small f =
    let same : word ≡ cut_word cut = cc (e, f) in
    none (items.Cut cut) (same, small)

pub nothing_no_use : (word : List ℕ) → ((item : Item) → SpellsItem word item → ⊥) → (item : Use) → IsReadUse item → word ≡ use_word item → ⊥
nothing_no_use word none item h e = none (items.Inequality item) (e, h)

pub cut_no_use : (word : List ℕ) (cut : CutUse) → SpellsItem word (items.Cut cut) → (item : Use) → IsReadUse item → word ≡ use_word item → ⊥
cut_no_use word cut s item h e = cut_is_no_use cut item s.1 (small_use item h) (sym s.0 ∙ e)

-- ---- words, one after another

-- the word behind those that are spelled by as many items is spelled by the next item
pub next_use : (read items : List Use) (word : List ℕ) (rest : List (List ℕ)) → All IsReadUse items → map use_word read ++ word ∷ rest ≡ map use_word items → (item : Use) × IsReadUse item × (word ≡ use_word item)
next_use [] [] word rest h e = absurd cc
next_use [] (item ∷ items) word rest h e = (item, All-head IsReadUse item items h, cc)
next_use (r ∷ read) [] word rest h e = absurd cc
next_use (r ∷ read) (item ∷ items) word rest h e =
    let tail : map use_word read ++ word ∷ rest ≡ map use_word items = cc in
    next_use read items word rest (All-tail IsReadUse item items h) tail

-- ---- a line

module _ (rows : WholeRows) (limits : IsWithinLimits rows) (depth : ℕ) (short : depth < 2 ^ 31 - 1024) (has_end : Bool) (first : ℕ) (text : List ℕ) where
  length-path : length (some_path depth) ≡ depth
  length-path = length-replicate depth (record { form = []; beta = pos 0 })

  small_line : (line : Line) → SpellsLine rows depth has_end first text line → IsSmallLine line
  small_line line s = printable-small rows (some_path depth) (some_end has_end) line limits.few_rows limits.few_columns (omega (arith, length-path, short)) s.printable

  read_items : (line : Line) → SpellsLine rows depth has_end first text line → All IsReadUse line.items
  read_items line s =
      let sides : length (inequalities rows (some_path depth) (some_end has_end)) < 2 ^ 32 = omega (arith, inequalities-length rows (some_path depth) (some_end has_end), length-path, short, limits.few_rows, limits.few_columns) in
      let small = small_line line s in
      λ k d h. (omega (arith, past (inequalities rows (some_path depth) (some_end has_end)) (get_or line.items k d).index (s.printable.there k d h), sides), (small.items k d h).1)

  words_are : (line : Line) (words : List (List ℕ)) → SpellsLine rows depth has_end first text line → (text ≡ in_words ((first ∷ []) ∷ words)) × ArePairs words → words ≡ line_words line
  words_are line words s w = words_behind first words (line_words line) (pairs_words words w.1.1) (pairs_words (line_words line) (line_words-pairs line)) (sym w.0 ∙ s.spelled)

  taken : (cut other : Option CutUse) (items : List Use) (words rest : List (List ℕ)) → IfSome cut IsSmallCut → All IsSmallUse items → words ≡ option_to_list (option_map cut_word cut) ++ map use_word items → TakesCut words rest other → rest ≡ map use_word items
  taken None None items words rest c h e t = t.0 ∙ e
  taken None (Some other) [] words rest c h e t = absurd cc
  taken None (Some other) (item ∷ items) words rest c h e t =
      let same : cut_word other ≡ use_word item = cc (e, t.1) in
      absurd (cut_is_no_use other item t.0 (All-head IsSmallUse item items h) same)
  taken (Some cut) None items words rest c h e t = absurd (t.1 cut (map use_word items) c e)
  taken (Some cut) (Some other) items words rest c h e t = cc (e, t.1)

  -- what is left behind the cut is spelled by the line's items
  pub rest_is : (line : Line) (words rest : List (List ℕ)) (cut : Option CutUse) → SpellsLine rows depth has_end first text line → (text ≡ in_words ((first ∷ []) ∷ words)) × ArePairs words → TakesCut words rest cut → All IsReadUse line.items × (rest ≡ map use_word line.items)
  rest_is line words rest cut s w t =
      let small = small_line line s in
      (read_items line s, taken line.cut cut line.items words rest small.cut small.items (words_are line words s w) t)

  -- so the items that are read are the line's
  pub items_are : (line : Line) (items : List Use) (words rest : List (List ℕ)) (cut : Option CutUse) → SpellsLine rows depth has_end first text line → (text ≡ in_words ((first ∷ []) ∷ words)) × ArePairs words → TakesCut words rest cut
      → All IsReadUse items × (rest ≡ map use_word items) → line.items ≡ items
  items_are line items words rest cut s w t r =
      let at = rest_is line words rest cut s w t in
      same_uses line.items items (All-weaker IsReadUse IsSmallUse small_use line.items at.0) (All-weaker IsReadUse IsSmallUse small_use items r.0) (sym at.1 ∙ r.1)

taken_words : (cut : Option CutUse) (items : List Use) (words rest : List (List ℕ)) → TakesCut words rest cut → rest ≡ map use_word items → words ≡ option_to_list (option_map cut_word cut) ++ map use_word items
taken_words None items words rest t e = sym t.0 ∙ e
taken_words (Some cut) items words rest t e = t.1 ∙ ap (λ r. cut_word cut ∷ r) e

uses_none : (cut : Option CutUse) (items : List Use) → multipliers (record { cut = cut; items = items }) ≡ [] → option_to_list (option_map cut_word cut) ++ map use_word items ≡ []
uses_none None [] e = refl
uses_none None (item ∷ items) e = absurd cc
uses_none (Some cut) items e = absurd cc

times_are : (cut : Option CutUse) (items : List Use) (words rest : List (List ℕ)) → TakesCut words rest cut → All IsReadUse items → All IsMultiplier (multipliers (record { cut = cut; items = items }))
times_are None items words rest t h = All-map IsMultiplier (λ (item : Use). item.times) items (All-weaker IsReadUse (λ (item : Use). IsMultiplier item.times) (λ item r. r.1) items h)
times_are (Some cut) items words rest t h =
    All-cons IsMultiplier cut.times (map (λ (item : Use). item.times) items) t.0.1
    (All-map IsMultiplier (λ (item : Use). item.times) items (All-weaker IsReadUse (λ (item : Use). IsMultiplier item.times) (λ item r. r.1) items h))

value_is : (cut : Option CutUse) (words rest : List (List ℕ)) → TakesCut words rest cut → IfSome cut (λ (used : CutUse). IsOfSize (2 ^ 97) used.value)
value_is None words rest t = tt
value_is (Some cut) words rest t = t.0.0

-- the line that is read of its words
pub line_read : (rows : WholeRows) (depth : ℕ) (has_end : Bool) (first : ℕ) (text : List ℕ) (cut : Option CutUse) (items : List Use) (words rest : List (List ℕ)) → (text ≡ in_words ((first ∷ []) ∷ words)) × ArePairs words → TakesCut words rest cut
    → All IsReadUse items × (rest ≡ map use_word items) → IsStrictlyIncreasing (map (λ (item : Use). item.index) items) → All (λ (item : Use). IsSome (inequality_at rows (some_path depth) (some_end has_end) item.index)) items
    → SpellsLine rows depth has_end first text (record { cut = cut; items = items })
line_read rows depth has_end first text cut items words rest w t r rising there =
    let whole = taken_words cut items words rest t r.1 in record {
      spelled = w.0 ∙ ap (λ ws. in_words ((first ∷ []) ∷ ws)) whole;
      printable = record {
        some = λ none. w.1.0 (whole ∙ uses_none cut items none);
        rising = rising;
        there = there;
        times = times_are cut items words rest t r.0;
        value = value_is cut words rest t;
      };
    }
