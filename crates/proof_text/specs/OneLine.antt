-- A line of multipliers is spelled in one way, and no words spell two.
use Rattle.std.proofs.Common.{◌≡◌, ℕ, ◌^◌, ◌<◌, ◌≤◌, ℤ, List, [], ◌∷◌, ◌++◌, length, map, Option, Some, None, IfSome, IsSome, All, decimal, option_map, option_to_list, refl, sym, ap, subst, ◌∙◌, arith}
use Rattle.std.specs.Fmt.{signed_decimal}
use Rattle.std.proofs.lemmas.Int.{ints}
use Rattle.std.proofs.lemmas.List.Elements.{All-nil, All-cons, All-head, All-tail, All-weaker}
use Rattle.whole_rows.specs.WholeRows.{WholeRows}
use Rattle.farkas_rows.specs.declared.line.Use.{Use}
use Rattle.farkas_rows.specs.declared.line.CutUse.{CutUse}
use Rattle.farkas_rows.specs.declared.line.Line.{Line}
use Rattle.farkas_rows.specs.declared.path.Slice.{Slice}
use Rattle.farkas_rows.specs.Inequalities.{Inequality, inequalities, inequality_at}
use Rattle.farkas_rows.specs.Refutes.{multipliers}
use Rattle.proof_tree.specs.Trees.{IsOfSize}
use Rattle.proof_text.specs.Spelling.{in_words, pair, cut_word, use_word, line_words}
use Rattle.proof_text.specs.Printable.{IsMultiplier, IsPrintableLine}
use Rattle.proof_text.specs.Shapes.{IsToken, IsDigit}
use Rattle.proof_text.specs.NumberLaws.{decimal-digits, decimal-same}
use Rattle.proof_text.specs.TokenLaws.{decimal-token, signed-token, signed-same, token-cons}
use Rattle.proof_text.specs.PairLaws.{same_cut, token_free, pairs_words, words_behind}
use Rattle.proof_text.specs.PrintedShapes.{line_words-pairs}
use Rattle.proof_text.specs.LineLengths.{inequalities-length, past}

-- ---- words with a colon

-- two words with a colon between tokens that are the same have the same parts
pub same_pair : (first other : List ℕ) (y z : ℤ) → IsToken first → IsToken other → IsOfSize (2 ^ 126) y → IsOfSize (2 ^ 126) z → pair first y ≡ pair other z → (first ≡ other) × (y ≡ z)
same_pair first other y z a b h k e =
    let parts = same_cut 58 first other (signed_decimal y) (signed_decimal z) (token_free first a) (token_free other b) e in
    (parts.0, signed-same y z h k parts.1)

-- a multiplier, or the value of a cut, is small enough to be spelled in one way
pub times_size : (z : ℤ) → IsMultiplier z → IsOfSize (2 ^ 126) z
times_size z h = (omega (arith, ints, h.0), omega (arith, ints, h.1))

pub value_size : (z : ℤ) → IsOfSize (2 ^ 97) z → IsOfSize (2 ^ 126) z
value_size z h = (omega (arith, ints, h.0), omega (arith, ints, h.1))

-- the numbers of an inequality's word are in their ranges, but for the number of the inequality, which is small
abbrev pub IsSmallUse : Use → Type 0
IsSmallUse item = (item.index < 10 ^ 64) × IsMultiplier item.times

-- the numbers of the cut's word are in their ranges
abbrev pub IsSmallCut : CutUse → Type 0
IsSmallCut cut = IsOfSize (2 ^ 97) cut.value × IsMultiplier cut.times

cut_token : (cut : CutUse) → IsSmallCut cut → IsToken (90 ∷ signed_decimal cut.value)
cut_token cut h = token-cons 90 (signed_decimal cut.value) (λ e. omega (arith, e)) (λ e. omega (arith, e)) (signed-token cut.value (value_size cut.value h.0))

-- two inequalities with one word are the same
pub same_use : (item other : Use) → IsSmallUse item → IsSmallUse other → use_word item ≡ use_word other → item ≡ other
same_use item other h k e =
    let parts = same_pair (decimal item.index) (decimal other.index) item.times other.times (decimal-token item.index h.0) (decimal-token other.index k.0) (times_size item.times h.1) (times_size other.times k.1) e in
    let index : item.index ≡ other.index = decimal-same item.index other.index h.0 k.0 parts.0 in
    let make : ℕ → ℤ → Use = λ i t. record { index = i; times = t } in
    ap (λ i. make i item.times) index ∙ ap (make other.index) parts.1

-- two cuts with one word are the same
pub same_cut_use : (cut other : CutUse) → IsSmallCut cut → IsSmallCut other → cut_word cut ≡ cut_word other → cut ≡ other
same_cut_use cut other h k e =
    let parts = same_pair (90 ∷ signed_decimal cut.value) (90 ∷ signed_decimal other.value) cut.times other.times (cut_token cut h) (cut_token other k) (times_size cut.times h.1) (times_size other.times k.1) e in
    let digits : signed_decimal cut.value ≡ signed_decimal other.value = cc (parts.0) in
    let value : cut.value ≡ other.value = signed-same cut.value other.value (value_size cut.value h.0) (value_size other.value k.0) digits in
    let make : ℤ → ℤ → CutUse = λ v t. record { value = v; times = t } in
    ap (λ v. make v cut.times) value ∙ ap (make other.value) parts.1

-- the word of the cut is none of an inequality
pub cut_is_no_use : (cut : CutUse) (item : Use) → IsSmallCut cut → IsSmallUse item → cut_word cut ≡ use_word item → ⊥
cut_is_no_use cut item h k e =
    let parts = same_pair (90 ∷ signed_decimal cut.value) (decimal item.index) cut.times item.times (cut_token cut h) (decimal-token item.index k.0) (times_size cut.times h.1) (times_size item.times k.1) e in
    omega (arith, (All-head IsDigit 90 (signed_decimal cut.value) (subst (All IsDigit) (sym parts.0) (decimal-digits item.index k.0))).1)

-- ---- lines

-- two lists of inequalities with the same words are the same
pub same_uses : (items others : List Use) → All IsSmallUse items → All IsSmallUse others → map use_word items ≡ map use_word others → items ≡ others
same_uses [] [] h k e = refl
same_uses [] (other ∷ others) h k e = absurd cc
same_uses (item ∷ items) [] h k e = absurd cc
same_uses (item ∷ items) (other ∷ others) h k e =
    let head : use_word item ≡ use_word other = cc in
    let tail : map use_word items ≡ map use_word others = cc in
    let first : item ≡ other = same_use item other (All-head IsSmallUse item items h) (All-head IsSmallUse other others k) head in
    let rest : items ≡ others = same_uses items others (All-tail IsSmallUse item items h) (All-tail IsSmallUse other others k) tail in
    ap (λ i. i ∷ items) first ∙ ap (λ r. other ∷ r) rest

-- the numbers of a line are small enough to be spelled in one way
pub record IsSmallLine (line : Line) : Type 0 where
  pub cut : IfSome line.cut IsSmallCut
  pub items : All IsSmallUse line.items

same_parts : (cut other : Option CutUse) (items others : List Use) → IfSome cut IsSmallCut → IfSome other IsSmallCut → All IsSmallUse items → All IsSmallUse others
    → option_to_list (option_map cut_word cut) ++ map use_word items ≡ option_to_list (option_map cut_word other) ++ map use_word others → (cut ≡ other) × (items ≡ others)
same_parts None None items others c d h k e = (refl, same_uses items others h k e)
same_parts None (Some other) [] others c d h k e = absurd cc
same_parts None (Some other) (item ∷ items) others c d h k e =
    let head : cut_word other ≡ use_word item = cc in
    absurd (cut_is_no_use other item d (All-head IsSmallUse item items h) head)
same_parts (Some cut) None items [] c d h k e = absurd cc
same_parts (Some cut) None items (other ∷ others) c d h k e =
    let head : cut_word cut ≡ use_word other = cc in
    absurd (cut_is_no_use cut other c (All-head IsSmallUse other others k) head)
same_parts (Some cut) (Some other) items others c d h k e =
    let head : cut_word cut ≡ cut_word other = cc in
    let tail : map use_word items ≡ map use_word others = cc in
    (ap Some (same_cut_use cut other c d head), same_uses items others h k tail)

-- two lines with the same words are the same
pub same_line : (line other : Line) → IsSmallLine line → IsSmallLine other → line_words line ≡ line_words other → line ≡ other
same_line line other h k e =
    let parts = same_parts line.cut other.cut line.items other.items h.cut k.cut h.items k.items e in
    let make : Option CutUse → List Use → Line = λ c i. record { cut = c; items = i } in
    ap (λ c. make c line.items) parts.0 ∙ ap (make other.cut) parts.1

-- ---- printable lines

small_uses : (items : List Use) → All (λ (item : Use). item.index < 10 ^ 64) items → All IsMultiplier (map (λ (item : Use). item.times) items) → All IsSmallUse items
small_uses [] below times = All-nil IsSmallUse
small_uses (item ∷ items) below times =
    All-cons IsSmallUse item items (All-head (λ (i : Use). i.index < 10 ^ 64) item items below, All-head IsMultiplier item.times (map (λ (i : Use). i.times) items) times)
    (small_uses items (All-tail (λ (i : Use). i.index < 10 ^ 64) item items below) (All-tail IsMultiplier item.times (map (λ (i : Use). i.times) items) times))

small_parts : (cut : Option CutUse) (items : List Use) → All (λ (item : Use). item.index < 10 ^ 64) items → All IsMultiplier (multipliers (record { cut = cut; items = items })) → IfSome cut (λ (used : CutUse). IsOfSize (2 ^ 97) used.value)
    → IfSome cut IsSmallCut × All IsSmallUse items
small_parts None items below times value = (tt, small_uses items below times)
small_parts (Some cut) items below times value =
    ((value, All-head IsMultiplier cut.times (map (λ (i : Use). i.times) items) times), small_uses items below (All-tail IsMultiplier cut.times (map (λ (i : Use). i.times) items) times))

-- over few rows and columns, and on a path that is not longer than any text, the numbers of a printable line are small
pub printable-small : (rows : WholeRows) (path : List Slice) (end : Option Inequality) (line : Line) → length rows.rows ≤ 256 → length rows.box ≤ 256 → length path ≤ 2 ^ 64 → IsPrintableLine rows path end line → IsSmallLine line
printable-small rows path end line few narrow short printable =
    let sides : length (inequalities rows path end) < 10 ^ 64 = omega (arith, inequalities-length rows path end, few, narrow, short) in
    let below : All (λ (item : Use). item.index < 10 ^ 64) line.items =
    All-weaker (λ (item : Use). IsSome (inequality_at rows path end item.index)) (λ (item : Use). item.index < 10 ^ 64) (λ item there. omega (arith, past (inequalities rows path end) item.index there, sides)) line.items printable.there in
    let parts = small_parts line.cut line.items below printable.times printable.value in
    record { cut = parts.0; items = parts.1 }

-- so no text behind a first word of one byte spells two of them
pub one_line : (rows : WholeRows) (path : List Slice) (end : Option Inequality) (first : ℕ) (text : List ℕ) (line other : Line) → length rows.rows ≤ 256 → length rows.box ≤ 256 → length path ≤ 2 ^ 64 → IsPrintableLine rows path end line → IsPrintableLine rows path end other
    → text ≡ in_words ((first ∷ []) ∷ line_words line) → text ≡ in_words ((first ∷ []) ∷ line_words other) → line ≡ other
one_line rows path end first text line other few narrow short h k e f =
    same_line line other (printable-small rows path end line few narrow short h) (printable-small rows path end other few narrow short k)
    (words_behind first (line_words line) (line_words other) (pairs_words (line_words line) (line_words-pairs line)) (pairs_words (line_words other) (line_words-pairs other)) (sym e ∙ f))
