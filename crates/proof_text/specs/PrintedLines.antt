-- No printed line has a line feed within it.
use Rattle.std.proofs.Common.{◌≡◌, ◌≢◌, ℕ, suc, ℤ, pos, negsuc, true, false, List, [], ◌∷◌, ◌++◌, map, All, Option, Some, None, codes, decimal, option_map, option_to_list, not, refl, sym, ap, subst, arith, ⊎_elim}
use Rattle.std.specs.Prelude.{if◌then◌else◌}
use Rattle.std.specs.Fmt.{signed_decimal}
use Rattle.std.specs.Ordering.{int_eq}
use Rattle.std.specs.List.{list_all}
use Rattle.std.proofs.lemmas.Bool.{cases_Bool, and_parts, eqb-false, not-true}
use Rattle.std.proofs.lemmas.List.Elements.{All-nil, All-cons, All-head, All-tail, All-append, All-weaker}
use Rattle.farkas_rows.specs.declared.line.Use.{Use}
use Rattle.farkas_rows.specs.declared.line.CutUse.{CutUse}
use Rattle.farkas_rows.specs.declared.line.Line.{Line}
use Rattle.proof_tree.specs.declared.tree.Mark.{Mark}
use Rattle.proof_tree.specs.declared.tree.Mark.TheVariants.{Thin, Plain}
use Rattle.proof_tree.specs.declared.tree.Cut.{Cut}
use Rattle.proof_tree.specs.declared.tree.Tree as tree
use Rattle.proof_text.specs.declared.claim.Claim.{Claim}
use Rattle.proof_text.specs.declared.claim.Claim.TheVariants as claims
use Rattle.proof_text.specs.Spelling.{further, in_words, pair, cut_word, use_word, line_words, form_words, mark_word, closing_line, split_line, below_line, above_line, split_lines, tree_lines, forest_lines, claim_line, head_lines}
use Rattle.proof_text.specs.Shapes.{IsDigit}
use Rattle.proof_text.specs.PrintedShapes.{decimal-all_digits}
use Rattle.proof_text.specs.Lines.{is_line_feed, IsOneLine}

abbrev Other : ℕ → Type 0
Other byte = byte ≢ 10

-- bytes that a test finds to be no line feeds
feed_free : (text : List ℕ) → list_all (λ byte. not (is_line_feed byte)) text ≡ true → IsOneLine text
feed_free [] h = All-nil Other
feed_free (byte ∷ text) h =
    let both = and_parts (not (is_line_feed byte)) (list_all (λ other. not (is_line_feed other)) text) h in
    All-cons Other byte text (eqb-false byte 10 (not-true (is_line_feed byte) both.0)) (feed_free text both.1)

-- ---- words

decimal-line : (n : ℕ) → IsOneLine (decimal n)
decimal-line n = All-weaker IsDigit Other (λ byte d e. omega (arith, d.0, e)) (decimal n) (decimal-all_digits n)

signed-line : (z : ℤ) → IsOneLine (signed_decimal z)
signed-line (pos n) = decimal-line n
signed-line (negsuc n) = All-cons Other 45 (decimal (suc n)) (λ e. omega (arith, e)) (decimal-line (suc n))

pair-line : (first : List ℕ) (number : ℤ) → IsOneLine first → IsOneLine (pair first number)
pair-line first number h = All-append Other first (58 ∷ signed_decimal number) h (All-cons Other 58 (signed_decimal number) (λ e. omega (arith, e)) (signed-line number))

cut_word-line : (cut : CutUse) → IsOneLine (cut_word cut)
cut_word-line cut = All-cons Other 90 (pair (signed_decimal cut.value) cut.times) (λ e. omega (arith, e)) (pair-line (signed_decimal cut.value) cut.times (signed-line cut.value))

cut_words-line : (cut : Option CutUse) → All IsOneLine (option_to_list (option_map cut_word cut))
cut_words-line None = All-nil IsOneLine
cut_words-line (Some cut) = All-cons IsOneLine (cut_word cut) [] (cut_word-line cut) (All-nil IsOneLine)

uses-line : (items : List Use) → All IsOneLine (map use_word items)
uses-line [] = All-nil IsOneLine
uses-line (item ∷ items) = All-cons IsOneLine (use_word item) (map use_word items) (pair-line (decimal item.index) item.times (decimal-line item.index)) (uses-line items)

line_words-line : (line : Line) → All IsOneLine (line_words line)
line_words-line line = All-append IsOneLine (option_to_list (option_map cut_word line.cut)) (map use_word line.items) (cut_words-line line.cut) (uses-line line.items)

form_words-line : (column : ℕ) (form : List ℤ) → All IsOneLine (form_words column form)
form_words-line column [] = All-nil IsOneLine
form_words-line column (factor ∷ form) =
    let word : List ℕ = pair (decimal column) factor in
    let rest : List (List ℕ) = form_words (suc column) form in
    let later = form_words-line (suc column) form in
    ⊎_elim
    (λ (t : int_eq factor (pos 0) ≡ true). subst (All IsOneLine) (sym (ap (λ b. if b then rest else word ∷ rest) t)) later)
    (λ (t : int_eq factor (pos 0) ≡ false). subst (All IsOneLine) (sym (ap (λ b. if b then rest else word ∷ rest) t)) (All-cons IsOneLine word rest (pair-line (decimal column) factor (decimal-line column)) later))
    (cases_Bool (int_eq factor (pos 0)))

values-line : (x : List ℤ) → All IsOneLine (map signed_decimal x)
values-line [] = All-nil IsOneLine
values-line (value ∷ x) = All-cons IsOneLine (signed_decimal value) (map signed_decimal x) (signed-line value) (values-line x)

-- ---- lines

further-line : (words : List (List ℕ)) → All IsOneLine words → IsOneLine (further words)
further-line [] h = All-nil Other
further-line (word ∷ words) h =
    All-append Other (32 ∷ word) (further words) (All-cons Other 32 word (λ e. omega (arith, e)) (All-head IsOneLine word words h)) (further-line words (All-tail IsOneLine word words h))

words-line : (word : List ℕ) (words : List (List ℕ)) → IsOneLine word → All IsOneLine words → IsOneLine (in_words (word ∷ words))
words-line word words h k = All-append Other word (further words) h (further-line words k)

mark-line : (mark : Mark) → IsOneLine (mark_word mark)
mark-line Thin = feed_free (codes "T") refl
mark-line Plain = feed_free (codes "P") refl

split_lines-lines : (cut : Cut) → All IsOneLine (split_lines cut)
split_lines-lines cut =
    let words : List (List ℕ) = form_words 0 cut.form in
    All-cons IsOneLine (split_line cut) (below_line cut ∷ above_line cut ∷ [])
    (words-line (codes "S") (mark_word cut.mark ∷ signed_decimal cut.lo ∷ signed_decimal cut.count ∷ words) (feed_free (codes "S") refl)
    (All-cons IsOneLine (mark_word cut.mark) (signed_decimal cut.lo ∷ signed_decimal cut.count ∷ words) (mark-line cut.mark)
    (All-cons IsOneLine (signed_decimal cut.lo) (signed_decimal cut.count ∷ words) (signed-line cut.lo) (All-cons IsOneLine (signed_decimal cut.count) words (signed-line cut.count) (form_words-line 0 cut.form)))))
    (All-cons IsOneLine (below_line cut) (above_line cut ∷ []) (words-line (codes "B") (line_words cut.below) (feed_free (codes "B") refl) (line_words-line cut.below))
    (All-cons IsOneLine (above_line cut) [] (words-line (codes "A") (line_words cut.above) (feed_free (codes "A") refl) (line_words-line cut.above)) (All-nil IsOneLine)))

mutual
  tree_lines-lines : (t : tree.Tree) → All IsOneLine (tree_lines t)
  tree_lines-lines (tree.Empty line) = All-cons IsOneLine (closing_line line) [] (words-line (codes "E") (line_words line) (feed_free (codes "E") refl) (line_words-line line)) (All-nil IsOneLine)
  tree_lines-lines (tree.Split' b cut v children) = All-append IsOneLine (split_lines cut) (forest_lines children) (split_lines-lines cut) (forest_lines-lines children)

  forest_lines-lines : {m : _} (k : tree.Row_of-Tree m) → All IsOneLine (forest_lines k)
  forest_lines-lines tree.end_of-Tree = All-nil IsOneLine
  forest_lines-lines (tree.more_of-Tree child rest) = All-append IsOneLine (tree_lines child) (forest_lines rest) (tree_lines-lines child) (forest_lines-lines rest)

claim_line-line : (claim : Claim) → IsOneLine (claim_line claim)
claim_line-line claims.Infeasible = feed_free (codes "INFEASIBLE") refl
claim_line-line (claims.Optimal x) = words-line (codes "OPTIMAL") (map signed_decimal x) (feed_free (codes "OPTIMAL") refl) (values-line x)
claim_line-line claims.Open = feed_free (codes "OPEN") refl

-- the lines of a proof text
pub proof_text-lines : (claim : Claim) (t : tree.Tree) → All IsOneLine (head_lines claim ++ (tree_lines t ++ codes "DONE" ∷ []))
proof_text-lines claim t =
    All-cons IsOneLine (codes "SLICER 1") (claim_line claim ∷ (tree_lines t ++ codes "DONE" ∷ [])) (feed_free (codes "SLICER 1") refl)
    (All-cons IsOneLine (claim_line claim) (tree_lines t ++ codes "DONE" ∷ []) (claim_line-line claim)
    (All-append IsOneLine (tree_lines t) (codes "DONE" ∷ []) (tree_lines-lines t) (All-cons IsOneLine (codes "DONE") [] (feed_free (codes "DONE") refl) (All-nil IsOneLine))))
