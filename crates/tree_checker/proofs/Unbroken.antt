-- A line that passes has no line feed in it.
use Rattle.std.proofs.Common.{◌≡◌, ◌≢◌, ℕ, suc, ◌+◌, ◌*◌, ◌^◌, ◌<◌, ◌≤◌, ℤ, ◌≤ℤ◌, pos, negsuc, Bool, true, false, not, List, [], ◌∷◌, length, map, All, Option, Some, None, IfSome, IsSome, codes, decimal, option_map, option_to_list, refl, sym, subst, arith, inl, inr}
use Rattle.std.specs.Prelude.{if◌then◌else◌, ◌==◌}
use Rattle.std.specs.List.{list_all}
use Rattle.std.specs.Ordering.{int_eq}
use Rattle.std.specs.Fmt.{signed_decimal}
use Rattle.std.proofs.lemmas.Bool.{and_parts, eqb-false, not-true}
use Rattle.std.proofs.lemmas.Int.{ints}
use Rattle.std.proofs.lemmas.List.Elements.{All-nil, All-cons, All-head, All-tail, All-append, All-weaker}
use Rattle.proof_tree.specs.Trees.{IsOfSize}
use Rattle.proof_tree.specs.declared.tree.Mark.{Mark}
use Rattle.proof_tree.specs.declared.tree.Mark.TheVariants.{Thin, Plain}
use Rattle.whole_rows.specs.WholeRows.{WholeRows, IsWithinLimits}
use Rattle.farkas_rows.specs.declared.line.Use.{Use}
use Rattle.farkas_rows.specs.declared.line.CutUse.{CutUse}
use Rattle.farkas_rows.specs.declared.line.Line.{Line}
use Rattle.farkas_rows.specs.declared.path.Slice.{Slice}
use Rattle.farkas_rows.specs.Inequalities.{Inequality, inequality_at}
use Rattle.proof_text.specs.declared.claim.Claim.{Claim}
use Rattle.proof_text.specs.declared.claim.Claim.TheVariants as claims
use Rattle.proof_text.specs.NumberLaws.{decimal-digits}
use Rattle.proof_text.specs.Shapes.{IsDigit}
use Rattle.proof_text.specs.Printable.{IsMultiplier}
use Rattle.proof_text.specs.Spelling.{further, in_words, pair, cut_word, use_word, line_words, form_words, mark_word, claim_line}
use Rattle.tree_checker.specs.Accepts.{IsClaim}
use Rattle.tree_checker.specs.Faults.{IsPrintableOpening}
use Rattle.tree_checker.proofs.LineLaws.{side_small, times_parts}
use Rattle.tree_checker.specs.Lines.{SpellsClosing}
use Rattle.tree_checker.specs.Passes.{opening_line, IsOpening, PassesTo}
use Rattle.tree_checker.specs.Rejects.{IsLine}
use Rattle.tree_checker.specs.Stages.{Opening, Stage, at_head, at_claim, at_node, at_below, at_above, at_done, at_end, path_of}
use Rattle.tree_checker.specs.Written.{line_printable, factors_of_size, claim_printable}
use Rattle.tree_checker.proofs.Completes.{HasRoom, length-path_of}

-- ---- words

abbrev NoFeed : ℕ → Type 0
NoFeed byte = byte ≢ 10

-- bytes that a test finds to be no line feeds
tested : (text : List ℕ) → list_all (λ byte. not (byte == 10)) text ≡ true → IsLine text
tested [] h = All-nil NoFeed
tested (byte ∷ text) h =
    let both = and_parts (not (byte == 10)) (list_all (λ other. not (other == 10)) text) h in
    All-cons NoFeed byte text (eqb-false byte 10 (not-true (byte == 10) both.0)) (tested text both.1)

decimal_line : (n : ℕ) → n < 10 ^ 64 → IsLine (decimal n)
decimal_line n small = All-weaker IsDigit NoFeed (λ byte d e. omega (arith, d.0, e)) (decimal n) (decimal-digits n small)

signed_line : (z : ℤ) → IsOfSize (2 ^ 126) z → IsLine (signed_decimal z)
signed_line (pos n) h = decimal_line n (omega (arith, ints, h.1))
signed_line (negsuc n) h = All-cons NoFeed 45 (decimal (suc n)) (λ e. omega (arith, e)) (decimal_line (suc n) (omega (arith, ints, h.0)))

pair_line : (first : List ℕ) (z : ℤ) → IsLine first → IsOfSize (2 ^ 126) z → IsLine (pair first z)
pair_line first z h k = All-append NoFeed first (58 ∷ signed_decimal z) h (All-cons NoFeed 58 (signed_decimal z) (λ e. omega (arith, e)) (signed_line z k))

further_line : (words : List (List ℕ)) → All IsLine words → IsLine (further words)
further_line [] h = All-nil NoFeed
further_line (word ∷ words) h =
    All-append NoFeed (32 ∷ word) (further words) (All-cons NoFeed 32 word (λ e. omega (arith, e)) (All-head IsLine word words h)) (further_line words (All-tail IsLine word words h))

in_words_line : (word : List ℕ) (words : List (List ℕ)) → IsLine word → All IsLine words → IsLine (in_words (word ∷ words))
in_words_line word words h k = All-append NoFeed word (further words) h (further_line words k)

-- ---- a line of multipliers

size_97 : (z : ℤ) → IsOfSize (2 ^ 97) z → IsOfSize (2 ^ 126) z
size_97 z h = (omega (arith, ints, h.0), omega (arith, ints, h.1))

size_96 : (z : ℤ) → IsOfSize (2 ^ 96) z → IsOfSize (2 ^ 126) z
size_96 z h = (omega (arith, ints, h.0), omega (arith, ints, h.1))

size_times : (z : ℤ) → IsMultiplier z → IsOfSize (2 ^ 126) z
size_times z h = (omega (arith, ints, h.0), omega (arith, ints, h.1))

uses_line : (uses : List Use) → All (λ (item : Use). item.index < 2 ^ 32) uses → All (λ (item : Use). IsMultiplier item.times) uses → All IsLine (map use_word uses)
uses_line [] h k = All-nil IsLine
uses_line (item ∷ uses) h k =
    All-cons IsLine (use_word item) (map use_word uses)
    (pair_line (decimal item.index) item.times (decimal_line item.index (omega (arith, All-head (λ (used : Use). used.index < 2 ^ 32) item uses h))) (size_times item.times (All-head (λ (used : Use). IsMultiplier used.times) item uses k)))
    (uses_line uses (All-tail (λ (used : Use). used.index < 2 ^ 32) item uses h) (All-tail (λ (used : Use). IsMultiplier used.times) item uses k))

cut_line : (cut : Option CutUse) → IfSome cut (λ (used : CutUse). IsOfSize (2 ^ 97) used.value) → IfSome cut (λ (used : CutUse). IsMultiplier used.times) → All IsLine (option_to_list (option_map cut_word cut))
cut_line None h k = All-nil IsLine
cut_line (Some cut) h k =
    All-cons IsLine (cut_word cut) []
    (All-cons NoFeed 90 (pair (signed_decimal cut.value) cut.times) (λ e. omega (arith, e)) (pair_line (signed_decimal cut.value) cut.times (signed_line cut.value (size_97 cut.value h)) (size_times cut.times k)))
    (All-nil IsLine)

module _ (rows : WholeRows) (limits : IsWithinLimits rows) where
  closing_line : (last : Option ℤ) (path : List Slice) (end : Option Inequality) (first : ℕ) (text : List ℕ) → length path ≤ 2 * length rows.box → first ≢ 10 → SpellsClosing rows last path end (first ∷ []) text → IsLine text
  closing_line last path end first text short other closing =
      let line : Line = closing.0 in
      let printable = line_printable rows last path end line closing.2 in
      let times = times_parts line.cut line.items printable.times in
      subst IsLine (sym closing.1)
      (in_words_line (first ∷ []) (line_words line) (All-cons NoFeed first [] other (All-nil NoFeed))
      (All-append IsLine (option_to_list (option_map cut_word line.cut)) (map use_word line.items) (cut_line line.cut printable.value times.0)
      (uses_line line.items (All-weaker (λ (item : Use). IsSome (inequality_at rows path end item.index)) (λ (item : Use). item.index < 2 ^ 32) (λ item there. side_small rows path end item.index limits short there) line.items printable.there) times.1)))

  -- ---- a claim

  numbers_line : (x : List ℤ) → All (IsOfSize (2 ^ 96)) x → All IsLine (map signed_decimal x)
  numbers_line [] h = All-nil IsLine
  numbers_line (z ∷ x) h = All-cons IsLine (signed_decimal z) (map signed_decimal x) (signed_line z (size_96 z (All-head (IsOfSize (2 ^ 96)) z x h))) (numbers_line x (All-tail (IsOfSize (2 ^ 96)) z x h))

  claim_line_line : (claim : Claim) → IsClaim rows claim → IsLine (claim_line claim)
  claim_line_line claims.Infeasible h = tested (codes "INFEASIBLE") refl
  claim_line_line (claims.Optimal x) h = in_words_line (codes "OPTIMAL") (map signed_decimal x) (tested (codes "OPTIMAL") refl) (numbers_line x (claim_printable rows (claims.Optimal x) limits h).1)
  claim_line_line claims.Open h = absurd h

  -- ---- a split

  mark_line : (mark : Mark) → IsLine (mark_word mark)
  mark_line Thin = tested (codes "T") refl
  mark_line Plain = tested (codes "P") refl

  form_line : (column : ℕ) (form : List ℤ) → column + length form < 10 ^ 64 → All (IsOfSize (2 ^ 96)) form → All IsLine (form_words column form)
  form_line column [] few h = All-nil IsLine
  form_line column (factor ∷ form) few h = by (form_line (suc column) form (omega (arith, few)) (All-tail (IsOfSize (2 ^ 96)) factor form h)) (int_eq factor (pos 0))
    where
      by : All IsLine (form_words (suc column) form) → (b : Bool) → All IsLine (if b then form_words (suc column) form else pair (decimal column) factor ∷ form_words (suc column) form)
      by later true = later
      by later false = All-cons IsLine (pair (decimal column) factor) (form_words (suc column) form) (pair_line (decimal column) factor (decimal_line column (omega (arith, few))) (size_96 factor (All-head (IsOfSize (2 ^ 96)) factor form h))) later

  -- the numbers of a split that passes are in their ranges
  pub opening_printable : (opening : Opening) {splits : _} → IsOpening rows splits opening → IsPrintableOpening rows opening
  opening_printable opening is = record {
    dense = is.form.dense;
    some = is.form.some;
    factors = factors_of_size (2 ^ 96) opening.form rows.box is.form.dense is.form.light;
    lo = is.lo;
    count = is.count;
  }

  size_98 : (z : ℤ) → (pos 0 ≤ℤ z) × (z ≤ℤ pos (2 ^ 98)) → IsOfSize (2 ^ 126) z
  size_98 z h = (omega (arith, ints, h.0), omega (arith, ints, h.1))

  opening_line_line : (opening : Opening) → IsPrintableOpening rows opening → IsLine (opening_line opening)
  opening_line_line opening h =
      in_words_line (codes "S") (mark_word opening.mark ∷ signed_decimal opening.lo ∷ signed_decimal opening.count ∷ form_words 0 opening.form) (tested (codes "S") refl)
      (All-cons IsLine (mark_word opening.mark) (signed_decimal opening.lo ∷ signed_decimal opening.count ∷ form_words 0 opening.form) (mark_line opening.mark)
      (All-cons IsLine (signed_decimal opening.lo) (signed_decimal opening.count ∷ form_words 0 opening.form) (signed_line opening.lo (size_97 opening.lo h.lo))
      (All-cons IsLine (signed_decimal opening.count) (form_words 0 opening.form) (signed_line opening.count (size_98 opening.count h.count))
      (form_line 0 opening.form (omega (arith, h.dense, limits.few_columns)) h.factors))))

  -- ---- a line that passes

  pub unbroken : (stage next : Stage) (line : List ℕ) → HasRoom rows stage → PassesTo rows stage line next → IsLine line
  unbroken at_head next line room p = subst IsLine (sym p.0) (tested (codes "SLICER 1") refl)
  unbroken at_claim next line room p = subst IsLine (sym p.1) (claim_line_line p.0 p.2)
  unbroken (at_node claimed splits) next line room (inl p) = closing_line _ (path_of splits) None 69 line (omega (arith, room, length-path_of splits)) (λ e. omega (arith, e)) p.0
  unbroken (at_node claimed splits) next line room (inr p) = subst IsLine (sym p.1) (opening_line_line p.0 (opening_printable p.0 p.2))
  unbroken (at_below claimed splits opening) next line room p = closing_line _ (path_of splits) _ 66 line (omega (arith, room.0, length-path_of splits)) (λ e. omega (arith, e)) p.0
  unbroken (at_above claimed splits opening) next line room p = closing_line _ (path_of splits) _ 65 line (omega (arith, room.0, length-path_of splits)) (λ e. omega (arith, e)) p.0
  unbroken (at_done claimed) next line room p = subst IsLine (sym p.0) (tested (codes "DONE") refl)
  unbroken (at_end claimed) next line room p = absurd p
