-- What is read of the lines of a split is what they spell.
use Rattle.std.proofs.Common.{◌≡◌, ◌≢◌, ℕ, suc, ◌+◌, ◌^◌, ◌<◌, ◌≤◌, ℤ, pos, ◌+ℤ◌, ◌≤ℤ◌, true, List, [], ◌∷◌, ◌++◌, length, get_or, drop, All, Some, decimal, codes, refl, sym, ap, subst, ◌∙◌, arith, append_assoc, ⊎_elim, to_z, of_z}
use Rattle.std.specs.Fmt.{signed_decimal}
use Rattle.std.specs.Int.{w128}
use Rattle.std.proofs.lemmas.Int.{ints, to_z-of_z, fits_signed_from_abs}
use Rattle.exact_math.specs.IntegerRing.{linear}
use Rattle.std.proofs.lemmas.List.{drop_more, length-drop, get_or-drop}
use Rattle.std.proofs.lemmas.List.Elements.{All-cons, All-head, All-tail}
use Rattle.std.proofs.Math.ListN.{drop_of_length-le}
use Rattle.whole_rows.specs.WholeRows.{WholeRows}
use Rattle.farkas_rows.specs.declared.line.Line.{Line}
use Rattle.farkas_rows.specs.Inequalities.{Inequality}
use Rattle.farkas_rows.specs.Inequalities as sides
use Rattle.proof_tree.specs.declared.tree.Cut.{Cut}
use Rattle.proof_tree.specs.Trees.{IsOfSize}
use Rattle.proof_text.specs.declared.items.Factor.{Factor}
use Rattle.proof_text.specs.declared.shapes.SplitWords.{SplitWords}
use Rattle.proof_text.specs.declared.splits.Opening.{Opening}
use Rattle.proof_text.specs.Spelling.{in_words, pair, form_words, mark_word, line_words, split_line, above_line}
use Rattle.proof_text.specs.Words.{IsWord}
use Rattle.proof_text.specs.Items.{SpellsFactor}
use Rattle.proof_text.specs.Lent.{AreSplitWords}
use Rattle.proof_text.specs.PairLaws.{token_word, pairs_words, words_behind}
use Rattle.proof_text.specs.PrintedShapes.{mark-token}
use Rattle.proof_text.specs.OneSplit.{IsSmallSplit, form_words-zero, form_words-some, zero_or_some, same_factor_word, later_words, split_words-are}
use Rattle.proof_text.specs.Reads.{some_path, some_end, TakesFactor, SpellsForm, SpellsOpening, SpellsEnd, SpellsCut}
use Rattle.proof_text.proofs.Forms.{form_words-append}
use Rattle.proof_text.proofs.PathLengths.{line_on}

-- ---- one factor

module _ (column : ℕ) (narrow : column < 2 ^ 32) where
  -- 0, where no factor of the column is there
  pub no_factor : (words : List (List ℕ)) → ((other : ℤ) (more : List (List ℕ)) → other ≢ pos 0 → IsOfSize (2 ^ 96) other → words ≢ pair (decimal column) other ∷ more) → TakesFactor column words words (pos 0)
  no_factor words none = record { spelled = refl; size = (omega (arith, ints), omega (arith, ints)); none = λ e. none }

  -- where no word is there
  pub nothing_there : (words : List (List ℕ)) → words ≡ [] → (other : ℤ) (more : List (List ℕ)) → other ≢ pos 0 → IsOfSize (2 ^ 96) other → words ≡ pair (decimal column) other ∷ more → ⊥
  nothing_there words e other more some size f = absurd (cc (e, f))

  -- where a word is no factor
  pub none_spelled : (words rest : List (List ℕ)) (word : List ℕ) → words ≡ word ∷ rest → ((factor : Factor) → SpellsFactor word factor → ⊥) → (other : ℤ) (more : List (List ℕ)) → other ≢ pos 0 → IsOfSize (2 ^ 96) other → words ≡ pair (decimal column) other ∷ more → ⊥
  none_spelled words rest word e none other more some size f =
      let same : word ≡ pair (decimal column) other = cc (e, f) in
      none (record { column = column; factor = other }) (record { spelled = same; column = narrow; some = some; size = size })

  -- or is one of another column
  pub other_spelled : (words rest : List (List ℕ)) (word : List ℕ) (factor : Factor) → words ≡ word ∷ rest → SpellsFactor word factor → (factor.column ≡ column → ⊥) → (other : ℤ) (more : List (List ℕ)) → other ≢ pos 0 → IsOfSize (2 ^ 96) other → words ≡ pair (decimal column) other ∷ more → ⊥
  other_spelled words rest word factor e s apart other more some size f =
      let same : pair (decimal factor.column) factor.factor ≡ pair (decimal column) other = cc (e, f, s.spelled) in
      apart (same_factor_word factor.column column factor.factor other (omega (arith, s.column)) (omega (arith, narrow)) s.size size same).0

  -- the factor of the column
  pub factor_there : (words rest : List (List ℕ)) (word : List ℕ) (factor : Factor) → words ≡ word ∷ rest → SpellsFactor word factor → factor.column ≡ column → TakesFactor column words rest factor.factor
  factor_there words rest word factor e s at = record {
    spelled = e ∙ ap (λ w. w ∷ rest) (s.spelled ∙ ap (λ k. pair (decimal k) factor.factor) at) ∙ sym (ap (λ ws. ws ++ rest) (form_words-some column factor.factor [] s.some));
    size = s.size;
    none = λ z. absurd (s.some z);
  }

-- ---- a form

-- the factor of this column or of none is 0, or the first word spells it
taken_zero : (column : ℕ) (words rest : List (List ℕ)) (factor : ℤ) → TakesFactor column words rest factor → factor ≡ pos 0 → words ≡ rest
taken_zero column words rest factor t z = t.spelled ∙ ap (λ ws. ws ++ rest) (form_words-zero column factor [] z)

taken_some : (column : ℕ) (words rest : List (List ℕ)) (factor : ℤ) → TakesFactor column words rest factor → factor ≢ pos 0 → words ≡ pair (decimal column) factor ∷ rest
taken_some column words rest factor t some = t.spelled ∙ ap (λ ws. ws ++ rest) (form_words-some column factor [] some)

-- what is left of the words of any form
taken_of : (column : ℕ) (words rest : List (List ℕ)) (factor given : ℤ) (later : List ℤ) → column + length later < 10 ^ 64 → TakesFactor column words rest factor → IsOfSize (2 ^ 96) given → All (IsOfSize (2 ^ 96)) later → words ≡ form_words column (given ∷ later) → rest ≡ form_words (suc column) later
taken_of column words rest factor given later small t size sizes e = ⊎_elim
    (λ (none : given ≡ pos 0).
    let further : words ≡ form_words (suc column) later = e ∙ form_words-zero column given later none in
    ⊎_elim
    (λ (zero_factor : factor ≡ pos 0). sym (taken_zero column words rest factor t zero_factor) ∙ further)
    (λ (some : factor ≢ pos 0). absurd (later_words later column (suc column) factor rest (omega arith) (omega (arith, small)) sizes t.size (sym further ∙ taken_some column words rest factor t some)))
    (zero_or_some factor))
    (λ (one : given ≢ pos 0).
    let first : words ≡ pair (decimal column) given ∷ form_words (suc column) later = e ∙ form_words-some column given later one in
    ⊎_elim
    (λ (zero_factor : factor ≡ pos 0). absurd (t.none zero_factor given (form_words (suc column) later) one size first))
    (λ (some : factor ≢ pos 0). let both = taken_some column words rest factor t some in cc (first, both))
    (zero_or_some factor))
    (zero_or_some given)

-- the words so far, with one factor more
pub spelled_more : (whole words rest : List (List ℕ)) (form : List ℤ) (column : ℕ) (factor : ℤ) → length form ≡ column → whole ≡ form_words 0 form ++ words → TakesFactor column words rest factor → whole ≡ form_words 0 (form ++ factor ∷ []) ++ rest
spelled_more whole words rest form column factor dense e t =
    let place : 0 + length form ≡ column = omega (arith, dense) in
    e
    ∙ ap (λ ws. form_words 0 form ++ ws) t.spelled
    ∙ sym (append_assoc (form_words 0 form) (form_words column (factor ∷ [])) rest)
    ∙ ap (λ ws. ws ++ rest) (ap (λ k. form_words 0 form ++ form_words k (factor ∷ [])) (sym place) ∙ sym (form_words-append 0 form (factor ∷ [])))

-- what is left of the words are those of the further columns of a form, if they are those of a form at all
abbrev pub Leads : List (List ℕ) → List (List ℕ) → ℕ → ℕ → Type 0
Leads whole words columns column = (other : List ℤ) → SpellsForm columns whole other → words ≡ form_words column (drop column other)

pub leads_none : (whole : List (List ℕ)) (columns : ℕ) → Leads whole whole columns 0
leads_none whole columns = λ other s. s.spelled

pub leads_more : (whole words rest : List (List ℕ)) (columns column : ℕ) (factor : ℤ) → columns ≤ 256 → column < columns → TakesFactor column words rest factor → Leads whole words columns column → Leads whole rest columns (column + 1)
leads_more whole words rest columns column factor few below t leads = λ other s.
    let within : column < length other = omega (arith, s.dense, below) in
    let given : ℤ = get_or other column (pos 0) in
    let later : List ℤ = drop (column + 1) other in
    let parts : drop column other ≡ given ∷ later = drop_more other column (pos 0) within in
    let fits : column + length later < 10 ^ 64 = omega (arith, few, below, s.dense, length-drop (column + 1) other) in
    let sizes : All (IsOfSize (2 ^ 96)) later = λ k d h. subst (IsOfSize (2 ^ 96)) (sym (get_or-drop (column + 1) other k d)) (s.factors (column + 1 + k) d (omega (arith, h, length-drop (column + 1) other))) in
    let one : suc column ≡ column + 1 = omega arith in
    taken_of column words rest factor given later fits t (s.factors column (pos 0) within) sizes (leads other s ∙ ap (form_words column) parts) ∙ ap (λ k. form_words k later) one

-- behind the last column nothing is left
pub leads_all : (whole words : List (List ℕ)) (columns column : ℕ) → columns ≤ column → Leads whole words columns column → (other : List ℤ) → SpellsForm columns whole other → words ≡ []
leads_all whole words columns column past leads other s = leads other s ∙ ap (form_words column) (drop_of_length-le other (omega (arith, past, s.dense)))

-- ---- the first line

zeros_no_words : (column : ℕ) (form : List ℤ) → All (λ factor. factor ≡ pos 0) form → form_words column form ≡ []
zeros_no_words column [] h = refl
zeros_no_words column (factor ∷ form) h =
    form_words-zero column factor form (All-head (λ f. f ≡ pos 0) factor form h) ∙ zeros_no_words (suc column) form (All-tail (λ f. f ≡ pos 0) factor form h)

module _ (columns : ℕ) (few : columns ≤ 256) (text : List ℕ) where
  lent_words : (words : SplitWords) → AreSplitWords text words → All IsWord (mark_word words.mark ∷ words.lo.now ∷ words.count.now ∷ words.form)
  lent_words words w =
      All-cons IsWord (mark_word words.mark) (words.lo.now ∷ words.count.now ∷ words.form) (token_word (mark_word words.mark) (mark-token words.mark))
      (All-cons IsWord words.lo.now (words.count.now ∷ words.form) (token_word words.lo.now w.lo)
      (All-cons IsWord words.count.now words.form (token_word words.count.now w.count) (pairs_words words.form w.pairs.1)))

  -- the words that are lent are those of the spelled line
  pub opening_words : (words : SplitWords) (opening : Opening) → AreSplitWords text words → SpellsOpening columns text opening
      → (words.lo.now ≡ signed_decimal opening.lo) × (words.count.now ≡ signed_decimal opening.count) × (words.form ≡ form_words 0 opening.form)
  opening_words words opening w s =
      let small : IsSmallSplit opening.lo opening.count opening.form = record { first = s.lo; slices = s.count; factors = s.factors; narrow = omega (arith, s.dense, few) } in
      let same : mark_word words.mark ∷ words.lo.now ∷ words.count.now ∷ words.form ≡ mark_word opening.mark ∷ signed_decimal opening.lo ∷ signed_decimal opening.count ∷ form_words 0 opening.form =
      words_behind 83 (mark_word words.mark ∷ words.lo.now ∷ words.count.now ∷ words.form) (mark_word opening.mark ∷ signed_decimal opening.lo ∷ signed_decimal opening.count ∷ form_words 0 opening.form) (lent_words words w) (split_words-are opening.mark opening.lo opening.count opening.form small)
      (sym w.spelled ∙ s.spelled) in
      (cc, cc, cc)

  -- what is read of them
  pub opening_read : (words : SplitWords) (lo count : ℤ) (form : List ℤ) → AreSplitWords text words → (words.lo.now ≡ signed_decimal lo) × IsOfSize (2 ^ 97) lo → (words.count.now ≡ signed_decimal count) × ((pos 0 ≤ℤ count) × (count ≤ℤ pos (2 ^ 98))) → SpellsForm columns words.form form
      → SpellsOpening columns text (record { mark = words.mark; lo = lo; count = count; form = form })
  opening_read words lo count form w l k f = record {
    spelled = w.spelled ∙ ap (λ a. in_words (codes "S" ∷ mark_word words.mark ∷ a ∷ words.count.now ∷ words.form)) l.0 ∙ ap (λ a. in_words (codes "S" ∷ mark_word words.mark ∷ signed_decimal lo ∷ a ∷ words.form)) k.0
        ∙ ap (λ a. in_words (codes "S" ∷ mark_word words.mark ∷ signed_decimal lo ∷ signed_decimal count ∷ a)) f.spelled;
    dense = f.dense;
    some = λ zeros. w.pairs.0 (f.spelled ∙ zeros_no_words 0 form zeros);
    factors = f.factors;
    lo = l.1;
    count = k.1;
  }

-- ---- the three lines

module _ (rows : WholeRows) (depth : ℕ) (text : List ℕ) (lines : List (List ℕ)) where
  -- what the first line of a split tells
  pub opening_of : (cut : Cut) (rest : List (List ℕ)) → SpellsCut rows depth (text ∷ lines) rest cut → SpellsOpening (length rows.box) text (record { mark = cut.mark; lo = cut.lo; count = cut.count; form = cut.form })
  opening_of cut rest s = record { spelled = cc (s.spelled); dense = s.printable.dense; some = s.printable.some; factors = s.printable.factors; lo = s.printable.lo; count = s.printable.count }

  -- the line of its lower end
  pub below_of : (cut : Cut) (rest : List (List ℕ)) → SpellsCut rows depth (text ∷ lines) rest cut → SpellsEnd rows depth 66 lines (above_line cut ∷ rest) cut.below
  below_of cut rest s = record { spelled = cc (s.spelled); printable = line_on rows (some_path depth) (some_path depth) (Some (sides.below cut.form cut.lo)) (some_end true) refl refl cut.below s.printable.below }

  -- and of its upper end
  pub above_of : (cut : Cut) (rest behind : List (List ℕ)) (first : List ℕ) → SpellsCut rows depth (text ∷ lines) rest cut → lines ≡ first ∷ behind → SpellsEnd rows depth 65 behind rest cut.above
  above_of cut rest behind first s e = record { spelled = cc (s.spelled, e); printable = line_on rows (some_path depth) (some_path depth) (Some (sides.above cut.form (cut.lo +ℤ cut.count))) (some_end true) refl refl cut.above s.printable.above }

  -- the split that is read of them
  pub cut_read : (opening : Opening) (lower upper : Line) (behind rest : List (List ℕ)) → SpellsOpening (length rows.box) text opening → SpellsEnd rows depth 66 lines behind lower → SpellsEnd rows depth 65 behind rest upper
      → SpellsCut rows depth (text ∷ lines) rest (record { form = opening.form; lo = opening.lo; count = opening.count; below = lower; above = upper; mark = opening.mark })
  cut_read opening lower upper behind rest o b a = record {
    spelled = ap (λ t. t ∷ lines) o.spelled ∙ ap (λ ls. split_line (record { form = opening.form; lo = opening.lo; count = opening.count; below = lower; above = upper; mark = opening.mark }) ∷ ls) (b.spelled ∙ ap (λ ls. in_words ((66 ∷ []) ∷ line_words lower) ∷ ls) a.spelled);
    printable = record {
      dense = o.dense;
      some = o.some;
      factors = o.factors;
      lo = o.lo;
      count = o.count;
      below = line_on rows (some_path depth) (some_path depth) (some_end true) (Some (sides.below opening.form opening.lo)) refl refl lower b.printable;
      above = line_on rows (some_path depth) (some_path depth) (some_end true) (Some (sides.above opening.form (opening.lo +ℤ opening.count))) refl refl upper a.printable;
    };
  }

-- ---- numbers in registers

pub lo_same : (z : ℤ) → IsOfSize (2 ^ 97) z → to_z w128 (of_z w128 z) ≡ z
lo_same z h = to_z-of_z w128 z (fits_signed_from_abs w128 z (omega linear))

pub factor_same : (z : ℤ) → IsOfSize (2 ^ 96) z → to_z w128 (of_z w128 z) ≡ z
factor_same z h = to_z-of_z w128 z (fits_signed_from_abs w128 z (omega linear))

pub count_same : (z : ℤ) → (pos 0 ≤ℤ z) × (z ≤ℤ pos (2 ^ 98)) → to_z w128 (of_z w128 z) ≡ z
count_same z h = to_z-of_z w128 z (fits_signed_from_abs w128 z (omega linear))
