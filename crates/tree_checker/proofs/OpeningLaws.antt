-- What is read of the first line of a split is what it spells.
use Rattle.std.proofs.Common.{◌≡◌, ◌≢◌, ℕ, zero, suc, ◌+◌, ◌-◌, ◌*◌, ◌^◌, ◌<◌, ◌≤◌, ℤ, pos, List, [], ◌∷◌, ◌++◌, length, drop, set, get_or, All, codes, decimal, refl, sym, ap, subst, ◌∙◌, arith, inl, inr, ⊎_elim}
use Rattle.std.specs.Prelude.{replicate}
use Rattle.std.specs.Fmt.{signed_decimal}
use Rattle.std.proofs.lemmas.Int.{ints}
use Rattle.std.proofs.lemmas.List.{append-nil, append_assoc, length-set, length-drop, length-replicate, drop-drop, drop-set-lt}
use Rattle.std.proofs.lemmas.List.Elements.{All-cons, All-head, All-tail, All-set, All-get_or, All-replicate, All-drop}
use Rattle.proof_tree.specs.declared.tree.Mark.{Mark}
use Rattle.proof_tree.specs.declared.tree.Mark.TheVariants.{Thin, Plain}
use Rattle.proof_tree.specs.Trees.{IsOfSize}
use Rattle.proof_text.specs.declared.items.Factor.{Factor}
use Rattle.proof_text.specs.declared.shapes.SplitWords.{SplitWords}
use Rattle.proof_text.specs.Spelling.{in_words, pair, form_words, mark_word}
use Rattle.proof_text.specs.Shapes.{IsMarkWord, HasSplitShape}
use Rattle.proof_text.specs.Words.{IsWord}
use Rattle.proof_text.specs.PairLaws.{token_word, pairs_words, words_behind}
use Rattle.proof_text.specs.PrintedShapes.{signed-is_token, form_words-pairs, mark-token}
use Rattle.proof_text.specs.OneSplit.{form_words-zero, form_words-some, zero_or_some, same_factor_word}
use Rattle.proof_text.specs.Lent.{AreSplitWords}
use Rattle.proof_text.specs.Items.{SpellsFactor}
use Rattle.whole_rows.specs.WholeRows.{WholeRows, span}
use Rattle.tree_checker.specs.declared.opening.Range.{Range}
use Rattle.tree_checker.specs.Stages.{OpenSplit, Opening}
use Rattle.tree_checker.specs.Faults.{SpellsOpening, IsTooDeep}
use Rattle.tree_checker.specs.Passes.{opening_line}
use Rattle.tree_checker.specs.Openings.{AreFormWords, SpellsRange, opening_of, Opens}

abbrev pub AreZero : List ℤ → Type 0
AreZero form = All (λ factor. factor ≡ pos 0) form

abbrev IsSmall : ℤ → Type 0
IsSmall z = IsOfSize (2 ^ 96) z

-- ---- the words of a form

-- no word is left of a form that is all 0
pub words_zero : (column : ℕ) (form : List ℤ) → AreZero form → form_words column form ≡ []
words_zero column [] h = refl
words_zero column (factor ∷ form) h = form_words-zero column factor form (All-head (λ f. f ≡ pos 0) factor form h) ∙ words_zero (suc column) form (All-tail (λ f. f ≡ pos 0) factor form h)

-- ---- one factor more

-- behind a first factor, whatever it is
later_on : (column : ℕ) (first : ℤ) (form written : List ℤ) (place : ℕ) (factor : ℤ) → form_words (suc column) written ≡ form_words (suc column) form ++ pair (decimal (suc column + place)) factor ∷ []
    → form_words column (first ∷ written) ≡ form_words column (first ∷ form) ++ pair (decimal (column + suc place)) factor ∷ []
later_on column first form written place factor later =
    let at : suc column + place ≡ column + suc place = omega arith in
    let more : form_words (suc column) written ≡ form_words (suc column) form ++ pair (decimal (column + suc place)) factor ∷ [] = later ∙ ap (λ n. form_words (suc column) form ++ pair (decimal n) factor ∷ []) at in
    ⊎_elim
    (λ (e : first ≡ pos 0). form_words-zero column first written e ∙ more ∙ ap (λ front. front ++ pair (decimal (column + suc place)) factor ∷ []) (sym (form_words-zero column first form e)))
    (λ (other : first ≢ pos 0).
    form_words-some column first written other
    ∙ ap (λ rest. pair (decimal column) first ∷ rest) more
    ∙ ap (λ front. front ++ pair (decimal (column + suc place)) factor ∷ []) (sym (form_words-some column first form other)))
    (zero_or_some first)

-- a factor is put where the form is 0 from there on
put : (column : ℕ) (form : List ℤ) (next place : ℕ) (factor : ℤ) → factor ≢ pos 0 → next ≤ place → place < length form → AreZero (drop next form)
    → form_words column (set form place factor) ≡ form_words column form ++ pair (decimal (column + place)) factor ∷ []
put column [] next place factor some from within behind = absurd (omega (arith, within))
put column (first ∷ form) zero zero factor some from within behind =
    let at : column ≡ column + 0 = omega arith in
    let none : form_words column (first ∷ form) ≡ [] = words_zero column (first ∷ form) behind in
    form_words-some column factor form some
    ∙ ap (λ rest. pair (decimal column) factor ∷ rest) (words_zero (suc column) form (All-tail (λ f. f ≡ pos 0) first form behind))
    ∙ ap (λ n. pair (decimal n) factor ∷ []) at
    ∙ ap (λ front. front ++ pair (decimal (column + 0)) factor ∷ []) (sym none)
put column (first ∷ form) (suc next) zero factor some from within behind = absurd (omega (arith, from))
put column (first ∷ form) zero (suc place) factor some from within behind =
    let later = put (suc column) form zero place factor some (omega arith) (omega (arith, within)) (All-tail (λ f. f ≡ pos 0) first form behind) in
    later_on column first form (set form place factor) place factor later
put column (first ∷ form) (suc next) (suc place) factor some from within behind =
    let later = put (suc column) form next place factor some (omega (arith, from)) (omega (arith, within)) behind in
    later_on column first form (set form place factor) place factor later

-- ---- the first word of a form

-- where a form has a word, it has a factor that is not 0 before its other words
pub record HasFirst (column : ℕ) (form : List ℤ) (word : List ℕ) (rest : List (List ℕ)) : Type 0 where
  pub place : ℕ
  pub within : place < length form
  pub spelled : word ≡ pair (decimal (column + place)) (get_or form place (pos 0))
  pub some : get_or form place (pos 0) ≢ pos 0
  pub others : form_words (suc (column + place)) (drop (suc place) form) ≡ rest

first_later : (column : ℕ) (factor : ℤ) (form : List ℤ) (word : List ℕ) (rest : List (List ℕ)) → HasFirst (suc column) form word rest → HasFirst column (factor ∷ form) word rest
first_later column factor form word rest has =
    let at : suc column + has.place ≡ column + suc has.place = omega arith in
    record {
      place = suc has.place;
      within = omega (arith, has.within);
      spelled = has.spelled ∙ ap (λ n. pair (decimal n) (get_or form has.place (pos 0))) at;
      some = has.some;
      others = ap (λ n. form_words (suc n) (drop (suc has.place) form)) (sym at) ∙ has.others;
    }

pub first_word : (column : ℕ) (form : List ℤ) (word : List ℕ) (rest : List (List ℕ)) → form_words column form ≡ word ∷ rest → HasFirst column form word rest
first_word column [] word rest e = absurd cc
first_word column (factor ∷ form) word rest e = ⊎_elim
    (λ (none : factor ≡ pos 0). first_later column factor form word rest (first_word (suc column) form word rest (sym (form_words-zero column factor form none) ∙ e)))
    (λ (other : factor ≢ pos 0).
    let whole : pair (decimal column) factor ∷ form_words (suc column) form ≡ word ∷ rest = sym (form_words-some column factor form other) ∙ e in
    let at : column ≡ column + 0 = omega arith in
    record {
      place = 0;
      within = omega arith;
      spelled = let first : word ≡ pair (decimal column) factor = cc in first ∙ ap (λ n. pair (decimal n) factor) at;
      some = other;
      others = let later : form_words (suc column) form ≡ rest = cc in ap (λ n. form_words (suc n) form) (sym at) ∙ later;
    })
    (zero_or_some factor)

-- ---- the words that are read of a form

-- the words that are read are the form, which is 0 from the next column on; a form with all these words has those that are
-- left from there on
pub record IsPartOfForm (columns : ℕ) (whole rest : List (List ℕ)) (form : List ℤ) (next : ℕ) : Type 0 where
  pub long : length form ≡ columns
  pub read : whole ≡ form_words 0 form ++ rest
  pub zero_behind : AreZero (drop next form)
  pub sized : All (IsOfSize (2 ^ 96)) form
  pub only : (other : List ℤ) → length other ≡ columns → AreFormWords whole other → form_words next (drop next other) ≡ rest

-- no word is read
pub none_read : (columns : ℕ) (whole : List (List ℕ)) → IsPartOfForm columns whole whole (replicate columns (pos 0)) 0
none_read columns whole =
    let zero_form : AreZero (replicate columns (pos 0)) = All-replicate (λ f. f ≡ pos 0) columns (pos 0) refl in
    record {
      long = length-replicate columns (pos 0);
      read = ap (λ front. front ++ whole) (sym (words_zero 0 (replicate columns (pos 0)) zero_form));
      zero_behind = zero_form;
      sized = All-replicate IsSmall columns (pos 0) (omega (arith, ints), omega (arith, ints));
      only = λ other long are. sym are.0;
    }

module _ (columns : ℕ) (few : columns ≤ 256) (whole old rest : List (List ℕ)) (word : List ℕ) (form : List ℤ) (next : ℕ) (part : IsPartOfForm columns whole old form next) (left : old ≡ word ∷ rest) where
  -- what stands first of another form with these words
  abbrev From : List ℤ → Type 0
  From other = HasFirst next (drop next other) word rest

  from : (other : List ℤ) → length other ≡ columns → AreFormWords whole other → From other
  from other long are = first_word next (drop next other) word rest (part.only other long are ∙ left)

  within : (other : List ℤ) → length other ≡ columns → (first : From other) → next + first.place < columns
  within other long first = omega (arith, first.within, length-drop next other, long)

  -- and is a factor with its column
  of_first : (other : List ℤ) → length other ≡ columns → AreFormWords whole other → (first : From other) → SpellsFactor word (record { column = next + first.place; factor = get_or (drop next other) first.place (pos 0) })
  of_first other long are first = record {
    spelled = first.spelled;
    column = omega (arith, few, within other long first);
    some = first.some;
    size = All-get_or IsSmall (drop next other) first.place (pos 0) first.within (All-drop IsSmall next other are.1);
  }

  -- a word that is no such factor stands in no form
  pub unread_form : ((factor : Factor) → SpellsFactor word factor → next ≤ factor.column → factor.column < columns → ⊥) → (other : List ℤ) → length other ≡ columns → AreFormWords whole other → ⊥
  unread_form none other long are =
      let first = from other long are in
      none (record { column = next + first.place; factor = get_or (drop next other) first.place (pos 0) }) (of_first other long are first) (omega arith) (within other long first)

  -- one factor more
  pub more_form : (factor : Factor) → SpellsFactor word factor → next ≤ factor.column → factor.column < columns → IsPartOfForm columns whole rest (set form factor.column factor.factor) (factor.column + 1)
  more_form factor spells at_least below = record {
    long = length-set form factor.column factor.factor ∙ part.long;
    read =
        part.read
        ∙ ap (λ words. form_words 0 form ++ words) (left ∙ ap (λ w. w ∷ rest) spells.spelled)
        ∙ sym (append_assoc (form_words 0 form) (pair (decimal factor.column) factor.factor ∷ []) rest)
        ∙ ap (λ words. words ++ rest) (sym (put 0 form next factor.column factor.factor spells.some at_least (omega (arith, below, part.long)) part.zero_behind ∙ ap (λ n. form_words 0 form ++ pair (decimal n) factor.factor ∷ []) at_zero));
    zero_behind = subst AreZero (sym (drop-set-lt (factor.column + 1) form factor.column factor.factor (omega arith))) (subst AreZero behind (All-drop (λ f. f ≡ pos 0) (factor.column + 1 - next) (drop next form) part.zero_behind));
    sized = All-set IsSmall form factor.column factor.factor spells.size part.sized;
    only = λ other long are.
        let first = from other long are in
        let of = of_first other long are first in
        let same = same_factor_word factor.column (next + first.place) factor.factor (get_or (drop next other) first.place (pos 0)) (omega (arith, spells.column)) (omega (arith, of.column)) spells.size of.size (sym spells.spelled ∙ of.spelled) in
        let place : suc (next + first.place) ≡ factor.column + 1 = omega (arith, same.0) in
        let drops : drop (suc first.place) (drop next other) ≡ drop (factor.column + 1) other = drop-drop (suc first.place) next other ∙ ap (λ n. drop n other) (omega (arith, same.0)) in
        sym (ap (λ n. form_words n (drop (factor.column + 1) other)) place) ∙ sym (ap (form_words (suc (next + first.place))) drops) ∙ first.others;
  }
    where
      at_zero : 0 + factor.column ≡ factor.column
      at_zero = omega arith

      behind : drop (factor.column + 1 - next) (drop next form) ≡ drop (factor.column + 1) form
      behind = drop-drop (factor.column + 1 - next) next form ∙ ap (λ n. drop n form) (omega (arith, at_least))

-- all words are read
pub all_read : (columns : ℕ) (whole old : List (List ℕ)) (form : List ℤ) (next : ℕ) → IsPartOfForm columns whole old form next → old ≡ [] → AreFormWords whole form
all_read columns whole old form next part none = (part.read ∙ ap (λ words. form_words 0 form ++ words) none ∙ append-nil (form_words 0 form), part.sized)

-- ---- the words of a line

-- a number that is not above another is at most it
not_above : (m n : ℕ) → (n < m → ⊥) → m ≤ n
not_above m n h = omega (arith, h)

same_mark : (mark other : Mark) → mark_word mark ≡ mark_word other → mark ≡ other
same_mark Thin Thin e = refl
same_mark Thin Plain e = absurd (omega (arith, ap (λ word. get_or word 0 0) e))
same_mark Plain Thin e = absurd (omega (arith, ap (λ word. get_or word 0 0) e))
same_mark Plain Plain e = refl

mark_is : (mark : Mark) → IsMarkWord (mark_word mark)
mark_is Thin = inl refl
mark_is Plain = inr refl

-- the words of an opening are those of the line
record HasWords (words : SplitWords) (opening : Opening) : Type 0 where
  mark : words.mark ≡ opening.mark
  lo : words.lo.now ≡ signed_decimal opening.lo
  count : words.count.now ≡ signed_decimal opening.count
  form : words.form ≡ form_words 0 opening.form

module _ (rows : WholeRows) (text : List ℕ) (words : SplitWords) (are : AreSplitWords text words) where
  pub split_shape : HasSplitShape text
  split_shape = record {
    mark = mark_word words.mark;
    lo = words.lo.now;
    count = words.count.now;
    words = words.form;
    spelled = are.spelled;
    is_mark = mark_is words.mark;
    is_lo = are.lo;
    is_count = are.count;
    pairs = are.pairs;
  }

  has_words : (opening : Opening) → text ≡ opening_line opening → HasWords words opening
  has_words opening e =
      let read : List (List ℕ) = mark_word words.mark ∷ words.lo.now ∷ words.count.now ∷ words.form in
      let made : List (List ℕ) = mark_word opening.mark ∷ signed_decimal opening.lo ∷ signed_decimal opening.count ∷ form_words 0 opening.form in
      let read_words : All IsWord read =
      All-cons IsWord (mark_word words.mark) (words.lo.now ∷ words.count.now ∷ words.form) (token_word (mark_word words.mark) (mark-token words.mark))
      (All-cons IsWord words.lo.now (words.count.now ∷ words.form) (token_word words.lo.now are.lo)
      (All-cons IsWord words.count.now words.form (token_word words.count.now are.count) (pairs_words words.form are.pairs.1))) in
      let made_words : All IsWord made =
      All-cons IsWord (mark_word opening.mark) (signed_decimal opening.lo ∷ signed_decimal opening.count ∷ form_words 0 opening.form) (token_word (mark_word opening.mark) (mark-token opening.mark))
      (All-cons IsWord (signed_decimal opening.lo) (signed_decimal opening.count ∷ form_words 0 opening.form) (token_word (signed_decimal opening.lo) (signed-is_token opening.lo))
      (All-cons IsWord (signed_decimal opening.count) (form_words 0 opening.form) (token_word (signed_decimal opening.count) (signed-is_token opening.count)) (pairs_words (form_words 0 opening.form) (form_words-pairs 0 opening.form)))) in
      let same : read ≡ made = words_behind 83 read made read_words made_words (sym are.spelled ∙ e) in
      let marks : mark_word words.mark ≡ mark_word opening.mark = cc in
      record { mark = same_mark words.mark opening.mark marks; lo = cc; count = cc; form = cc }

  -- where the values are not spelled, no opening is
  pub no_range : ((range : Range) → SpellsRange words range → ⊥) → (opening : Opening) → SpellsOpening rows text opening → ⊥
  no_range none opening spells =
      let has = has_words opening spells.0 in
      none (record { mark = opening.mark; lo = opening.lo; count = opening.count }) (record {
        mark = has.mark;
        lo = (has.lo, spells.1.lo.0, spells.1.lo.1);
        count = (has.count, spells.1.count.0, spells.1.count.1);
      })

  pub no_form : (columns : ℕ) → columns ≡ length rows.box → ((form : List ℤ) → length form ≡ columns → AreFormWords words.form form → ⊥) → (opening : Opening) → SpellsOpening rows text opening → ⊥
  no_form columns dense none opening spells = none opening.form (spells.1.dense ∙ sym dense) ((has_words opening spells.0).form, spells.1.factors)

  module _ (range : Range) (form : List ℤ) (spells : SpellsRange words range) (read : AreFormWords words.form form) (dense : length form ≡ length rows.box) where
    not_zero : AreZero form → ⊥
    not_zero zero_form = are.pairs.0 (read.0 ∙ words_zero 0 form zero_form)

    pub spells_opening : SpellsOpening rows text (opening_of range form)
    spells_opening =
        let mark : mark_word words.mark ≡ mark_word range.mark = ap mark_word spells.mark in
        let lo = spells.lo.0 in
        let count = spells.count.0 in
        let formed = read.0 in
        let whole : in_words (codes "S" ∷ mark_word words.mark ∷ words.lo.now ∷ words.count.now ∷ words.form) ≡ in_words (codes "S" ∷ mark_word range.mark ∷ signed_decimal range.lo ∷ signed_decimal range.count ∷ form_words 0 form) = cc in (
          are.spelled ∙ whole,
          record {
            dense = dense;
            some = not_zero;
            factors = read.1;
            lo = (spells.lo.1, spells.lo.2);
            count = (spells.count.1, spells.count.2);
          },
        )

    pub is_opening : (splits : List OpenSplit) → (IsTooDeep rows splits (opening_of range form) → ⊥) → span form rows.box ≤ 2 ^ 96 → Opens rows splits text (opening_of range form)
    is_opening splits shallow light = (
      spells_opening.0,
      record {
        form = record { dense = dense; some = not_zero; light = light };
        lo = (spells.lo.1, spells.lo.2);
        count = (spells.count.1, spells.count.2);
        room = λ some. not_above (length splits + 1) (2 * length rows.box) (λ above. shallow (omega (arith, above), some));
      },
    )
