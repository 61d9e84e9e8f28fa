-- No claim and tree have two spellings, and no text spells two.
use Rattle.std.proofs.Common.{◌≡◌, ℕ, ◌+◌, ◌^◌, ◌<◌, ◌≤◌, ℤ, pos, ◌+ℤ◌, ◌-ℤ◌, ◌≤ℤ◌, List, [], ◌∷◌, ◌++◌, length, get_or, drop, map, All, Option, Some, None, codes, refl, sym, ap, ◌∙◌, append_assoc, arith}
use Rattle.std.specs.Fmt.{signed_decimal}
use Rattle.std.proofs.lemmas.Int.{ints}
use Rattle.std.proofs.lemmas.List.{length-append, length_push}
use Rattle.std.proofs.lemmas.List.Elements.{All-nil, All-cons, All-head, All-tail}
use Rattle.whole_rows.specs.WholeRows.{WholeRows, IsWithinLimits}
use Rattle.farkas_rows.specs.declared.line.Line.{Line}
use Rattle.farkas_rows.specs.declared.path.Slice.{Slice}
use Rattle.farkas_rows.specs.Inequalities.{Inequality}
use Rattle.farkas_rows.specs.Inequalities as sides
use Rattle.proof_tree.specs.declared.tree.Mark.{Mark}
use Rattle.proof_tree.specs.declared.tree.Cut.{Cut}
use Rattle.proof_tree.specs.declared.tree.Tree as tree
use Rattle.proof_tree.specs.Trees.{on_slice, IsOfSize}
use Rattle.proof_text.specs.declared.claim.Claim.{Claim}
use Rattle.proof_text.specs.declared.claim.Claim.TheVariants as claims
use Rattle.proof_text.specs.Spelling.{in_words, line_words, closing_line, split_line, below_line, above_line, split_lines, tree_lines, forest_lines, claim_line, head_lines}
use Rattle.proof_text.specs.Printable.{IsPrintableLine, IsPrintableCut, IsPrintableTree, ArePrintableTrees, IsPrintableClaim, Spells}
use Rattle.proof_text.specs.TokenLaws.{signed-token, signed-same}
use Rattle.proof_text.specs.PairLaws.{token_word, pairs_words, words_behind}
use Rattle.proof_text.specs.Words.{IsWord}
use Rattle.proof_text.specs.PrintedShapes.{line_words-pairs}
use Rattle.proof_text.specs.Lines.{few_lines, same_lines}
use Rattle.proof_text.specs.PrintedLines.{proof_text-lines}
use Rattle.proof_text.specs.OneLine.{same_line, printable-small}
use Rattle.proof_text.specs.OneSplit.{IsSmallSplit, same_split, value_of_size}

-- ---- trees

-- The trees are the same: by their marks, numbers and lists. Where they lie in memory, and how much room their lists have,
-- is left out.
abbrev mutual
  pub IsSameTree : tree.Tree → tree.Tree → Type 0
  IsSameTree (tree.Empty line) (tree.Empty other) = line ≡ other
  IsSameTree (tree.Empty line) (tree.Split' _ _ _ _) = ⊥
  IsSameTree (tree.Split' _ cut _ children) (tree.Empty line) = ⊥
  IsSameTree (tree.Split' _ cut _ children) (tree.Split' _ other _ others) = (cut ≡ other) × AreSameTrees children others

  pub AreSameTrees : {m n : _} → tree.Row_of-Tree m → tree.Row_of-Tree n → Type 0
  AreSameTrees tree.end_of-Tree tree.end_of-Tree = Unit {0}
  AreSameTrees tree.end_of-Tree (tree.more_of-Tree other others) = ⊥
  AreSameTrees (tree.more_of-Tree child rest) tree.end_of-Tree = ⊥
  AreSameTrees (tree.more_of-Tree child rest) (tree.more_of-Tree other others) = IsSameTree child other × AreSameTrees rest others

-- the values of the slices rise
trees_rise : (rows : WholeRows) (path : List Slice) (form : List ℤ) (from until : ℤ) {m : _} (k : tree.Row_of-Tree m) → ArePrintableTrees rows path form from until k → from ≤ℤ until
trees_rise rows path form from until tree.end_of-Tree h = omega (arith, ints, h)
trees_rise rows path form from until (tree.more_of-Tree child rest) h = omega (arith, ints, trees_rise rows path form (from +ℤ pos 1) until rest h.1)

module _ (rows : WholeRows) (limits : IsWithinLimits rows) where
  same_multipliers : (p q : List Slice) (e f : Option Inequality) (first : ℕ) (line other : Line) → length p ≤ 2 ^ 64 → length p ≡ length q → IsPrintableLine rows p e line → IsPrintableLine rows q f other → in_words ((first ∷ []) ∷ line_words line) ≡ in_words ((first ∷ []) ∷ line_words other) → line ≡ other
  same_multipliers p q e f first line other short same h k w =
      same_line line other (printable-small rows p e line limits.few_rows limits.few_columns short h) (printable-small rows q f other limits.few_rows limits.few_columns (omega (arith, short, same)) k)
      (words_behind first (line_words line) (line_words other) (pairs_words (line_words line) (line_words-pairs line)) (pairs_words (line_words other) (line_words-pairs other)) w)

  small_split : (p : List Slice) (cut : Cut) → IsPrintableCut rows p cut → IsSmallSplit cut.lo cut.count cut.form
  small_split p cut h = record { first = h.lo; slices = h.count; factors = h.factors; narrow = omega (arith, h.dense, limits.few_columns) }

  -- two splits with the same lines are the same
  pub same_cut_lines : (p q : List Slice) (cut other : Cut) → length p ≤ 2 ^ 64 → length p ≡ length q → IsPrintableCut rows p cut → IsPrintableCut rows q other → split_lines cut ≡ split_lines other → cut ≡ other
  same_cut_lines p q cut other short same h k e =
      let first : split_line cut ≡ split_line other = cc in
      let second : below_line cut ≡ below_line other = cc in
      let third : above_line cut ≡ above_line other = cc in
      let told = same_split cut.mark other.mark cut.lo other.lo cut.count other.count cut.form other.form (h.dense ∙ sym k.dense) (small_split p cut h) (small_split q other k) first in
      let lower : cut.below ≡ other.below = same_multipliers p q (Some (sides.below cut.form cut.lo)) (Some (sides.below other.form other.lo)) 66 cut.below other.below short same h.below k.below second in
      let upper : cut.above ≡ other.above = same_multipliers p q (Some (sides.above cut.form (cut.lo +ℤ cut.count))) (Some (sides.above other.form (other.lo +ℤ other.count))) 65 cut.above other.above short same h.above k.above third in
      let make : List ℤ → ℤ → ℤ → Line → Line → Mark → Cut = λ form lo count b a mark. record { form = form; lo = lo; count = count; below = b; above = a; mark = mark } in
      ap (λ x. make x cut.lo cut.count cut.below cut.above cut.mark) told.3
      ∙ ap (λ x. make other.form x cut.count cut.below cut.above cut.mark) told.1
      ∙ ap (λ x. make other.form other.lo x cut.below cut.above cut.mark) told.2
      ∙ ap (λ x. make other.form other.lo other.count x cut.above cut.mark) lower
      ∙ ap (λ x. make other.form other.lo other.count other.below x cut.mark) upper
      ∙ ap (λ x. make other.form other.lo other.count other.below other.above x) told.0

  -- lines that begin with those of two trees begin with those of one, and so the rest is the same
  mutual
    pub same_tree : (p q : List Slice) (t u : tree.Tree) (r s : List (List ℕ)) → length p + length (tree_lines t ++ r) ≤ 2 ^ 64 → length p ≡ length q → IsPrintableTree rows p t → IsPrintableTree rows q u → tree_lines t ++ r ≡ tree_lines u ++ s → IsSameTree t u × (r ≡ s)
    same_tree p q (tree.Empty line) (tree.Empty other) r s short same h k e =
        let first : closing_line line ≡ closing_line other = cc in
        let rest : r ≡ s = cc in
        (same_multipliers p q None None 69 line other (omega (arith, short)) same h k first, rest)
    same_tree p q (tree.Empty line) (tree.Split' b cut v children) r s short same h k e =
        let first : closing_line line ≡ split_line cut = cc in
        absurd (omega (arith, ap (λ w. get_or w 0 0) first))
    same_tree p q (tree.Split' b cut v children) (tree.Empty line) r s short same h k e =
        let first : split_line cut ≡ closing_line line = cc in
        absurd (omega (arith, ap (λ w. get_or w 0 0) first))
    same_tree p q (tree.Split' b cut v children) (tree.Split' b' other v' others) r s short same h k e =
        let one : split_line cut ≡ split_line other = cc in
        let two : below_line cut ≡ below_line other = cc in
        let three : above_line cut ≡ above_line other = cc in
        let lines : split_lines cut ≡ split_lines other = cc (one, two, three) in
        let behind : forest_lines children ++ r ≡ forest_lines others ++ s = cc in
        let cuts : cut ≡ other = same_cut_lines p q cut other (omega (arith, short)) same h.0 k.0 lines in
        let counts : (cut.lo +ℤ cut.count) -ℤ cut.lo ≡ (other.lo +ℤ other.count) -ℤ other.lo = ap (λ (c : Cut). (c.lo +ℤ c.count) -ℤ c.lo) cuts in
        let few : length p + 1 + length (forest_lines children ++ r) ≤ 2 ^ 64 = omega (arith, short) in
        let rest = same_trees p q cut.form other.form cut.lo (cut.lo +ℤ cut.count) other.lo (other.lo +ℤ other.count) children others r s few same counts h.1 k.1 behind in
        ((cuts, rest.0), rest.1)

    same_trees : (p q : List Slice) (form factors : List ℤ) (from until low high : ℤ) {m n : _} (a : tree.Row_of-Tree m) (b : tree.Row_of-Tree n) (r s : List (List ℕ)) → length p + 1 + length (forest_lines a ++ r) ≤ 2 ^ 64 → length p ≡ length q → until -ℤ from ≡ high -ℤ low
        → ArePrintableTrees rows p form from until a → ArePrintableTrees rows q factors low high b → forest_lines a ++ r ≡ forest_lines b ++ s → AreSameTrees a b × (r ≡ s)
    same_trees p q form factors from until low high tree.end_of-Tree tree.end_of-Tree r s short same counts h k e = (tt, e)
    same_trees p q form factors from until low high tree.end_of-Tree (tree.more_of-Tree other others) r s short same counts h k e =
        absurd (omega (arith, ints, h, counts, trees_rise rows q factors (low +ℤ pos 1) high others k.1))
    same_trees p q form factors from until low high (tree.more_of-Tree child rest) tree.end_of-Tree r s short same counts h k e =
        absurd (omega (arith, ints, k, counts, trees_rise rows p form (from +ℤ pos 1) until rest h.1))
    same_trees p q form factors from until low high (tree.more_of-Tree child rest) (tree.more_of-Tree other others) r s short same counts h k e =
        let whole : tree_lines child ++ (forest_lines rest ++ r) ≡ tree_lines other ++ (forest_lines others ++ s) = sym (append_assoc (tree_lines child) (forest_lines rest) r) ∙ e ∙ append_assoc (tree_lines other) (forest_lines others) s in
        let count : length (tree_lines child ++ forest_lines rest ++ r) ≡ length (tree_lines child ++ (forest_lines rest ++ r)) = ap length (append_assoc (tree_lines child) (forest_lines rest) r) in
        let paths : length (on_slice p form from) ≡ length p + 1 = length_push p (record { form = form; beta = from }) in
        let others_paths : length (on_slice q factors low) ≡ length q + 1 = length_push q (record { form = factors; beta = low }) in
        let first = same_tree (on_slice p form from) (on_slice q factors low) child other (forest_lines rest ++ r) (forest_lines others ++ s) (omega (arith, short, count, paths)) (omega (arith, paths, others_paths, same)) h.0 k.0 whole in
        let fewer : length p + 1 + length (forest_lines rest ++ r) ≤ 2 ^ 64 = omega (arith, short, count, length-append (tree_lines child) (forest_lines rest ++ r)) in
        let later = same_trees p q form factors (from +ℤ pos 1) until (low +ℤ pos 1) high rest others r s fewer same (omega (arith, ints, counts)) h.1 k.1 first.1 in
        ((first.0, later.0), later.1)

-- ---- claims

-- the values of a point are words
pub values_words : (x : List ℤ) → All (IsOfSize (2 ^ 96)) x → All IsWord (map signed_decimal x)
values_words [] h = All-nil IsWord
values_words (value ∷ x) h =
    All-cons IsWord (signed_decimal value) (map signed_decimal x) (token_word (signed_decimal value) (signed-token value (value_of_size value (All-head (IsOfSize (2 ^ 96)) value x h))))
    (values_words x (All-tail (IsOfSize (2 ^ 96)) value x h))

-- two points with the same words are the same
pub same_values : (x y : List ℤ) → All (IsOfSize (2 ^ 96)) x → All (IsOfSize (2 ^ 96)) y → map signed_decimal x ≡ map signed_decimal y → x ≡ y
same_values [] [] h k e = refl
same_values [] (b ∷ y) h k e = absurd cc
same_values (a ∷ x) [] h k e = absurd cc
same_values (a ∷ x) (b ∷ y) h k e =
    let head : signed_decimal a ≡ signed_decimal b = cc in
    let tail : map signed_decimal x ≡ map signed_decimal y = cc in
    let first : a ≡ b = signed-same a b (value_of_size a (All-head (IsOfSize (2 ^ 96)) a x h)) (value_of_size b (All-head (IsOfSize (2 ^ 96)) b y k)) head in
    ap (λ v. v ∷ x) first ∙ ap (λ v. b ∷ v) (same_values x y (All-tail (IsOfSize (2 ^ 96)) a x h) (All-tail (IsOfSize (2 ^ 96)) b y k) tail)

-- behind the last letter of its first word a point is known by its line
pub point_words : (words others : List (List ℕ)) → All IsWord words → All IsWord others → in_words (codes "OPTIMAL" ∷ words) ≡ in_words (codes "OPTIMAL" ∷ others) → words ≡ others
point_words words others h k e = let letter : in_words ((76 ∷ []) ∷ words) ≡ in_words ((76 ∷ []) ∷ others) = ap (drop 6) e in words_behind 76 words others h k letter

-- two claims with one line are the same
pub same_claim : (rows : WholeRows) (claim other : Claim) → IsPrintableClaim rows claim → IsPrintableClaim rows other → claim_line claim ≡ claim_line other → claim ≡ other
same_claim rows claims.Infeasible claims.Infeasible h k e = refl
same_claim rows claims.Infeasible (claims.Optimal y) h k e = absurd (omega (arith, ap (λ w. get_or w 0 0) e))
same_claim rows (claims.Optimal x) claims.Infeasible h k e = absurd (omega (arith, ap (λ w. get_or w 0 0) e))
same_claim rows (claims.Optimal x) (claims.Optimal y) h k e = ap (λ v. claims.Optimal v) (same_values x y h.1 k.1 (point_words (map signed_decimal x) (map signed_decimal y) (values_words x h.1) (values_words y k.1) e))
same_claim rows claims.Open other h k e = absurd h
same_claim rows claims.Infeasible claims.Open h k e = absurd k
same_claim rows (claims.Optimal x) claims.Open h k e = absurd k

-- ---- texts

-- the lines that a text spells are one list
pub spelled_lines : (rows : WholeRows) (text : List ℕ) (claim other : Claim) (t u : tree.Tree) → Spells rows text claim t → Spells rows text other u → head_lines claim ++ (tree_lines t ++ codes "DONE" ∷ []) ≡ head_lines other ++ (tree_lines u ++ codes "DONE" ∷ [])
spelled_lines rows text claim other t u h k =
    same_lines (head_lines claim ++ (tree_lines t ++ codes "DONE" ∷ [])) (head_lines other ++ (tree_lines u ++ codes "DONE" ∷ [])) (proof_text-lines claim t) (proof_text-lines other u) (sym h.bytes ∙ k.bytes)

-- no text spells two claims, nor two trees
pub one_reading : (rows : WholeRows) (text : List ℕ) (claim other : Claim) (t u : tree.Tree) → IsWithinLimits rows → length text < 2 ^ 64 → Spells rows text claim t → Spells rows text other u → (claim ≡ other) × IsSameTree t u
one_reading rows text claim other t u limits short h k =
    let lines = spelled_lines rows text claim other t u h k in
    let first : claim_line claim ≡ claim_line other = cc in
    let behind : tree_lines t ++ codes "DONE" ∷ [] ≡ tree_lines u ++ codes "DONE" ∷ [] = cc in
    let few : length (tree_lines t ++ codes "DONE" ∷ []) ≤ 2 ^ 64 = omega (arith, short, ap length h.bytes, few_lines (head_lines claim ++ (tree_lines t ++ codes "DONE" ∷ []))) in
    (same_claim rows claim other h.claimed k.claimed first, (same_tree rows limits [] [] t u (codes "DONE" ∷ []) (codes "DONE" ∷ []) (omega (arith, few)) refl h.printable k.printable behind).0)
