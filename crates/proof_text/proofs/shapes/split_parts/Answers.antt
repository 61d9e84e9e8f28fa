use Rattle.std.proofs.Common.{◌≡◌, ◌∷◌, All, sym, subst}
use Rattle.std.proofs.lemmas.Bool.{iff_false}
use Rattle.proof_text.specs.Shapes.{IsPair}
use Rattle.proof_text.specs.Words.{words_of}
use Rattle.proof_text.specs.Spelling.{mark_word}
use Rattle.proof_text.proofs.ShapeLaws.{split_list, no_lo, no_count, split_at, split_spelled}
use Rattle.proof_text.proofs.shapes.split_parts.Goals as goal
use Rattle.proof_text.proofs.shapes.split_parts.Goals.{then-not-is_token-via-then-not-is_token, then-not-is_token-via-else-not-is_token+then-not-is_token-2, then-not-is_token-via-else-not-is_token+else-not-is_token-2+then-is_empty, then-not-is_token-via-else-not-is_token+else-not-is_token-2+else-is_empty+then-not-are_all_pairs}

pub returns-in_err-lo : goal.returns-in_err-lo
returns-in_err-lo c =
    rw c.from_residual-in_err-lo.ensures
    (λ shape. no_lo (words_of c.args.rest.now) c.in_ok-next.field-0.now (split_list c.args.rest.now shape) (cc (c.of-words.ensures, c.in_ok-next.ensures, c.in_err-lo.ensures.0)))

pub returns-in_err-count : goal.returns-in_err-count
returns-in_err-count c =
    rw c.from_residual-in_err-count.ensures
    (λ shape. no_count (words_of c.args.rest.now) c.in_ok-next.field-0.now c.in_ok-lo.lo.now (split_list c.args.rest.now shape) (cc (c.of-words.ensures, c.in_ok-next.ensures, c.in_ok-lo.ensures, c.in_err-count.ensures.0)))

pub returns-then-not-is_token : goal.returns-then-not-is_token
returns-then-not-is_token c = λ shape.
    let e : words_of c.args.rest.now ≡ c.in_ok-next.field-0.now ∷ c.in_ok-lo.lo.now ∷ c.in_ok-count.count.now ∷ c.next-3.new.self = cc (c.of-words.ensures, c.in_ok-next.ensures, c.in_ok-lo.ensures, c.in_ok-count.ensures) in
    let s = split_at (words_of c.args.rest.now) _ _ _ _ (split_list c.args.rest.now shape) e in
    elim c.then-not-is_token.branch [
      | then-not-is_token-via-then-not-is_token w ↦ iff_false c.is_token.ensures w.if-not-is_token.true s.1
      | then-not-is_token-via-else-not-is_token+then-not-is_token-2 w ↦ iff_false w.is_token-else-not-is_token.ensures w.if-not-is_token-2.true s.2
      | then-not-is_token-via-else-not-is_token+else-not-is_token-2+then-is_empty w ↦ s.3.0 (w.is_empty.ensures.0 w.if-is_empty.true)
      | then-not-is_token-via-else-not-is_token+else-not-is_token-2+else-is_empty+then-not-are_all_pairs w ↦ iff_false w.are_all_pairs.ensures w.if-not-are_all_pairs.true (subst (All IsPair) (sym w.again.ensures) s.3.1)
    ]

pub returns : goal.returns
returns c =
    let e : words_of c.args.rest.now ≡ c.in_ok-next.field-0.now ∷ c.in_ok-lo.lo.now ∷ c.in_ok-count.count.now ∷ c.next-3.new.self = cc (c.of-words.ensures, c.in_ok-next.ensures, c.in_ok-lo.ensures, c.in_ok-count.ensures) in
    record {
      spelled = split_spelled c.args.rest.now _ _ _ (mark_word c.in_ok-mark.mark) _ e c.in_ok-mark.ensures;
      lo = c.is_token.ensures.0 c.if-not-is_token.false;
      count = c.is_token-else-not-is_token.ensures.0 c.if-not-is_token-2.false;
      pairs = (λ none. let full = c.is_empty.ensures.1 none in absurd (cc (full, c.if-is_empty.false)), subst (All IsPair) c.again.ensures (c.are_all_pairs.ensures.0 c.if-not-are_all_pairs.false));
    }
