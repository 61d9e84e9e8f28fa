use Rattle.std.proofs.lemmas.Bool.{iff_false}
use Rattle.proof_text.proofs.ShapeLaws.{no_pair, pair_parts}
use Rattle.proof_text.proofs.shapes.cut_pair.Goals as goal
use Rattle.proof_text.proofs.shapes.cut_pair.Goals.{then-not-is_token-via-then-not-is_token, then-not-is_token-via-else-not-is_token+then-not-is_token-2}

pub returns-in_err-parts : goal.returns-in_err-parts
returns-in_err-parts c = rw c.from_residual.ensures (no_pair c.args.word.now c.in_err-parts.ensures)

pub returns-then-not-is_token : goal.returns-then-not-is_token
returns-then-not-is_token c = λ p.
    let parts = pair_parts c.args.word.now _ _ c.in_ok-parts.ensures p in
    elim c.then-not-is_token.branch [
      | then-not-is_token-via-then-not-is_token w ↦ iff_false c.is_token.ensures w.if-not-is_token.true parts.0
      | then-not-is_token-via-else-not-is_token+then-not-is_token-2 w ↦ iff_false w.is_token-else-not-is_token.ensures w.if-not-is_token-2.true parts.1
    ]
