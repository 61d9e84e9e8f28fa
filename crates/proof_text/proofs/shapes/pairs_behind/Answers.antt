use Rattle.std.proofs.Common.{All, sym, subst}
use Rattle.std.proofs.lemmas.Bool.{iff_false}
use Rattle.proof_text.specs.Shapes.{IsPair}
use Rattle.proof_text.proofs.ShapeLaws.{has_pairs, pairs_at, no_behind}
use Rattle.proof_text.proofs.shapes.pairs_behind.Goals as goal

pub returns-in_err-rest : goal.returns-in_err-rest
returns-in_err-rest c = rw c.from_residual.ensures (no_behind c.args.first c.args.line.now c.in_err-rest.ensures)

pub returns-then-not-are_all_pairs : goal.returns-then-not-are_all_pairs
returns-then-not-are_all_pairs c = λ shape.
    iff_false c.are_all_pairs.ensures c.if-not-are_all_pairs.true (subst (All IsPair) (sym c.again.ensures) (pairs_at c.args.first c.args.line.now _ _ c.in_ok-rest.ensures c.of-words.ensures shape))

pub returns : goal.returns
returns c = has_pairs c.args.first c.args.line.now _ _ c.in_ok-rest.ensures c.of-words.ensures (subst (All IsPair) c.again.ensures (c.are_all_pairs.ensures.0 c.if-not-are_all_pairs.false))
