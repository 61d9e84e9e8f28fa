use Rattle.std.proofs.Common.{◌≡◌, ◌∷◌, All, sym, subst}
use Rattle.std.proofs.lemmas.Bool.{iff_false}
use Rattle.proof_text.specs.Shapes.{IsNumberWord}
use Rattle.proof_text.specs.Words.{words_of}
use Rattle.proof_text.proofs.ShapeLaws.{point_at, point_spelled}
use Rattle.proof_text.proofs.shapes.numbers_behind.Goals as goal
use Rattle.proof_text.proofs.shapes.numbers_behind.Goals.{then-not-is_optimal-via-then-not-is_optimal, then-not-is_optimal-via-else-not-is_optimal+then-not-are_all_numbers}

pub returns-then-not-is_optimal : goal.returns-then-not-is_optimal
returns-then-not-is_optimal c = λ shape.
    let e : words_of c.args.line.now ≡ c.in_ok-first.first.now ∷ c.next.new.self = cc (c.of-words.ensures, c.in_ok-first.ensures) in
    let p = point_at c.args.line.now _ _ shape e in
    elim c.then-not-is_optimal.branch [
      | then-not-is_optimal-via-then-not-is_optimal w ↦ iff_false c.is_optimal.ensures w.if-not-is_optimal.true p.0
      | then-not-is_optimal-via-else-not-is_optimal+then-not-are_all_numbers w ↦ iff_false w.are_all_numbers.ensures w.if-not-are_all_numbers.true (subst (All IsNumberWord) (sym w.again.ensures) p.1)
    ]

pub returns : goal.returns
returns c =
    let e : words_of c.args.line.now ≡ c.in_ok-first.first.now ∷ c.next.new.self = cc (c.of-words.ensures, c.in_ok-first.ensures) in
    (point_spelled c.args.line.now _ _ e (c.is_optimal.ensures.0 c.if-not-is_optimal.false), subst (All IsNumberWord) c.again.ensures (c.are_all_numbers.ensures.0 c.if-not-are_all_numbers.false))
