use Rattle.std.proofs.lemmas.Bool.{iff_false}
use Rattle.tree_checker.proofs.ClaimLaws.{no_numbers, no_point}
use Rattle.tree_checker.proofs.claim.judge_claim.Goals as goal

pub returns-then-not-read_point : goal.returns-then-not-read_point
returns-then-not-read_point c =
    let words = c.in-Some.ensures in
    let none = c.if-not-read_point.ensures in
    ((c.in-Some.words, words.0, words.1), λ x spells meets. no_numbers c.args.rows.now c.requires.limits c.args.text.now c.in-Some.words words.0 words.1 _ c.requires.dense none x spells meets)

pub returns-then-not-is_point : goal.returns-then-not-is_point
returns-then-not-is_point c =
    let words = c.in-Some.ensures in
    let read = c.if-not-read_point.ensures in
    let none = iff_false c.is_point.ensures c.if-not-is_point.true in
    ((c.in-Some.words, words.0, words.1), λ x spells meets. no_point c.args.rows.now c.requires.limits c.args.text.now c.in-Some.words words.0 words.1 c.read_point.new.point read none x spells meets)
