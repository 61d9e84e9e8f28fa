use Rattle.std.proofs.Common.{◌<◌, length, ℤ, arith}
use Rattle.std.proofs.lemmas.Int.{ints, to_z-of_z}
use mir.Val.{SFits}
use mir.Syntax.{w128}
use Rattle.tree_checker.proofs.StackLaws.{fits}
use Rattle.tree_checker.proofs.ClaimLaws.{unread, more}
use Rattle.tree_checker.proofs.claim.read_point.Goals as goal

pub returns-in_default-read_between : goal.returns-in_default-read_between
returns-in_default-read_between c = λ x _ are. unread c.args.words c.loop-word.words c.next.new.self c.in-Some.word.now c.loop-word.point c.loop-word.filled c.loop-word.invariant c.in-Some.ensures c.in_default-read_between.ensures x are

pub loop-word-preserved : goal.loop-word-preserved
loop-word-preserved c =
    let number : ℤ = c.in-Some-read_between.number in
    let one : SFits w128 number = fits number (omega (arith, ints, c.in-Some-read_between.ensures.1)) (omega (arith, ints, c.in-Some-read_between.ensures.2)) in
    let room : c.loop-word.filled < length c.loop-word.point = omega (arith, c.loop-word.invariant.within) in
    simp to_z-of_z (more c.args.words c.loop-word.words c.next.new.self c.in-Some.word.now c.loop-word.point c.loop-word.filled number c.loop-word.invariant c.in-Some.ensures room c.in-Some-read_between.ensures)
