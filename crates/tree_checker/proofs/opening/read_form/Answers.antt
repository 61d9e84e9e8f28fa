use Rattle.std.proofs.Common.{length, ap, arith}
use Rattle.std.proofs.lemmas.Int.{ints, to_z-of_z}
use mir.Val.{SFits}
use mir.Syntax.{w128}
use Rattle.tree_checker.proofs.StackLaws.{fits}
use Rattle.tree_checker.proofs.OpeningLaws.{none_read, unread_form, more_form}
use Rattle.tree_checker.proofs.opening.read_form.Goals as goal

pub loop-next-init : goal.loop-next-init
loop-next-init c = rw c.clear.ensures (none_read (length c.args.form.now) c.args.words)

pub returns-in_default-next_factor-clause-read : goal.returns-in_default-next_factor-clause-read
returns-in_default-next_factor-clause-read c = λ other long are.
    unread_form (length c.args.form.now) c.requires c.args.words c.loop-next.words c.next.new.self c.in-Some.word.now c.loop-next.form c.loop-next.next c.loop-next.invariant c.in-Some.ensures
    (λ factor spells from below. c.in_default-next_factor.ensures factor spells from (omega (arith, below, c.loop-next.invariant.long, ap length c.items.ensures)))
    other long are

pub loop-next-preserved : goal.loop-next-preserved
loop-next-preserved c =
    let factor = c.in-Some-next_factor.factor in
    let read = c.in-Some-next_factor.ensures in
    let one : SFits w128 factor.factor = fits factor.factor (omega (arith, ints, read.0.size.0)) (omega (arith, ints, read.0.size.1)) in
    rw c.set.ensures (simp to_z-of_z (
    more_form (length c.args.form.now) c.requires c.args.words c.loop-next.words c.next.new.self c.in-Some.word.now c.loop-next.form c.loop-next.next c.loop-next.invariant c.in-Some.ensures factor read.0 read.1
    (omega (arith, read.2, c.loop-next.invariant.long, ap length c.items.ensures))
    ))
