use Rattle.std.proofs.Common.{pos, subst, refl}
use Rattle.std.specs.Prelude.{All, IsSome}
use Rattle.std.proofs.lemmas.List.{take_all}
use Rattle.std.proofs.lemmas.List.Elements.{All-more}
use Rattle.farkas_rows.specs.declared.line.Use.{Use}
use Rattle.farkas_rows.specs.Ends.{inequality_of}
use Rattle.farkas_rows.specs.Inequalities.{inequality_at}
use Rattle.farkas_rows.proofs.judge.are_there.Goals as goal

pub loop-item-preserved : goal.loop-item-preserved
loop-item-preserved c =
    All-more (λ (item : Use). IsSome (inequality_at c.args.rows.now c.args.path.now (inequality_of c.args.end.now) item.index)) c.args.items.now c.loop-item.item-index (record { index = 0; times = pos 0 }) c.loop-item-test.true c.loop-item.invariant (c.has_side.ensures.0 c.if-not-has_side.false)

pub returns : goal.returns
returns c =
    let P = λ (item : Use). IsSome (inequality_at c.args.rows.now c.args.path.now (inequality_of c.args.end.now) item.index) in
    (λ h. subst (All P) (take_all c.loop-item.item-index c.args.items.now c.loop-item-test.false) c.loop-item.invariant, λ h. refl)
