use Rattle.std.proofs.Common.{ap, subst, arith}
use Rattle.std.specs.Prelude.{IsSome}
use Rattle.std.proofs.lemmas.Bool.{iff_false}
use Rattle.farkas_rows.specs.Ends.{inequality_of}
use Rattle.farkas_rows.specs.Inequalities.{inequality_at}
use Rattle.farkas_rows.specs.declared.line.Use.{Use}
use Rattle.tree_checker.proofs.Reading.{read_same}
use Rattle.tree_checker.proofs.closing.next_use.Goals as goal
use Rattle.tree_checker.proofs.closing.next_use.Goals.{then-item-least-via-then-item-least, then-item-least-via-else-item-least+then-not-has_side}

pub returns-then-item-least : goal.returns-then-item-least
returns-then-item-least c = λ item h.
    let same = read_same c.args.word.now c.in_ok-item.item item c.in_ok-item.ensures h.0 in
    elim c.then-item-least.branch [
      | then-item-least-via-then-item-least w ↦ omega (arith, h.1, ap (λ (one : Use). one.index) same)
      | then-item-least-via-else-item-least+then-not-has_side w ↦
          iff_false w.has_side.ensures w.if-not-has_side.true (subst (λ (one : Use). IsSome (inequality_at c.args.rows.now c.args.path.now (inequality_of c.args.end.now) one.index)) same h.2)
    ]
