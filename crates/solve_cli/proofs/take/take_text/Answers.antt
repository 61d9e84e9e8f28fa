use Rattle.std.proofs.Common.{◌≡◌, ◌≤◌, ◌<◌, ◌+◌, ◌++◌, ℕ, List, Some, length, take, drop, inl, inr, refl, sym, ap, subst, ◌∙◌, arith}
use Rattle.std.proofs.lemmas.Bool.{eqb-true}
use Rattle.std.proofs.lemmas.List.{append-nil, length-append, length-drop, length-take}
use Rattle.std.specs.Prelude.{option_map}
use Rattle.std.specs.Option.{ForSome}
use Rattle.desk_io.specs.Desk.{TakesFrom}
use Rattle.desk_io.specs.TakeLaws.{taken_more, taken_all}
use Rattle.solve_cli.specs.Limits.{taken, untaken}
use Rattle.solve_cli.proofs.TakeLaws.{taken_front, is_front, is_behind}
use Rattle.solve_cli.proofs.take.take_text.Goals.{then-loop-ended-test+else-len-limit, else-loop-ended-test}
use Rattle.solve_cli.proofs.take.take_text.Goals as goal

pub loop-ended-preserved : goal.loop-ended-preserved
loop-ended-preserved g c =
    let before = c.loop-ended.invariant in
    let took = c.in_ok-count.ensures in
    let n : ℕ = c.in_ok-count.count in
    let grown = taken_front c.loop-ended.text.items _ c.take.new.buf _ n took.count c.in_ok-extend_from_slice.ensures.items in
    let has_room : (length c.loop-ended.text.items + length c.take.new.buf ≤ c.args.limit + 1) × (0 < length c.take.new.buf) =
    let a = c.take.auto.buf in
    let b = c.len-in-loop-ended.ensures in
    let d = c.len.ensures in
    let e = c.if-len-limit.true in
    let f = length-take c.min-room.result c.loop-ended.piece in
    let m = c.min-room.ensures in
    (omega (arith, a, b, d, e, f, m, before.room), omega (arith, a, b, d, e, f, m, before.room)) in
    let ended : (bytes : List ℕ) → n ≡ 0 → g.D.Desk.left c.args.desk.now c.args.name.now ≡ Some bytes → bytes ≡ c.extend_from_slice.new.self.items =
    λ bytes none told.
    let nothing = subst (λ k. ForSome (g.D.Desk.left c.loop-ended.desk c.args.name.now) (TakesFrom c.take.new.buf k)) none took.taken in
    sym (taken_all bytes c.loop-ended.text.items c.take.new.buf _ (before.taken bytes told) has_room.1 nothing)
    ∙ sym (grown ∙ ap (λ k. c.loop-ended.text.items ++ take k c.take.new.buf) none ∙ append-nil c.loop-ended.text.items) in
    record {
      room = omega (arith, length-append c.take.new.buf (drop c.min-room.result c.loop-ended.piece), length-drop c.min-room.result c.loop-ended.piece, length-take c.min-room.result c.loop-ended.piece, c.take.auto.buf, c.min-room.ensures, before.room);
      small = omega (arith, ap length grown, length-append c.loop-ended.text.items (take n c.take.new.buf), length-take n c.take.new.buf, took.count, has_room.0);
      taken = λ bytes told. rw grown (taken_more bytes c.loop-ended.text.items c.take.new.buf n _ _ (before.taken bytes told) took.taken took.rest);
      untold = λ none. took.rest ∙ ap (option_map (drop n)) (before.untold none);
      ended = λ bytes none told. ended bytes (eqb-true n 0 none) told;
      others = λ name other. took.other_inputs name other ∙ before.others name other;
      outputs = λ name. took.outputs name ∙ before.outputs name;
      said = took.said ∙ before.said;
      faults = took.cause.same_count refl ∙ before.faults;
      fault_at = took.cause.same_place refl ∙ before.fault_at;
    }

pub returns-clause-text : goal.returns-clause-text
unfolding taken
returns-clause-text g c =
    is_front (c.args.limit + 1) c.loop-ended.text.items (g.D.Desk.left c.args.desk.now c.args.name.now) (g.D.Desk.left c.loop-ended.desk c.args.name.now) c.loop-ended.invariant.small
    c.loop-ended.invariant.taken
    (λ bytes told. elim c.loop-ended-test.branch [ then-loop-ended-test+else-len-limit w ↦ inr (let a = w.len.ensures in let b = w.if-len-limit.false in omega arith) | else-loop-ended-test w ↦ inl (c.loop-ended.invariant.ended bytes w.loop-ended-test.false told) ])

pub returns-clause-left : goal.returns-clause-left
unfolding untaken
returns-clause-left g c =
    is_behind (c.args.limit + 1) c.loop-ended.text.items (g.D.Desk.left c.args.desk.now c.args.name.now) (g.D.Desk.left c.loop-ended.desk c.args.name.now) c.loop-ended.invariant.small
    c.loop-ended.invariant.taken c.loop-ended.invariant.untold
    (λ bytes told. elim c.loop-ended-test.branch [ then-loop-ended-test+else-len-limit w ↦ inr (let a = w.len.ensures in let b = w.if-len-limit.false in omega arith) | else-loop-ended-test w ↦ inl (c.loop-ended.invariant.ended bytes w.loop-ended-test.false told) ])
