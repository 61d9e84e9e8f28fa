use Rattle.std.proofs.Common.{◌≡◌, ◌+◌, ◌-◌, ◌≤◌, true, length, pos, ◌+ℤ◌, ◌-ℤ◌, ◌<ℤ◌, refl, ap, ◌∙◌, arith, to_z, of_z}
use Rattle.std.proofs.lemmas.Int.{ints, to_z-of_z}
use Rattle.std.proofs.lemmas.Result.{IfOk-weaker}
use Rattle.std.specs.Int.{w128}
use Rattle.exact_math.specs.IntegerRing.{linear}
use Rattle.proof_tree.specs.declared.tree.Cut.{Cut}
use Rattle.proof_tree.specs.declared.tree.PartSplit.{PartSplit}
use Rattle.proof_tree.specs.Trees.{on_slice}
use Rattle.proof_tree.specs.Search.{value_of_best}
use Rattle.proof_tree.proofs.Values.{known-value, rest-falls, slice_fits, next_fits, rest_fits, count_fits}
use Rattle.proof_tree.proofs.Slices.{SoFar-none, SoFar-more, SoFar-finished, AllSlices, AllSlices-worked, AllSlices-open}
use Rattle.proof_tree.proofs.Nodes.{Worked-closed, Worked-split, Worked-stays, branches-from, child_of-from, child-plain}
use Rattle.proof_tree.proofs.walk.+nodes.Goals as goal
use Rattle.proof_tree.proofs.walk.+nodes.Goals.{work_slices-then-worked-cut+in_ok-push-2, work_slices-else-worked-cut, work_slices-then-loop-worked-test+else-walk-gt0, work_slices-else-loop-worked-test}

pub work_node-returns-in-Closed-clause-worked : goal.work_node-returns-in-Closed-clause-worked
work_node-returns-in-Closed-clause-worked g t c =
    Worked-closed g.B.Brancher.stands_for g.B.Brancher.height g.B.Brancher.is_plain g.B.Brancher.allows c.args.rows.now
    c.args.place c.settle.new.place (record c.args.walk.now { left = c.args.walk.now.left - 1 }) c.settle.new.walk c.args.walk.now.left c.in-Closed.line c.requires.limits
    c.in_ok-line.ensures.stays (rw c.in-Closed.is at c.in_ok-line.ensures.settled)
    (omega (arith, g.met.B.Brancher.short c.args.rows.now c.args.place c.args.walk.now.path (value_of_best c.args.walk.now.best) c.requires.stands))
    (omega (arith, c.requires.some)) c.requires.finished

pub work_node-returns-clause-worked : goal.work_node-returns-clause-worked
work_node-returns-clause-worked g t c =
    IfOk-weaker c.work_slices.result _ _
    (λ part w.
    Worked-stays g.B.Brancher.stands_for g.B.Brancher.height g.B.Brancher.is_plain g.B.Brancher.allows c.args.rows.now
    c.args.place c.settle.new.place (record c.args.walk.now { left = c.args.walk.now.left - 1 }) c.settle.new.walk c.work_slices.new.walk c.args.walk.now.left part c.in_ok-line.ensures.stays
    (let left : c.settle.new.walk.left + 1 ≡ c.args.walk.now.left = omega (arith, c.requires.some, c.in_ok-line.ensures.stays.left) in rw left at w))
    c.work_slices.ensures.worked

pub work_slices-loop-worked-init : goal.work_slices-loop-worked-init
work_slices-loop-worked-init g t c = record {
  works = c.requires.works;
  cut = refl;
  so_far = rw c.new-children.ensures.items (SoFar-none (g.B.Brancher.allows c.args.rows.now) c.args.rows.now c.args.cut (g.B.Brancher.height c.args.rows.now c.args.place.now c.args.walk.now.path) c.args.walk.now c.requires.known c.requires.finished c.requires.settled.chosen.0.count.0);
}

pub work_slices-child-requires-clause-branches : goal.work_slices-child-requires-clause-branches
work_slices-child-requires-clause-branches g t c =
    (c.args.walk.now.path, value_of_best c.args.walk.now.best, branches-from g.B.Brancher.stands_for g.B.Brancher.height g.B.Brancher.is_plain g.B.Brancher.allows c.args.rows.now c.args.place.now (g.B.Brancher.rows c.loop-worked.brancher) c.args.cut c.loop-worked.cut c.args.walk.now.path (value_of_best c.args.walk.now.best) c.loop-worked.invariant.works c.loop-worked.invariant.cut c.requires.stands c.requires.settled)

pub work_slices-child-requires-clause-first : goal.work_slices-child-requires-clause-first
work_slices-child-requires-clause-first g t c = omega (linear, c.loop-worked.invariant.so_far.many)

pub work_slices-enter-requires : goal.work_slices-enter-requires
work_slices-enter-requires g t c =
    let s = c.loop-worked.invariant.so_far in
    let m = c.requires.settled.chosen.0 in
    rw c.loop-worked.invariant.cut (record { fits = slice_fits c.args.cut.lo c.args.cut.count (to_z w128 c.loop-worked.worked-bits) (length c.loop-worked.children.items) m.lo m.count.1 s.many s.within })

pub work_slices-work_node-requires : goal.work_slices-work_node-requires
work_slices-work_node-requires g t c κs within =
    let s = c.loop-worked.invariant.so_far in
    let made = child_of-from g.B.Brancher.stands_for g.B.Brancher.height g.B.Brancher.is_plain g.B.Brancher.allows c.args.rows.now c.args.place.now c.in_ok-child.child (g.B.Brancher.rows c.loop-worked.brancher) c.args.cut c.loop-worked.cut c.args.walk.now.path (value_of_best c.args.walk.now.best) (to_z w128 c.loop-worked.worked-bits) c.loop-worked.invariant.works c.loop-worked.invariant.cut c.requires.stands c.requires.settled c.in_ok-child.ensures.place in
    let down = c.in_ok-enter.ensures.path in
    let below : g.B.Brancher.height c.args.rows.now c.in_ok-child.child c.enter.new.self.path + 1 ≤ g.B.Brancher.height c.args.rows.now c.args.place.now c.args.walk.now.path = rw (down, s.path, c.loop-worked.invariant.cut) made.lower in
    (omega (arith, c.decreases, below), (within.0, (within.1, (c.in_ok-child.ensures.same ∙ c.loop-worked.invariant.works, (c.requires.limits, (rw (down, s.path, c.loop-worked.invariant.cut) (made.here (value_of_best c.loop-worked.walk.best) (g.met.B.Brancher.stands_lower c.args.rows.now c.args.place.now c.args.walk.now.path (value_of_best c.loop-worked.walk.best) (value_of_best c.args.walk.now.best) (known-value c.args.rows.now c.loop-worked.walk.best s.best.known) s.best.falls c.requires.stands)), (rw down s.best.known, (rw down c.if-walk-gt0.true, rw down (SoFar-finished (g.B.Brancher.allows c.args.rows.now) c.args.rows.now c.args.cut (g.B.Brancher.height c.args.rows.now c.args.place.now c.args.walk.now.path) c.args.walk.now c.loop-worked.walk (to_z w128 c.loop-worked.worked-bits) c.loop-worked.children.items s c.if-walk-gt0.true)))))))))

pub work_slices-loop-worked-smaller : goal.work_slices-loop-worked-smaller
work_slices-loop-worked-smaller g t c =
    let s = c.loop-worked.invariant.so_far in
    let more : to_z w128 c.loop-worked.worked-bits <ℤ c.loop-worked.cut.count = omega (arith, ints, c.loop-worked-test.true) in
    let next = next_fits c.args.cut.count (to_z w128 c.loop-worked.worked-bits) (length c.loop-worked.children.items) c.requires.settled.chosen.0.count.1 s.many (rw c.loop-worked.invariant.cut at more) in
    let way : c.work_node.new.walk.path ≡ on_slice c.loop-worked.walk.path c.loop-worked.cut.form (c.loop-worked.cut.lo +ℤ to_z w128 c.loop-worked.worked-bits) = c.in_ok-part.ensures.worked.same_path ∙ ap (λ walk. walk.path) c.in_ok-enter.ensures.path in
    let back : c.leave.new.cut ≡ c.loop-worked.cut = c.leave.ensures.form c.loop-worked.walk.path c.loop-worked.cut.form (c.loop-worked.cut.lo +ℤ to_z w128 c.loop-worked.worked-bits) way ∙ ap (λ (cut : Cut). record cut { form = c.loop-worked.cut.form }) c.in_ok-enter.ensures.form in
    rest-falls c.loop-worked.cut.count c.leave.new.cut.count (to_z w128 c.loop-worked.worked-bits) (to_z w128 (of_z w128 (to_z w128 c.loop-worked.worked-bits +ℤ pos 1))) (ap (λ cut. cut.count) back) next more

pub work_slices-loop-worked-preserved : goal.work_slices-loop-worked-preserved
work_slices-loop-worked-preserved g t c =
    let s = c.loop-worked.invariant.so_far in
    let more : to_z w128 c.loop-worked.worked-bits <ℤ c.loop-worked.cut.count = omega (arith, ints, c.loop-worked-test.true) in
    let next = next_fits c.args.cut.count (to_z w128 c.loop-worked.worked-bits) (length c.loop-worked.children.items) c.requires.settled.chosen.0.count.1 s.many (rw c.loop-worked.invariant.cut at more) in
    let made = child_of-from g.B.Brancher.stands_for g.B.Brancher.height g.B.Brancher.is_plain g.B.Brancher.allows c.args.rows.now c.args.place.now c.in_ok-child.child (g.B.Brancher.rows c.loop-worked.brancher) c.args.cut c.loop-worked.cut c.args.walk.now.path (value_of_best c.args.walk.now.best) (to_z w128 c.loop-worked.worked-bits) c.loop-worked.invariant.works c.loop-worked.invariant.cut c.requires.stands c.requires.settled c.in_ok-child.ensures.place in
    let down = c.in_ok-enter.ensures.path in
    let way : c.work_node.new.walk.path ≡ on_slice c.loop-worked.walk.path c.loop-worked.cut.form (c.loop-worked.cut.lo +ℤ to_z w128 c.loop-worked.worked-bits) = c.in_ok-part.ensures.worked.same_path ∙ ap (λ walk. walk.path) down in
    let back : c.leave.new.cut ≡ c.loop-worked.cut = c.leave.ensures.form c.loop-worked.walk.path c.loop-worked.cut.form (c.loop-worked.cut.lo +ℤ to_z w128 c.loop-worked.worked-bits) way ∙ ap (λ (cut : Cut). record cut { form = c.loop-worked.cut.form }) c.in_ok-enter.ensures.form in
    let below : g.B.Brancher.height c.args.rows.now c.in_ok-child.child c.enter.new.self.path + 1 ≤ g.B.Brancher.height c.args.rows.now c.args.place.now c.args.walk.now.path = rw (down, s.path, c.loop-worked.invariant.cut) made.lower in
    record {
      works = c.in_ok-part.ensures.same;
      cut = back ∙ c.loop-worked.invariant.cut;
      so_far =
          rw (next, c.in_ok-push.ensures.items)
          (SoFar-more g.B.Brancher.allows c.args.rows.now c.args.cut (g.B.Brancher.height c.args.rows.now c.args.place.now c.args.walk.now.path) (g.B.Brancher.height c.args.rows.now c.in_ok-child.child c.enter.new.self.path) (g.B.Brancher.is_plain c.in_ok-child.child) c.args.walk.now c.loop-worked.walk c.enter.new.self c.work_node.new.walk c.leave.new.self
          (to_z w128 c.loop-worked.worked-bits) c.loop-worked.children.items c.in_ok-part.part s (rw c.loop-worked.invariant.cut at more) c.if-walk-gt0.true below
          (child-plain g.B.Brancher.stands_for g.B.Brancher.height g.B.Brancher.is_plain g.B.Brancher.allows c.args.rows.now c.args.place.now c.in_ok-child.child c.args.cut c.args.walk.now.path (value_of_best c.args.walk.now.best) (to_z w128 c.loop-worked.worked-bits) c.requires.settled made)
          (rw c.loop-worked.invariant.cut at down) c.in_ok-part.ensures.worked (c.leave.ensures.path c.loop-worked.walk.path c.loop-worked.cut.form (c.loop-worked.cut.lo +ℤ to_z w128 c.loop-worked.worked-bits) way));
    }

pub work_slices-overflow_sub-cut : goal.work_slices-overflow_sub-cut
work_slices-overflow_sub-cut g t c =
    let s = c.loop-worked.invariant.so_far in
    let m = c.requires.settled.chosen.0 in
    let whole : to_z w128 (of_z w128 c.loop-worked.cut.count) ≡ c.args.cut.count = to_z-of_z w128 c.loop-worked.cut.count (rw c.loop-worked.invariant.cut (count_fits c.args.cut.count m.count.0 m.count.1)) ∙ ap (λ (cut : Cut). cut.count) c.loop-worked.invariant.cut in
    rw whole (rest_fits c.args.cut.count (to_z w128 c.loop-worked.worked-bits) (length c.loop-worked.children.items) m.count.1 s.many s.within)

pub work_slices-returns-clause-same : goal.work_slices-returns-clause-same
work_slices-returns-clause-same g t c = c.loop-worked.invariant.works

pub work_slices-returns-clause-worked : goal.work_slices-returns-clause-worked
work_slices-returns-clause-worked g t c =
    let s = c.loop-worked.invariant.so_far in
    let m = c.requires.settled.chosen in
    let whole : to_z w128 (of_z w128 c.loop-worked.cut.count) ≡ c.args.cut.count = to_z-of_z w128 c.loop-worked.cut.count (rw c.loop-worked.invariant.cut (count_fits c.args.cut.count m.0.count.0 m.0.count.1)) ∙ ap (λ (cut : Cut). cut.count) c.loop-worked.invariant.cut in
    let rest : to_z w128 (of_z w128 (c.args.cut.count -ℤ to_z w128 c.loop-worked.worked-bits)) ≡ c.args.cut.count -ℤ to_z w128 c.loop-worked.worked-bits = to_z-of_z w128 (c.args.cut.count -ℤ to_z w128 c.loop-worked.worked-bits) (rest_fits c.args.cut.count (to_z w128 c.loop-worked.worked-bits) (length c.loop-worked.children.items) m.0.count.1 s.many s.within) in
    let all : AllSlices (g.B.Brancher.allows c.args.rows.now) c.args.rows.now c.args.cut (g.B.Brancher.height c.args.rows.now c.args.place.now c.args.walk.now.path) c.args.walk.now c.if-worked-cut.walk c.if-worked-cut.children.items =
    elim c.if-worked-cut.branch [
      | work_slices-then-worked-cut+in_ok-push-2 w ↦
          let more : to_z w128 c.loop-worked.worked-bits <ℤ c.args.cut.count = omega (arith, ints, rw whole at w.if-worked-cut.true) in
          let none : c.loop-worked.walk.left ≡ 0 =
          elim c.loop-worked-test.branch [
            | work_slices-then-loop-worked-test+else-walk-gt0 v ↦ omega (arith, v.if-walk-gt0.false)
            | work_slices-else-loop-worked-test v ↦ absurd (omega (arith, ints, more, rw whole at v.loop-worked-test.false))
          ]
          in
          rw (w.walk-is, w.children-is, w.in_ok-push-2.ensures.items, whole, rest)
          (AllSlices-open (g.B.Brancher.allows c.args.rows.now) c.args.rows.now c.args.cut (g.B.Brancher.height c.args.rows.now c.args.place.now c.args.walk.now.path) c.args.walk.now c.loop-worked.walk (to_z w128 c.loop-worked.worked-bits) c.loop-worked.children.items s m.0.narrow m.1 (record c.loop-worked.walk { unfinished = true }) more none refl)
      | work_slices-else-worked-cut w ↦
          rw (w.walk-is, w.children-is)
          (AllSlices-worked (g.B.Brancher.allows c.args.rows.now) c.args.rows.now c.args.cut (g.B.Brancher.height c.args.rows.now c.args.place.now c.args.walk.now.path) c.args.walk.now c.loop-worked.walk (to_z w128 c.loop-worked.worked-bits) c.loop-worked.children.items s m.0.narrow m.1
          (omega (arith, ints, rw whole at w.if-worked-cut.false)))
    ]
    in
    Worked-split g.B.Brancher.stands_for g.B.Brancher.height g.B.Brancher.is_plain g.B.Brancher.allows c.args.rows.now
    c.args.place.now c.args.walk.now c.if-worked-cut.walk c.args.cut c.if-worked-cut.children.items c.in_ok-new.field-0 c.requires.limits c.requires.known c.requires.settled
    (omega (arith, g.met.B.Brancher.short c.args.rows.now c.args.place.now c.args.walk.now.path (value_of_best c.args.walk.now.best) c.requires.stands))
    all (ap (λ (split : PartSplit). split.cut) c.in_ok-new.ensures.ok ∙ c.loop-worked.invariant.cut) (ap (λ (split : PartSplit). split.children.items) c.in_ok-new.ensures.ok)
