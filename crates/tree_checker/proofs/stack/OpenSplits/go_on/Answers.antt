use Rattle.std.proofs.Common.{◌≡◌, ℕ, suc, ◌-◌, ◌≢◌, pos, ◌+ℤ◌, ◌∙◌, arith}
use Rattle.std.proofs.lemmas.Int.{ints, to_z-of_z}
use mir.Val.{SFits}
use mir.Syntax.{w128}
use Rattle.tree_checker.proofs.StackLaws.{fits, step_bounds, step_stack, step_behind, leave_stack, leave_behind}
use Rattle.tree_checker.proofs.stack.OpenSplits.go_on.Goals as goal

pub overflow_add-next : goal.overflow_add-next
overflow_add-next c =
    let s = c.loop-self.self-inside in
    let last : ℕ = s.depth - 1 in
    let counted : s.depth ≡ suc last = omega arith in
    let slice = c.index_mut-slice.result.now in
    let bounds = step_bounds s.columns s.slices.items s.ends.items s.depth last counted c.loop-self.invariant.stack slice c.index_mut-slice.ensures.value c.index-end.result.now c.index-end.ensures in
    omega (arith, ints, bounds)

pub invariant_of-self-then-next-end : goal.invariant_of-self-then-next-end
invariant_of-self-then-next-end c =
    let s = c.loop-self.self-inside in
    let last : ℕ = s.depth - 1 in
    let counted : s.depth ≡ suc last = omega arith in
    let slice = c.index_mut-slice.result.now in
    let bounds = step_bounds s.columns s.slices.items s.ends.items s.depth last counted c.loop-self.invariant.stack slice c.index_mut-slice.ensures.value c.index-end.result.now c.index-end.ensures in
    let one : SFits w128 slice.beta = fits slice.beta (omega (arith, ints, bounds)) (omega (arith, ints, bounds)) in
    let two : SFits w128 (slice.beta +ℤ pos 1) = fits (slice.beta +ℤ pos 1) (omega (arith, ints, bounds)) (omega (arith, ints, bounds)) in
    let other : slice.beta +ℤ pos 1 ≢ c.index-end.result.now = omega (arith, ints, bounds) in
    simp to_z-of_z (step_stack s.columns s.slices.items s.ends.items s.depth last counted c.loop-self.invariant.stack slice c.index_mut-slice.ensures.value c.index-end.result.now c.index-end.ensures other)

pub returns-then-next-end-clause-behind : goal.returns-then-next-end-clause-behind
returns-then-next-end-clause-behind c =
    let s = c.loop-self.self-inside in
    let last : ℕ = s.depth - 1 in
    let counted : s.depth ≡ suc last = omega arith in
    let slice = c.index_mut-slice.result.now in
    let bounds = step_bounds s.columns s.slices.items s.ends.items s.depth last counted c.loop-self.invariant.stack slice c.index_mut-slice.ensures.value c.index-end.result.now c.index-end.ensures in
    let one : SFits w128 slice.beta = fits slice.beta (omega (arith, ints, bounds)) (omega (arith, ints, bounds)) in
    let two : SFits w128 (slice.beta +ℤ pos 1) = fits (slice.beta +ℤ pos 1) (omega (arith, ints, bounds)) (omega (arith, ints, bounds)) in
    let other : slice.beta +ℤ pos 1 ≢ c.index-end.result.now = omega (arith, ints, bounds) in
    simp to_z-of_z (λ claimed. c.loop-self.invariant.same claimed
    ∙ step_behind s.columns s.slices.items s.ends.items s.depth last counted c.loop-self.invariant.stack slice c.index_mut-slice.ensures.value c.index-end.result.now c.index-end.ensures claimed other)

pub loop-self-preserved : goal.loop-self-preserved
loop-self-preserved c =
    let s = c.loop-self.self-inside in
    let last : ℕ = s.depth - 1 in
    let counted : s.depth ≡ suc last = omega arith in
    let slice = c.index_mut-slice.result.now in
    let bounds = step_bounds s.columns s.slices.items s.ends.items s.depth last counted c.loop-self.invariant.stack slice c.index_mut-slice.ensures.value c.index-end.result.now c.index-end.ensures in
    let same : slice.beta +ℤ pos 1 ≡ c.index-end.result.now = omega (arith, ints, bounds, c.if-next-end.false) in
    record {
      columns = c.loop-self.invariant.columns;
      stack = leave_stack s.columns s.slices.items s.ends.items s.depth last counted c.loop-self.invariant.stack slice c.index_mut-slice.ensures.value c.index-end.result.now c.index-end.ensures;
      same = λ claimed. c.loop-self.invariant.same claimed
          ∙ leave_behind s.columns s.slices.items s.ends.items s.depth last counted c.loop-self.invariant.stack slice c.index_mut-slice.ensures.value c.index-end.result.now c.index-end.ensures claimed same;
    }
