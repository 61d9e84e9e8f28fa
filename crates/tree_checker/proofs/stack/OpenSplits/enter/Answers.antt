use Rattle.std.proofs.Common.{◌≡◌, ◌*◌, ◌<◌, ◌∷◌, length, ap, sym, ◌∙◌, arith}
use Rattle.std.proofs.lemmas.Int.{ints, to_z-of_z}
use Rattle.std.proofs.lemmas.List.Elements.{All-get_or}
use mir.Val.{SFits}
use mir.Syntax.{w128}
use Rattle.farkas_rows.specs.declared.path.Slice.{Slice}
use Rattle.tree_checker.specs.Stacks.{Stack}
use Rattle.tree_checker.proofs.StackLaws.{fits, length-splits_of, enter_stack, enter_splits}
use Rattle.tree_checker.proofs.stack.OpenSplits.enter.Goals as goal

pub index_mut-slot-requires : goal.index_mut-slot-requires
index_mut-slot-requires c =
    omega (arith, length-splits_of c.self.inside.slices.items c.self.inside.ends.items c.self.inside.depth, ap (λ (s : Stack). length s.splits) c.self.view_is, ap (λ (s : Stack). s.columns) c.self.view_is, c.self.invariant.room, c.requires.room)

pub index_mut-requires : goal.index_mut-requires
index_mut-requires c =
    omega (arith, length-splits_of c.self.inside.slices.items c.self.inside.ends.items c.self.inside.depth, ap (λ (s : Stack). length s.splits) c.self.view_is, ap (λ (s : Stack). s.columns) c.self.view_is, c.self.invariant.as_much, c.requires.room)

pub invariant_of-self : goal.invariant_of-self
invariant_of-self c =
    let s = c.self.inside in
    let columns : s.columns ≡ c.args.self.now.columns = ap (λ (stack : Stack). stack.columns) c.self.view_is in
    let room : s.depth < 2 * s.columns = omega (arith, length-splits_of s.slices.items s.ends.items s.depth, ap (λ (stack : Stack). length stack.splits) c.self.view_is, columns, c.requires.room) in
    let one : SFits w128 c.args.from = fits c.args.from (omega (arith, ints, c.requires.low)) (omega (arith, ints, c.requires.some, c.requires.high)) in
    let two : SFits w128 c.args.until = fits c.args.until (omega (arith, ints, c.requires.low, c.requires.some)) (omega (arith, ints, c.requires.high)) in
    rw c.swap.ensures.x_after (simp to_z-of_z (enter_stack s.columns s.slices.items s.ends.items s.depth c.self.invariant c.args.form.now c.args.from c.args.until room (c.requires.dense ∙ sym columns) c.requires.low c.requires.some c.requires.high))

pub returns-clause-entered : goal.returns-clause-entered
returns-clause-entered c =
    let s = c.self.inside in
    let columns : s.columns ≡ c.args.self.now.columns = ap (λ (stack : Stack). stack.columns) c.self.view_is in
    let room : s.depth < 2 * s.columns = omega (arith, length-splits_of s.slices.items s.ends.items s.depth, ap (λ (stack : Stack). length stack.splits) c.self.view_is, columns, c.requires.room) in
    let one : SFits w128 c.args.from = fits c.args.from (omega (arith, ints, c.requires.low)) (omega (arith, ints, c.requires.some, c.requires.high)) in
    let two : SFits w128 c.args.until = fits c.args.until (omega (arith, ints, c.requires.low, c.requires.some)) (omega (arith, ints, c.requires.high)) in
    rw c.swap.ensures.x_after (simp to_z-of_z (
    ap (λ splits. record { columns = s.columns; splits = splits }) (enter_splits s.columns s.slices.items s.ends.items s.depth c.self.invariant c.args.form.now c.args.from c.args.until room)
    ∙ ap (λ (stack : Stack). record { columns = stack.columns; splits = record { form = c.args.form.now; value = c.args.from; until = c.args.until } ∷ stack.splits }) c.self.view_is
    ))

pub returns-clause-dense : goal.returns-clause-dense
returns-clause-dense c =
    let s = c.self.inside in
    let columns : s.columns ≡ c.args.self.now.columns = ap (λ (stack : Stack). stack.columns) c.self.view_is in
    let within : s.depth < length s.slices.items = omega (arith, length-splits_of s.slices.items s.ends.items s.depth, ap (λ (stack : Stack). length stack.splits) c.self.view_is, columns, c.requires.room, c.self.invariant.room) in
    ap length c.swap.ensures.y_after
    ∙ ap (λ (slice : Slice). length slice.form) c.index_mut-slot.ensures.value
    ∙ All-get_or (λ (slice : Slice). length slice.form ≡ s.columns) s.slices.items s.depth c.index_mut-slot.result.now within c.self.invariant.dense
    ∙ columns
