use Rattle.std.proofs.Common.{◌∷◌, [], List, ℤ, ◌+ℤ◌, Option, Some, length, subst, sym, arith}
use Rattle.std.proofs.lemmas.Int.{ints, to_z-of_z}
use mir.Val.{SFits}
use mir.Syntax.{w128}
use Rattle.farkas_rows.specs.declared.path.Slice.{Slice}
use Rattle.farkas_rows.specs.Inequalities.{above}
use Rattle.tree_checker.specs.Lines.{IsFaultOn, SpellsClosing}
use Rattle.tree_checker.specs.Stages.{path_of}
use Rattle.tree_checker.proofs.StackLaws.{fits}
use Rattle.tree_checker.proofs.node.judge_above.Goals as goal

pub returns-in-Some-clause-judged : goal.returns-in-Some-clause-judged
returns-in-Some-clause-judged c =
    let range = c.args.range in
    let one : SFits w128 range.lo = fits range.lo (omega (arith, ints, c.requires.range.lo)) (omega (arith, ints, c.requires.range.lo)) in
    let two : SFits w128 range.count = fits range.count (omega (arith, ints, c.requires.range.count)) (omega (arith, ints, c.requires.range.count)) in
    let three : SFits w128 (range.lo +ℤ range.count) = fits (range.lo +ℤ range.count) (omega (arith, ints, c.requires.range.lo, c.requires.range.count)) (omega (arith, ints, c.requires.range.lo, c.requires.range.count)) in
    let fault : IsFaultOn c.args.rows.now c.args.last c.path.result.now (Some (above c.args.form.now (range.lo +ℤ range.count))) (65 ∷ []) c.args.text.now c.in-Some.kind = simp to_z-of_z at c.in-Some.ensures in
    λ claimed e.
    subst (λ (last : Option ℤ). IsFaultOn c.args.rows.now last (path_of c.args.splits.now.splits) (Some (above c.args.form.now (range.lo +ℤ range.count))) (65 ∷ []) c.args.text.now c.in-Some.kind) e
    (subst (λ (path : List Slice). IsFaultOn c.args.rows.now c.args.last path (Some (above c.args.form.now (range.lo +ℤ range.count))) (65 ∷ []) c.args.text.now c.in-Some.kind) c.path.ensures.path fault)

pub returns-clause-range : goal.returns-clause-range
returns-clause-range c = c.step_into.ensures.range (length c.args.rows.now.box)

pub returns-clause-judged : goal.returns-clause-judged
returns-clause-judged c =
    let range = c.args.range in
    let one : SFits w128 range.lo = fits range.lo (omega (arith, ints, c.requires.range.lo)) (omega (arith, ints, c.requires.range.lo)) in
    let two : SFits w128 range.count = fits range.count (omega (arith, ints, c.requires.range.count)) (omega (arith, ints, c.requires.range.count)) in
    let three : SFits w128 (range.lo +ℤ range.count) = fits (range.lo +ℤ range.count) (omega (arith, ints, c.requires.range.lo, c.requires.range.count)) (omega (arith, ints, c.requires.range.lo, c.requires.range.count)) in
    let closing : SpellsClosing c.args.rows.now c.args.last c.path.result.now (Some (above c.args.form.now (range.lo +ℤ range.count))) (65 ∷ []) c.args.text.now = simp to_z-of_z at c.in_default.ensures in
    λ claimed e. (
      subst (λ (last : Option ℤ). SpellsClosing c.args.rows.now last (path_of c.args.splits.now.splits) (Some (above c.args.form.now (range.lo +ℤ range.count))) (65 ∷ []) c.args.text.now) e
          (subst (λ (path : List Slice). SpellsClosing c.args.rows.now c.args.last path (Some (above c.args.form.now (range.lo +ℤ range.count))) (65 ∷ []) c.args.text.now) c.path.ensures.path closing),
      sym (c.step_into.ensures.into claimed),
    )
