use Rattle.std.proofs.Common.{pos, ◌-ℤ◌, arith, rules, FitsSigned}
use Rattle.std.specs.Int.{w128}
use Rattle.std.proofs.lemmas.Int.{to_z-of_z}
use Rattle.exact_math.specs.IntegerRing.{linear}
use Rattle.plain_slices.proofs.ShutLaws.{span-narrowed, cannot-meet}
use Rattle.plain_slices.proofs.node.Node.line_of_best.Goals as goal

pub sum-least-requires-clause-light : goal.sum-least-requires-clause-light
sum-least-requires-clause-light c =
    let node = c.args.self.now in
    let narrow = span-narrowed node.rows.now node.path.now node.bounds.items node.sources.items c.cost.result.now c.requires.node c.requires.open_box in
    rw c.deref.ensures.value (omega (arith, c.cost.ensures.light))

pub line_of_cut-requires-clause-light : goal.line_of_cut-requires-clause-light
line_of_cut-requires-clause-light c =
    let node = c.args.self.now in
    let narrow = span-narrowed node.rows.now node.path.now node.bounds.items node.sources.items c.cost.result.now c.requires.node c.requires.open_box in
    rw (← c.cost.ensures.value) (omega (arith, c.cost.ensures.light))

pub returns-clause-some : goal.returns-clause-some
returns-clause-some c =
    let node = c.args.self.now in
    let least = rw (c.cost.ensures.value, c.deref.ensures.value) at c.sum-least.ensures in
    let fits : FitsSigned w128 c.sum-least.result = search rules in
    let value_fits : FitsSigned w128 c.in-Some.value = search rules in
    let beyond = rw (to_z-of_z w128 c.sum-least.result fits, to_z-of_z w128 c.in-Some.value value_fits) at c.if-least-value.false in
    rw c.in-Some.is (cannot-meet node.rows.now node.path.now node.bounds.items node.sources.items node.rows.now.cost (c.in-Some.value -ℤ pos 1) c.requires.node (omega (linear, least, beyond)))
