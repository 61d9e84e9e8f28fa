use Rattle.std.proofs.Common.{arith}
use Rattle.plain_slices.proofs.SideLaws.{span-side_form}
use Rattle.plain_slices.proofs.ShutLaws.{span-narrowed, out-cannot}
use Rattle.plain_slices.proofs.node.Node.line_out_of_reach.Goals as goal

pub side_out_of_reach-requires-clause-light : goal.side_out_of_reach-requires-clause-light
side_out_of_reach-requires-clause-light c =
    let narrow = span-narrowed c.args.self.now.rows.now c.args.self.now.path.now c.args.self.now.bounds.items c.args.self.now.sources.items c.args.form.now c.requires.node c.requires.open_box in
    rw c.deref.ensures.value (omega (arith, c.requires.light))

pub line_of_side-requires-clause-light : goal.line_of_side-requires-clause-light
line_of_side-requires-clause-light c =
    let narrow = span-narrowed c.args.self.now.rows.now c.args.self.now.path.now c.args.self.now.bounds.items c.args.self.now.sources.items c.args.form.now c.requires.node c.requires.open_box in
    rw span-side_form (omega (arith, c.requires.light))

pub returns-clause-some : goal.returns-clause-some
returns-clause-some c = (c.in-Some.side, out-cannot c.args.self.now.rows.now c.args.self.now.path.now c.args.self.now.bounds.items c.args.self.now.sources.items c.in-Some.side c.args.form.now c.args.low c.args.high c.requires.node (rw c.deref.ensures.value at c.in-Some.ensures.some))
