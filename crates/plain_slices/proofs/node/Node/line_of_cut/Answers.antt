use Rattle.std.proofs.Common.{◌≡◌, pos, ◌-ℤ◌, [], length, sym, ◌∙◌, refl}
use Rattle.std.specs.Int.{w128}
use Rattle.std.proofs.lemmas.Int.{to_z-of_z}
use Rattle.plain_slices.specs.Items.{IsBalanced}
use Rattle.plain_slices.proofs.SideLaws.{weight_small, cut_size}
use Rattle.plain_slices.proofs.RefuteLaws.{refutes-cut_side}
use Rattle.plain_slices.proofs.node.Node.line_of_cut.Goals as goal

pub returns-clause-refutes : goal.returns-clause-refutes
returns-clause-refutes c =
    let rows = c.args.self.now.rows.now in
    let balanced : IsBalanced rows c.args.self.now.path.now c.args.self.now.bounds.items rows.cost (length rows.box) [] c.from_vec.result = rw (c.cost.ensures.value, c.new-items.ensures.items, ← c.from_vec.ensures) at c.in_ok-balance.ensures in
    let wide : length rows.cost ≡ length rows.box = rw c.cost.ensures.value at c.cost.ensures.dense in
    rw (to_z-of_z w128 c.args.best c.ranges.best) (refutes-cut_side rows c.args.self.now.path.now c.args.self.now.bounds.items c.args.best _ wide c.requires.light c.requires.unmet (weight_small rows.cost c.args.self.now.bounds.items (c.args.best -ℤ pos 1) (wide ∙ sym c.requires.node.dense) c.requires.light (cut_size c.args.best c.requires.best)) balanced refl)
