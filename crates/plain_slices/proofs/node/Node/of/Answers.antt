use Rattle.std.proofs.Common.{refl, ◌∙◌}
use Rattle.plain_slices.proofs.NodeSteps.{IsNarrowed-box}
use Rattle.plain_slices.proofs.node.Node.of.Goals as goal

pub loop-e-init : goal.loop-e-init
loop-e-init c =
    record { rows = refl; path = refl; narrowed = IsNarrowed-box c.args.rows.now c.args.path.now c.in_ok-bounds.bounds.items c.in_ok-sources.sources.items c.bounds.ensures.limits (c.in_ok-bounds.ensures.items_if_clones_equal (λ x y e. e) ∙ c.bounds.ensures.value) c.in_ok-sources.ensures }
