use Rattle.node_slices.proofs.LightSums.{map_stays}
use Rattle.node_slices.proofs.NodeForms.{as_many}
use Rattle.node_slices.proofs.slices.over_kept.Goals as goal

pub pull_back-requires : goal.pull_back-requires
pull_back-requires c = as_many c.args.rows.now c.args.map.now c.requires.map c.args.form.now c.requires.kept

pub unreachable-requires : goal.unreachable-requires
unreachable-requires c =
    let wide = rw c.in-Err-Wide.field-0-is at c.in-Err-Wide.ensures.stop in
    absurd (wide (map_stays c.args.rows.now.box c.args.map.now c.args.form.now c.requires.map c.requires.light))
