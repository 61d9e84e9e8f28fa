use Rattle.std.proofs.Common.{◌++◌, ◌∷◌, [], List, length, ap, sym, ap₂, ◌∙◌, zero-add}
use Rattle.std.proofs.lemmas.List.FromFn.{map-range_with_len_more}
use Rattle.plain_slices.specs.declared.node.Source.{Source}
use Rattle.plain_slices.specs.Nodes.{box_source}
use Rattle.plain_slices.proofs.node.box_sources.Goals as goal

pub loop-column-preserved : goal.loop-column-preserved
loop-column-preserved c = c.in_ok-push.ensures.items ∙ ap₂ {A = List Source} {B = Source} {C = List Source} (λ l x. l ++ x ∷ []) c.loop-column.invariant (ap (λ r. box_source r c.loop-column.column) c.rows-first.ensures.count) ∙ sym (map-range_with_len_more (box_source (length c.args.rows.now.rows)) 0 c.loop-column.column c.loop-column.column (zero-add c.loop-column.column))
