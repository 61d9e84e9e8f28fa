use Rattle.std.proofs.Common.{ap, subst, sym, ◌∙◌}
use Rattle.whole_rows.specs.Ends.{lows}
use Rattle.presolve_map.specs.Columns.{IsColumnMap}
use Rattle.presolve_map.proofs.KeptLaws.{column-map}
use Rattle.presolve_map.proofs.placing.column_map.Goals as goal

pub returns : goal.returns
returns c = subst (IsColumnMap c.args.bounds.now) (sym c.of-2.ensures) (column-map c.args.bounds.now c.args.flags.now c.of.result c.place_columns.new.lines c.requires.flags (c.of.ensures ∙ c.in_ok-base.ensures ∙ ap lows c.requires.removed) c.place_columns.ensures)
