use Rattle.std.proofs.Common.{List, subst}
use Rattle.whole_rows.specs.declared.bounds.Bounds.{Bounds}
use Rattle.presolve_map.specs.Columns.{IsColumnMap}
use Rattle.presolve_map.proofs.KeepLaws.{keeps-points}
use Rattle.presolve_map.proofs.presolving.open_root.Goals as goal

pub returns : goal.returns
returns c =
    let placing : IsColumnMap c.args.rows.now.box c.in_ok-map.map = subst (λ (b : List Bounds). IsColumnMap b c.in_ok-map.map) c.bounds-bounds.ensures.value c.in_ok-map.ensures in
    (c.requires, c.in_ok-work.ensures, placing, keeps-points c.args.rows.now c.in_ok-map.map c.in_ok-work.work c.columns-columns.ensures.limits placing c.in_ok-work.ensures)
