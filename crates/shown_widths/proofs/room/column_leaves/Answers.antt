use Rattle.std.proofs.Common.{rules, ◌≡◌, ◌≤◌, List, ℤ, nat_abs, map, ap, subst, ◌∙◌, FitsSigned}
use Rattle.std.specs.Prelude.{All}
use Rattle.std.specs.Int.{w128}
use Rattle.std.proofs.lemmas.Int.{to_z-of_z}
use Rattle.spaces.specs.Maps.{AffineMap}
use Rattle.spaces.specs.TableLaws.{HasWidth-rows_in}
use Rattle.spaces.specs.Tables.{Table, row_at}
use Rattle.farkas_lift.specs.NodeSystem.{cut_of}
use Rattle.node_point.specs.RationalPoints.{coordinates}
use Rattle.shown_widths.proofs.SideLaws.{sides_of_column}
use Rattle.shown_widths.proofs.room.column_leaves.Goals as goal

pub returns-in-Some : goal.returns-in-Some
returns-in-Some c = λ true.
    let t = c.args.node.frame.now.to_work in
    let reach_fits : FitsSigned w128 c.in-Some.reach = search rules in
    let low_fits : FitsSigned w128 c.box_low.result = search rules in
    let high_fits : FitsSigned w128 c.box_high.result = search rules in
    let both = rw (c.requires.width, c.box_low.ensures, c.box_high.ensures) at (simp to_z-of_z at (c.both_leave.ensures true)) in
    let line : c.row.result.now ≡ row_at t.lines c.args.j = c.row.ensures.value ∙ ap (λ (l : Table ℤ). row_at l c.args.j) (c.lines.ensures.value ∙ ap (λ (m : AffineMap). m.lines) c.to_work.ensures.value) in
    sides_of_column c.args.trial.width c.in-Some.reach t (map coordinates c.args.trial.points.now) c.args.node.work.now (cut_of c.args.node.cut) (HasWidth-rows_in t.lines c.to_work.ensures.shaped.shaped.size_lines) c.args.j c.requires.there c.requires.columns
    (c.in-Some.ensures.not_negative, subst (λ (l : List ℤ). All (λ (entry : ℤ). nat_abs entry ≤ nat_abs c.in-Some.reach) l) line c.in-Some.ensures.most) both
