use Rattle.std.proofs.Common.{rules, ◌≡◌, ℤ, pos, ◌*ℤ◌, ◌≤ℤ◌, ◌<◌, ◌^◌, length, map, ap, sym, subst, ◌∙◌, FitsSigned, to_z}
use Rattle.std.specs.Int.{w128}
use Rattle.std.proofs.lemmas.Int.{to_z-of_z, to_z_pos}
use Rattle.std.proofs.lemmas.List.{length-map}
use Rattle.node_point.specs.RationalPoints.{coordinates}
use Rattle.shown_widths.specs.Steps.{parts}
use Rattle.shown_widths.proofs.room.leaves.Goals as goal

pub returns-then-room-ge0 : goal.returns-then-room-ge0
returns-then-room-ge0 c = λ true.
    let room_fits : FitsSigned w128 c.in-Some.room = search rules in
    let reach_fits : FitsSigned w128 c.args.reach = search rules in
    let units_fits : FitsSigned w128 c.args.trial.width.units = search rules in
    let factor_fits : FitsSigned w128 c.args.trial.width.factor = search rules in
    let not_negative : pos 0 ≤ℤ c.in-Some.room = search rules in
    let few : length c.args.trial.points.now < 2 ^ 127 = search rules in
    let counted : to_z w128 (length c.args.trial.points.now) ≡ pos (length (map coordinates c.args.trial.points.now)) = to_z_pos w128 (length c.args.trial.points.now) few ∙ ap pos (sym (length-map c.args.trial.points.now coordinates)) in
    record {
      room = c.in-Some.room;
      not_negative = not_negative;
      enough = c.in-Some.ensures;
      within = subst (λ (count : ℤ). (c.args.trial.width.units *ℤ (count *ℤ (pos parts *ℤ c.args.reach))) ≤ℤ (c.args.trial.width.factor *ℤ (pos 2 *ℤ c.in-Some.room))) counted (simp to_z-of_z at (c.is_within.ensures true));
    }
