use Rattle.std.proofs.Common.{rules, ℕ, ◌≤◌, ◌-◌, ◌^◌, sym, subst, FitsSigned}
use Rattle.std.specs.Int.{w128}
use Rattle.std.proofs.lemmas.Int.{to_z-of_z}
use Rattle.shown_widths.proofs.direction.is_thin.Goals as goal

pub returns : goal.returns
returns c = λ true.
    let units_fits : FitsSigned w128 c.in-Some.units = search rules in
    let factor_fits : FitsSigned w128 c.factor_in-factor.result = search rules in
    let is_factor = c.factor_in-factor.ensures in
    record {
      wide = λ j lt. rw (sym c.to_work.ensures.value, sym c.lines.ensures.value) (c.are_wide-wide.ensures c.if-not-wide.false j (rw (c.lines.ensures.value, c.to_work.ensures.value) lt));
      width = record { units = c.in-Some.units; factor = c.factor_in-factor.result };
      times = is_factor.times;
      some = is_factor.some;
      few = subst (λ (r : ℕ). is_factor.times ≤ 4 ^ (r - 1)) c.dimension.ensures.value is_factor.most;
      factor = is_factor.is;
      not_negative = c.in-Some.ensures.not_negative;
      enough = c.in-Some.ensures.enough;
      leave = simp to_z-of_z at (c.in_ok-shown.ensures true);
    }
