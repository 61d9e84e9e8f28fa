use Rattle.farkas_rows.specs.Refutes.{IsMultiplier, line_of}
use Rattle.farkas_rows.proofs.LineLemmas.{multipliers-parts, multipliers-each}
use Rattle.farkas_rows.proofs.judge.has_multipliers.Goals as goal

pub returns-then-is_cut_multiplier : goal.returns-then-is_cut_multiplier
returns-then-is_cut_multiplier c = (
  λ h. multipliers-each IsMultiplier (line_of c.args.cut.now c.args.items.now) (c.is_cut_multiplier.ensures.0 c.if-is_cut_multiplier.true) (c.are_multipliers.ensures.0 h),
  λ h. c.are_multipliers.ensures.1 (multipliers-parts IsMultiplier (line_of c.args.cut.now c.args.items.now) h).1,
)

pub returns-else-is_cut_multiplier : goal.returns-else-is_cut_multiplier
returns-else-is_cut_multiplier c =
    (λ h. cc, λ h. c.is_cut_multiplier.ensures.1 (multipliers-parts IsMultiplier (line_of c.args.cut.now c.args.items.now) h).0)
