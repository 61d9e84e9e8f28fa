use Rattle.std.proofs.Common.{length, ap, sym, ◌∙◌}
use Rattle.spaces.specs.Maps.{AffineMap}
use Rattle.shown_widths.proofs.direction.kernel_form.Goals as goal

pub pull_back-requires : goal.pull_back-requires
pull_back-requires c =
    ap length c.of-factors.ensures ∙ c.in_ok-work_values.ensures.dense ∙ sym c.requires ∙ sym c.to_work.ensures.shaped.shaped.base ∙ ap (λ (m : AffineMap). length m.base) (sym c.to_work.ensures.value)
