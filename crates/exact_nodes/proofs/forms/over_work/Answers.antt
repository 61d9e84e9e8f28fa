use Rattle.std.proofs.Common.{ℤ, List, ap, length, ◌∙◌, sym}
use Rattle.spaces.specs.Maps.{AffineMap}
use Rattle.exact_nodes.proofs.forms.over_work.Goals as goal

pub at-requires : goal.at-requires
at-requires c =
    c.in_ok-back.ensures.columns ∙ sym c.to_work.ensures.shaped.shaped.base
    ∙ sym (ap (λ (l : List ℤ). length l) (c.base.ensures.value ∙ ap (λ (m : AffineMap). m.base) c.to_work.ensures.value))
