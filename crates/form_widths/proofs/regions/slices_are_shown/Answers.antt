use Rattle.form_widths.specs.Families.{PointsOf}
use Rattle.form_widths.specs.SliceLaws.{slices_shown}
use Rattle.form_widths.proofs.regions.slices_are_shown.Goals as goal

pub returns : goal.returns
returns g c = λ point. slices_shown (PointsOf point)
