-- Why no form was chosen.
use Rattle.std.specs.Prelude.{ℕ, ℤ, List, [], ⊤}
use Rattle.form_widths.specs.Directions.{IsFreeColumn}
use Rattle.generalised_reduce.specs.Halts.{ThinStopIs}
use Rattle.generalised_reduce.specs.declared.answer.ThinStop.{ThinStop}
use Rattle.generalised_reduce.specs.declared.answer.ThinStop.TheVariants as thin_stops
use Rattle.lp_dict.specs.Systems.{wholes}
use Rattle.norm_gauge.specs.Gauges.{WidthExcuseIs}
use Rattle.norm_gauge.specs.Widths.{Polytope}
use Rattle.thin_forms.specs.declared.answer.ThinFormStop.{ThinFormStop}
use Rattle.thin_forms.specs.declared.answer.ThinFormStop.TheVariants as stops

-- where the reduction of the basis stops, the choice does
abbrev pub form_stop_of : ThinStop → ThinFormStop
form_stop_of (thin_stops.Excuse excuse) = stops.Thin excuse
form_stop_of thin_stops.NoMemory = stops.NoMemory

-- There is no reduced basis, as the excuse says; or the form is a free column made primitive, and a linear program of its width stops, or its gauge is wide.
-- Want of memory needs no cause.
abbrev pub ThinFormStopIs : Polytope → List (List ℤ) → ThinFormStop → Type 0
ThinFormStopIs p lines (stops.Thin excuse) = ThinStopIs p (thin_stops.Excuse excuse)
ThinFormStopIs p lines (stops.Column form lp) = ((column : ℕ) × IsFreeColumn lines column form) × WidthExcuseIs p [] (wholes form) lp
ThinFormStopIs p lines stops.NoMemory = ⊤
