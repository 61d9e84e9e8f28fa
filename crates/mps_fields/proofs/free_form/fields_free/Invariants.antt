use Rattle.std.proofs.Common.{length}
use Rattle.mps_fields.proofs.FoundFieldLaws.{IsFound}
use Rattle.mps_fields.specs.LineViews.{line_view}
use Rattle.mps_fields.proofs.free_form.fields_free.Given as goal

abbrev pub invariant-loop-cut : goal.invariant-loop-cut
invariant-loop-cut l = IsFound l.found (line_view l.line) l.place l.rest

abbrev pub decreases-loop-cut : goal.decreases-loop-cut
decreases-loop-cut l = length l.rest
