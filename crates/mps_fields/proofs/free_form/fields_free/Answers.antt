use Rattle.mps_fields.specs.LineViews.{line_view}
use Rattle.mps_fields.proofs.FoundFieldLaws.{one_found}
use Rattle.mps_fields.proofs.free_form.fields_free.Goals as goal

pub loop-cut-preserved : goal.loop-cut-preserved
loop-cut-preserved c =
    one_found c.loop-cut.found c.add.new.self (line_view c.args.line.now) c.loop-cut.place c.loop-cut.rest.now c.in-Some.cut c.add.ensures c.in-Some.ensures c.loop-cut.invariant
