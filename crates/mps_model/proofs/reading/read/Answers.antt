use Rattle.std.proofs.Common.{[], ◌∷◌, map, Err, sym, ap, subst, ◌∙◌}
use Rattle.std.proofs.lemmas.List.{map-append}
use Rattle.mps_fields.specs.LineViews.{line_view}
use Rattle.mps_model.proofs.OnTables.FinishedTableLaws.{kept_sized}
use Rattle.mps_model.proofs.OnTexts.ReaderScanLaws.{IsReadTo, read_none, read_more, read_stopped, read_ended, read_all, buildable_at_end, answer_model, answer_fault, answer_limits}
use Rattle.mps_model.proofs.reading.read.Goals as goal

pub take-requires : goal.take-requires
take-requires c = kept_sized c.args.layout (map line_view c.loop-line.yielded) c.loop-line.reader.tables c.loop-line.invariant.2.known.tables

pub loop-line-init : goal.loop-line-init
loop-line-init c = (
  tt,
  tt,
  read_none c.args.layout c.args.text.now c.into_iter-line-iterator.result c.new-reader.result
      (c.into_iter-line-iterator.ensures.into_iter_gives ∙ c.lines-line-items.ensures) (c.new-reader.ensures c.args.layout),
)

pub loop-line-preserved : goal.loop-line-preserved
loop-line-preserved c =
    let now = c.loop-line.invariant.2 in
    let taken = c.in_default.ensures (map line_view c.loop-line.yielded) now.known in (
      tt,
      tt,
      subst (λ lines. IsReadTo c.args.layout c.args.text.now lines c.next.new.self c.take.new.self c.in-Some.line.number)
          (sym (map-append line_view c.loop-line.yielded (c.in-Some.line ∷ [])))
          (read_more c.args.layout c.args.upper c.args.text.now _ _ c.next.new.self c.loop-line.reader c.take.new.self c.loop-line.count (line_view c.in-Some.line) now c.in-Some.ensures.steps
          taken.1 (sym c.is_ended.ensures ∙ c.if-is_ended.false)),
    )

pub returns-in-Err-clause-fault : goal.returns-in-Err-clause-fault
returns-in-Err-clause-fault c = λ fault e.
    let now = c.loop-line.invariant.2 in
    read_stopped c.args.layout c.args.upper c.args.text.now _ _ c.next.new.self c.loop-line.reader c.take.new.self c.loop-line.count (line_view c.in-Some.line) now c.in-Some.ensures.steps
    c.in-Err.stop (c.in-Err.ensures (map line_view c.loop-line.yielded) now.known) fault (ap Err (sym c.on_line.ensures) ∙ e)

pub into_model-requires : goal.into_model-requires
into_model-requires c =
    let now = c.loop-line.invariant.2 in
    buildable_at_end c.args.layout _ c.take.new.self (sym c.is_ended.ensures ∙ c.if-is_ended.true) (c.in_default.ensures (map line_view c.loop-line.yielded) now.known).1

pub returns-then-is_ended-clause-model : goal.returns-then-is_ended-clause-model
returns-then-is_ended-clause-model c =
    let now = c.loop-line.invariant.2 in
    let taken = c.in_default.ensures (map line_view c.loop-line.yielded) now.known in
    let meant = read_ended c.args.layout c.args.upper c.args.text.now _ _ c.next.new.self c.loop-line.reader c.take.new.self c.loop-line.count (line_view c.in-Some.line) now c.in-Some.ensures.steps
    taken.0 taken.1 (sym c.is_ended.ensures ∙ c.if-is_ended.true) in
    answer_model _ _ c.into_model.result meant (c.into_model.ensures c.args.layout _ c.args.upper taken.1 c.bound_of-given.ensures)

pub returns-then-is_ended-clause-fault : goal.returns-then-is_ended-clause-fault
returns-then-is_ended-clause-fault c =
    let now = c.loop-line.invariant.2 in
    let taken = c.in_default.ensures (map line_view c.loop-line.yielded) now.known in
    let meant = read_ended c.args.layout c.args.upper c.args.text.now _ _ c.next.new.self c.loop-line.reader c.take.new.self c.loop-line.count (line_view c.in-Some.line) now c.in-Some.ensures.steps
    taken.0 taken.1 (sym c.is_ended.ensures ∙ c.if-is_ended.true) in
    answer_fault _ _ c.into_model.result meant (c.into_model.ensures c.args.layout _ c.args.upper taken.1 c.bound_of-given.ensures)

pub returns-then-is_ended-clause-limits : goal.returns-then-is_ended-clause-limits
returns-then-is_ended-clause-limits c =
    let now = c.loop-line.invariant.2 in
    let taken = c.in_default.ensures (map line_view c.loop-line.yielded) now.known in
    answer_limits _ c.into_model.result (c.into_model.ensures c.args.layout _ c.args.upper taken.1 c.bound_of-given.ensures)

pub returns-clause-fault : goal.returns-clause-fault
returns-clause-fault c = read_all c.args.layout c.args.upper c.args.text.now _ _ c.loop-line.reader c.loop-line.count c.loop-line.invariant.2 c.in-None.ensures.steps.0
