use Rattle.std.proofs.Common.{sym, ◌∙◌}
use Rattle.solve_cli.specs.Answer.{desk_faults}
use Rattle.solve_cli.specs.Putting.{told_by}
use Rattle.mps_write.specs.CanonicalText.{canonical_text}
use Rattle.solve_cli.proofs.PutLaws.{put_as}
use Rattle.solve_cli.proofs.MadeLaws.{same_faults}
use Rattle.solve_cli.proofs.market_file.put_model.Goals as goal

pub returns-clause-put : goal.returns-clause-put
returns-clause-put g c =
    let start = c.args.desk.now in
    let after = c.put.new.self in
    let old = told_by (g.D.Desk.left start) (g.D.Desk.written start) (g.D.Desk.said start) (desk_faults (g.D.Desk.faults start) (g.D.Desk.fault_at start)) in
    let new = told_by (g.D.Desk.left after) (g.D.Desk.written after) (g.D.Desk.said after) (desk_faults (g.D.Desk.faults after) (g.D.Desk.fault_at after)) in
    let put = c.put.ensures in
    put_as c.args.name.now c.items.result.now (canonical_text c.args.model.now) c.put.result old new (sym (c.items.ensures ∙ c.in_ok-text.ensures.text))
    (record {
      ok = put.ok;
      err = put.err;
      others = put.other_outputs;
      inputs = put.inputs;
      said = put.said;
      later = put.cause.later;
      rose = put.cause.rose;
      place = put.cause.place;
      kept = λ kept. same_faults _ _ _ _ (put.cause.same_count kept) (put.cause.same_place kept);
    })
