use Rattle.std.proofs.Common.{◌≡◌, ◌+◌, length, take, drop, sym, ap, ◌∙◌}
use Rattle.std.proofs.lemmas.Bool.{eqb-true}
use Rattle.mps_fields.specs.BooleanLaws.{above_zero}
use Rattle.mps_fields.proofs.RunLaws.{blanks, no_run, run_cut}
use Rattle.mps_fields.proofs.runs.cut_run.Goals as goal

pub returns-then-is_empty : goal.returns-then-is_empty
returns-then-is_empty c =
    let bytes = c.args.bytes.now in
    let behind : c.split_at.result.1.now ≡ drop (blanks bytes) bytes = c.split_at.ensures.back ∙ ap (λ k. drop k bytes) c.blanks_len-blanks.ensures.len in
    no_run c.args.place bytes (sym (ap length behind) ∙ eqb-true _ _ (sym c.is_empty.ensures ∙ c.if-is_empty.true))

pub returns : goal.returns
returns c =
    let bytes = c.args.bytes.now in
    let rest = c.split_at.result.1.now in
    run_cut c.args.place bytes rest _ (c.split_at.ensures.back ∙ ap (λ k. drop k bytes) c.blanks_len-blanks.ensures.len) (above_zero _ (sym c.is_empty.ensures ∙ c.if-is_empty.false))
    (ap (λ k. c.args.place + k) c.blanks_len-blanks.ensures.len) (c.split_at-2.ensures.front ∙ ap (λ k. take k rest) c.run_len.ensures.len) (c.split_at-2.ensures.back ∙ ap (λ k. drop k rest) c.run_len.ensures.len)
    (ap (λ k. c.args.place + c.blanks_len-blanks.result + k) (c.split_at-2.ensures.front_len ∙ c.run_len.ensures.len))
