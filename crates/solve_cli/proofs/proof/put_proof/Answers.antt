use Rattle.std.proofs.Common.{◌≡◌, ℕ, refl, ap, ◌∙◌}
use Rattle.std.specs.Prelude.{codes, Option}
use Rattle.desk_io.specs.Desk.{Fault}
use Rattle.proof_text.specs.Spelling.{head_lines, tree_lines, part_lines}
use Rattle.proof_text.specs.declared.claim.Claim.TheVariants as claims
use Rattle.solve_cli.specs.Answer.{desk_faults}
use Rattle.solve_cli.specs.Outputs.{text_of}
use Rattle.std.proofs.lemmas.Result.{err_from_is_err_and}
use Rattle.solve_cli.proofs.PutLaws.{put_as, put_then, put_stopped, lines_parts}
use Rattle.solve_cli.proofs.proof.put_proof.Goals as goal

same_faults : (a b : ℕ) (x y : Option Fault) → b ≡ a → y ≡ x → desk_faults b y ≡ desk_faults a x
same_faults a b x y e h = rw (e, h) refl

pub returns-in_err-put_head-in-Whole : goal.returns-in_err-put_head-in-Whole
returns-in_err-put_head-in-Whole g c =
    let whole = ap text_of c.in-Whole.is ∙ lines_parts (head_lines c.in-Whole.claim) (tree_lines c.in-Whole.tree) (codes "DONE") in
    let p = err_from_is_err_and c.from_residual.result c.from_residual.ensures.1 in
    rw (p.1, p.2) (put_as _ _ _ _ _ _ whole (put_stopped _ _ _ _ _ _ c.in_err-put_head-in-Whole.ensures))

pub returns-in_err-put_tree-in-Whole : goal.returns-in_err-put_tree-in-Whole
returns-in_err-put_tree-in-Whole g c =
    let whole = ap text_of c.in-Whole.is ∙ lines_parts (head_lines c.in-Whole.claim) (tree_lines c.in-Whole.tree) (codes "DONE") in
    let p = err_from_is_err_and c.from_residual-in_err-put_tree-in-Whole.result c.from_residual-in_err-put_tree-in-Whole.ensures.1 in
    rw (p.1, p.2) (put_as _ _ _ _ _ _ whole (put_then _ _ _ _ _ _ _ c.in_ok-put_head-in-Whole.ensures (put_stopped _ _ _ _ _ _ c.in_err-put_tree-in-Whole.ensures)))

pub returns-in_ok-put_tree-in-Whole : goal.returns-in_ok-put_tree-in-Whole
returns-in_ok-put_tree-in-Whole g c =
    let whole = ap text_of c.in-Whole.is ∙ lines_parts (head_lines c.in-Whole.claim) (tree_lines c.in-Whole.tree) (codes "DONE") in
    let done = c.put.ensures in
    put_as _ _ _ _ _ _ whole (put_then _ _ _ _ _ _ _ c.in_ok-put_head-in-Whole.ensures (put_then _ _ _ _ _ _ _ c.in_ok-put_tree-in-Whole.ensures
    (record {
      ok = done.ok;
      err = done.err;
      others = done.other_outputs;
      inputs = done.inputs;
      said = done.said;
      later = done.cause.later;
      rose = done.cause.rose;
      place = done.cause.place;
      kept = λ kept. same_faults _ _ _ _ (done.cause.same_count kept) (done.cause.same_place kept);
    })))

pub returns-in_err-put_head-in-Part : goal.returns-in_err-put_head-in-Part
returns-in_err-put_head-in-Part g c =
    let whole = ap text_of c.in-Part.is ∙ lines_parts (head_lines claims.Open) (part_lines c.in-Part.part) (codes "SPENT") in
    let p = err_from_is_err_and c.from_residual-in_err-put_head-in-Part.result c.from_residual-in_err-put_head-in-Part.ensures.1 in
    rw (p.1, p.2) (put_as _ _ _ _ _ _ whole (put_stopped _ _ _ _ _ _ c.in_err-put_head-in-Part.ensures))

pub returns-in_err-put_part-in-Part : goal.returns-in_err-put_part-in-Part
returns-in_err-put_part-in-Part g c =
    let whole = ap text_of c.in-Part.is ∙ lines_parts (head_lines claims.Open) (part_lines c.in-Part.part) (codes "SPENT") in
    let p = err_from_is_err_and c.from_residual-in_err-put_part-in-Part.result c.from_residual-in_err-put_part-in-Part.ensures.1 in
    rw (p.1, p.2) (put_as _ _ _ _ _ _ whole (put_then _ _ _ _ _ _ _ c.in_ok-put_head-in-Part.ensures (put_stopped _ _ _ _ _ _ c.in_err-put_part-in-Part.ensures)))

pub returns-in_ok-put_part-in-Part : goal.returns-in_ok-put_part-in-Part
returns-in_ok-put_part-in-Part g c =
    let whole = ap text_of c.in-Part.is ∙ lines_parts (head_lines claims.Open) (part_lines c.in-Part.part) (codes "SPENT") in
    let done = c.put-in-Part.ensures in
    put_as _ _ _ _ _ _ whole (put_then _ _ _ _ _ _ _ c.in_ok-put_head-in-Part.ensures (put_then _ _ _ _ _ _ _ c.in_ok-put_part-in-Part.ensures
    (record {
      ok = done.ok;
      err = done.err;
      others = done.other_outputs;
      inputs = done.inputs;
      said = done.said;
      later = done.cause.later;
      rose = done.cause.rose;
      place = done.cause.place;
      kept = λ kept. same_faults _ _ _ _ (done.cause.same_count kept) (done.cause.same_place kept);
    })))
