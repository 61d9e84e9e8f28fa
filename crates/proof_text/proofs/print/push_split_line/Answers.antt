use Rattle.std.proofs.Common.{rules, append_assoc, to_z-of_z, SFits, refl}
use mir.Syntax.{w128}
use Rattle.proof_text.proofs.print.push_split_line.Goals as goal

pub returns : goal.returns
returns c =
    let lo_fits : SFits w128 c.args.cut.now.lo = search rules in
    let count_fits : SFits w128 c.args.cut.now.count = search rules in
    simp (append_assoc, to_z-of_z, c.in_ok-push-3.ensures.items, c.in_ok-push_form.ensures, c.in_ok-push_number-2.ensures, c.in_ok-push-2.ensures.items, c.in_ok-push_number.ensures, c.in_ok-push.ensures.items, c.in_ok-extend_from_slice-2.ensures.items, c.in_ok-extend_from_slice.ensures.items, c.mark_of.ensures, c.items.ensures) refl
