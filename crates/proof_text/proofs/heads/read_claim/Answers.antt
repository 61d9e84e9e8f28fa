use Rattle.std.proofs.Common.{◌≡◌, ◌∙◌, sym, length, arith}
use Rattle.std.proofs.lemmas.Bool.{iff_false}
use Rattle.proof_text.proofs.HeadReads.{point_line, point_shape, point_values, same_count}
use Rattle.proof_text.proofs.heads.read_claim.Goals as goal

pub returns-in_default : goal.returns-in_default
returns-in_default c = λ claim s. c.in_default.ensures (point_shape c.args.columns c.args.text.now (point_line c.args.columns c.args.text.now claim (iff_false c.is_infeasible.ensures c.if-is_infeasible.false) s))

pub returns-in_default-2 : goal.returns-in_default-2
returns-in_default-2 c = λ claim s.
    let point = point_line c.args.columns c.args.text.now claim (iff_false c.is_infeasible.ensures c.if-is_infeasible.false) s in
    let none = rw c.in_default-2.is at c.in_ok-values.ensures in
    none point.x point.size (point_values c.args.columns c.args.text.now c.in-Some.words point c.in-Some.ensures)

pub returns-then-len-columns : goal.returns-then-len-columns
returns-then-len-columns c = λ claim s.
    let point = point_line c.args.columns c.args.text.now claim (iff_false c.is_infeasible.ensures c.if-is_infeasible.false) s in
    let read = rw c.in-Some-2.is at c.in_ok-values.ensures in
    let same : length c.in-Some-2.values.items ≡ length point.x = same_count c.in-Some-2.values.items point.x (sym read.1 ∙ point_values c.args.columns c.args.text.now c.in-Some.words point c.in-Some.ensures) in
    c.if-len-columns.true (omega (arith, c.len.ensures, same, point.count, c.in-Some-2.values.ok))
