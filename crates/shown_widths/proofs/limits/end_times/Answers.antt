use Rattle.std.proofs.Common.{rules, ◌≡◌, true, false, pos, List, length, sym, ap, ◌∙◌, FitsSigned, arith, eq-eqb}
use Rattle.std.specs.Int.{w128}
use Rattle.std.proofs.lemmas.Int.{to_z-of_z}
use Rattle.farkas_rows.specs.declared.path.Slice.{Slice}
use Rattle.form_widths.specs.EndTimesLaws.{times_of-last}
use Rattle.form_widths.specs.NodeLines.{end_number}
use Rattle.shown_widths.proofs.limits.end_times.Goals as goal

pub returns-then-last-number : goal.returns-then-last-number
returns-then-last-number c = λ inequality refutes.
    let rows = c.args.rows.now in
    let path = c.args.path.now in
    let last = c.in_ok-last.last.now in
    let fits : FitsSigned w128 last.times = search rules in
    let whole = c.in_ok-last.ensures.cases.0 in
    let same : last.index ≡ end_number rows path = omega (arith, c.if-last-number.true, c.rows.ensures.count, c.columns.ensures.count, ap (λ (slices : List Slice). length slices) c.items-2.ensures) in
    let test = eq-eqb last.index (end_number rows path) same in
    to_z-of_z w128 last.times fits ∙ sym (times_of-last rows path inequality c.args.line.now _ last refutes (sym c.items.ensures ∙ whole) ∙ ap (λ b. elim b [ true ↦ last.times | false ↦ pos 0 ]) test)
