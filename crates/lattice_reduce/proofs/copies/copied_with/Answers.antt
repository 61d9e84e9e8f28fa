use Rattle.std.proofs.Common.{◌+◌, length, sym, ap, ◌∙◌}
use Rattle.lattice_reduce.proofs.CopySteps.{copied_last}
use Rattle.lattice_reduce.proofs.copies.copied_with.Goals as goal

pub returns-clause-rows : goal.returns-clause-rows
returns-clause-rows g c =
    let t = c.copy_rows.new.into in
    let s = c.args.basis.now in
    let row = c.copy_from_slice.new.self in
    let is = c.copy_from_slice.ensures.after ∙ c.items.ensures in
    let width = c.copy_rows.ensures.width ∙ ap (λ x. x.width) c.in_ok-copy.ensures ∙ c.width.ensures.count in
    copied_last t s c.rows-count.result row c.args.last.now c.copy_rows.ensures.size c.rows-count.ensures.count
    (c.copy_rows.ensures.height ∙ ap (λ x. x.rows) c.in_ok-copy.ensures ∙ ap (λ r. r + 1) c.rows-count.ensures.count)
    (ap length is ∙ c.requires.width ∙ sym width) is c.copy_rows.ensures.rows
