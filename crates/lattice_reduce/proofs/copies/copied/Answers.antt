use Rattle.std.proofs.Common.{ap, ◌∙◌}
use Rattle.lattice_reduce.proofs.CopySteps.{copied_all}
use Rattle.lattice_reduce.proofs.copies.copied.Goals as goal

pub returns-clause-rows : goal.returns-clause-rows
returns-clause-rows g c =
    copied_all c.copy_rows.new.into c.args.basis.now (c.copy_rows.ensures.height ∙ ap (λ t. t.rows) c.in_ok-copy.ensures ∙ c.rows.ensures.count) c.copy_rows.ensures.rows
