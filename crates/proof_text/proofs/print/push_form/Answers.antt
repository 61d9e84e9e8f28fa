use Rattle.std.proofs.Common.{rules}
use Rattle.proof_text.proofs.print.push_form.Goals as goal
use Rattle.proof_text.proofs.Forms.{further-form}

pub loop-column-preserved : goal.loop-column-preserved
loop-column-preserved c = search (rules, further-form)
