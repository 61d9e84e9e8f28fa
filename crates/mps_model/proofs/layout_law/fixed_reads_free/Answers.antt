use Rattle.mps_model.proofs.OnLines.FixedAsFreeTextLaws.{reads_free}
use Rattle.mps_model.proofs.layout_law.fixed_reads_free.Goals as goal

pub returns : goal.returns
returns c = reads_free
