use Rattle.mps_model.proofs.OnTexts.MeaningLaws as Laws
use Rattle.mps_model.proofs.examples.one_meaning.Goals as goal

pub returns : goal.returns
returns c = record {
  ok = Laws.meaning_ok;
  err = Laws.meaning_err;
  one = Laws.one_meaning;
}
