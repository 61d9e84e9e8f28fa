use Rattle.mps_model.proofs.reader.Reader.into_model.Goals as goal

pub returns : goal.returns
returns c = λ layout above upper now given. c.into_model.ensures layout above upper now.tables given
