use Rattle.std.proofs.Common.{[]}
use Rattle.mps_model.specs.TextScanLaws.{first_of_none}
use Rattle.mps_model.proofs.reader.Reader.new.Goals as goal

pub returns : goal.returns
returns c = λ layout. record { faultless = first_of_none layout []; order = c.new.ensures; tables = c.new-2.ensures layout }
