use Rattle.mps_fields.specs.ReadingLaws as Laws
use Rattle.mps_fields.proofs.examples.one_reading.Goals as goal

pub returns-clause-one : goal.returns-clause-one
returns-clause-one c = Laws.one_reading

pub returns-clause-found : goal.returns-clause-found
returns-clause-found c = λ text d. (Laws.spells_found text d, Laws.found_spells text d)
