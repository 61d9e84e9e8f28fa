use Rattle.whole_vectors.specs.ClearedLaws as Denominators
use Rattle.whole_vectors.specs.WholeVectorLaws as Vectors
use Rattle.whole_vectors.proofs.whole_vectors_among_rational_ones.Goals as goal

pub returns-clause-added : goal.returns-clause-added
returns-clause-added c = Vectors.map_whole-add

pub returns-clause-scaled : goal.returns-clause-scaled
returns-clause-scaled c = Vectors.map_whole-scale

pub returns-clause-multiplied : goal.returns-clause-multiplied
returns-clause-multiplied c = Vectors.dot-map_whole

pub returns-clause-times : goal.returns-clause-times
returns-clause-times c = Vectors.times_vector-map_whole

pub returns-clause-combined : goal.returns-clause-combined
returns-clause-combined c = Vectors.map_whole-combination

pub returns-clause-cleared : goal.returns-clause-cleared
returns-clause-cleared c = Denominators.cleared
