use Rattle.exact_vectors.specs.FlatMatrixLaws as FlatMatrices
use Rattle.exact_vectors.specs.MatrixLaws as Matrices
use Rattle.exact_vectors.proofs.matrix_laws.Goals as goal

pub returns-clause-transposed : goal.returns-clause-transposed
returns-clause-transposed g c = Matrices.dot_times_vector

pub returns-clause-by_column : goal.returns-clause-by_column
returns-clause-by_column g c = Matrices.combination-at

pub returns-clause-by_transpose : goal.returns-clause-by_transpose
returns-clause-by_transpose g c = Matrices.times_transpose

pub returns-clause-composed : goal.returns-clause-composed
returns-clause-composed g c = Matrices.times_matrix_vector

pub returns-clause-flat_item : goal.returns-clause-flat_item
returns-clause-flat_item g c = FlatMatrices.rows_of-item

pub returns-clause-flat_set : goal.returns-clause-flat_set
returns-clause-flat_set g c = FlatMatrices.rows_of-set
