use Rattle.exact_vectors.specs.InequalityLaws as Inequalities
use Rattle.exact_vectors.specs.RationalInequalityLaws as RationalInequalities
use Rattle.exact_vectors.proofs.inequality_laws.Goals as goal

pub returns-clause-combined : goal.returns-clause-combined
returns-clause-combined c = Inequalities.combination_le

pub returns-clause-weak_duality : goal.returns-clause-weak_duality
returns-clause-weak_duality c = Inequalities.weak_duality

pub returns-clause-farkas : goal.returns-clause-farkas
returns-clause-farkas c = Inequalities.farkas

pub returns-clause-rational_farkas : goal.returns-clause-rational_farkas
returns-clause-rational_farkas c = RationalInequalities.farkas

pub returns-clause-bounded : goal.returns-clause-bounded
returns-clause-bounded c = Inequalities.dot_bound
