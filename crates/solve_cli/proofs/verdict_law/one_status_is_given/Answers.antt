use Rattle.solve_cli.proofs.VerdictLaws.{one_given, one_checked, ends, decides, checks}
use Rattle.solve_cli.proofs.verdict_law.one_status_is_given.Goals as goal

pub returns-clause-one : goal.returns-clause-one
returns-clause-one c = λ command nodes text proof one other solves a b. one_given command nodes solves text proof one other a b

pub returns-clause-ends : goal.returns-clause-ends
returns-clause-ends c = λ command nodes text proof model status solves small gives. ends command nodes solves text proof model status small gives

pub returns-clause-enough : goal.returns-clause-enough
returns-clause-enough c = λ command nodes text proof model status solves small enough gives. decides command nodes solves text proof model status small enough gives

pub returns-clause-checks : goal.returns-clause-checks
returns-clause-checks c = λ command text proof model status task small short gives. checks command task text proof model status small short gives

pub returns-clause-one_check : goal.returns-clause-one_check
returns-clause-one_check c = λ command text proof one other task a b. one_checked command task text proof c.one_verdict.ensures one other a b
