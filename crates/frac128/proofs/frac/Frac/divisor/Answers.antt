use Rattle.std.proofs.Common.{sym}
use Rattle.frac128.proofs.Terms.{terms_of}
use Rattle.frac128.proofs.frac.Frac.divisor.Goals as goal

pub returns-clause-value : goal.returns-clause-value
returns-clause-value c = sym (terms_of c.self.invariant c.self.view_is).1
