use Rattle.std.proofs.Common.{ap, pos, ◌∙◌, sym, arith}
use Rattle.std.proofs.lemmas.Int.{to_z_pos}
use Rattle.std.specs.Int.{w128}
use Rattle.frac128.proofs.Terms.{terms_of}
use Rattle.frac128.proofs.frac.Frac.den.Goals as goal

pub returns-clause-value : goal.returns-clause-value
returns-clause-value c =
    to_z_pos w128 c.self.inside.den c.self.invariant.den_narrow ∙ ap pos (sym (terms_of c.self.invariant c.self.view_is).1)

pub returns-clause-narrow : goal.returns-clause-narrow
returns-clause-narrow c = omega (arith, (terms_of c.self.invariant c.self.view_is).1)
