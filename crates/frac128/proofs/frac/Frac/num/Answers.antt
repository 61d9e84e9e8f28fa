use Rattle.std.proofs.Common.{◌∙◌, sym, subst}
use Rattle.std.proofs.lemmas.Int.{to_z-of_z}
use Rattle.std.specs.Int.{w128}
use Rattle.frac128.specs.Range.{IsNarrow}
use Rattle.frac128.proofs.Terms.{terms_of, fits_from_narrow}
use Rattle.frac128.proofs.frac.Frac.num.Goals as goal

pub returns-clause-value : goal.returns-clause-value
returns-clause-value c =
    to_z-of_z w128 c.self.inside.num (fits_from_narrow _ c.self.invariant.num_narrow) ∙ sym (terms_of c.self.invariant c.self.view_is).0

pub returns-clause-narrow : goal.returns-clause-narrow
returns-clause-narrow c =
    subst IsNarrow (sym (terms_of c.self.invariant c.self.view_is).0) c.self.invariant.num_narrow
