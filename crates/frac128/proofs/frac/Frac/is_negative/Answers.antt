use Rattle.std.proofs.Common.{int_lt, pos, ◌∙◌, ap, sym}
use Rattle.std.specs.Int.{w128}
use Rattle.std.proofs.lemmas.Int.{to_z-of_z}
use Rattle.frac128.proofs.Terms.{terms_of, fits_from_narrow}
use Rattle.frac128.proofs.frac.Frac.is_negative.Goals as goal

pub returns : goal.returns
returns c =
    ap (λ z. int_lt z (pos 0)) (to_z-of_z w128 c.self.inside.num (fits_from_narrow _ c.self.invariant.num_narrow) ∙ sym (terms_of c.self.invariant c.self.view_is).0)
