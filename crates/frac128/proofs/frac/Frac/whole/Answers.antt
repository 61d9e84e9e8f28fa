use Rattle.std.proofs.Common.{◌∙◌, sym, FitsSigned}
use Rattle.std.specs.Int.{w128}
use Rattle.std.proofs.lemmas.Int.{to_z-of_z}
use Rattle.exact_math.specs.RationalLaws.{whole-frac}
use Rattle.frac128.proofs.Terms.{whole_made}
use Rattle.frac128.proofs.frac.Frac.whole.Goals as goal

pub of_terms-requires : goal.of_terms-requires
of_terms-requires c =
    let fits : FitsSigned w128 c.args.value = c.ranges.value in
    simp to_z-of_z (whole_made c.args.value c.requires)

pub returns : goal.returns
returns c =
    let fits : FitsSigned w128 c.args.value = c.ranges.value in
    simp to_z-of_z at c.of_terms.ensures.value ∙ sym (whole-frac c.args.value)
