use Rattle.std.proofs.Common.{◌≡◌, ◌+ℤ◌, ◌∙◌, ap, sym, subst, FitsSigned}
use Rattle.std.specs.Int.{w128}
use Rattle.std.proofs.lemmas.Int.{to_z-of_z}
use Rattle.std.proofs.lemmas.Result.{err_from_is_err_and}
use Rattle.exact_math.specs.Rational.{frac}
use Rattle.frac128.specs.Range.{IsNarrow}
use Rattle.frac128.proofs.Terms.{refused, sum_is_narrow, sum_is_wide, whole_sum, whole_sum_range, narrow_from_range, whole_made, fits_from_narrow}
use Rattle.frac128.proofs.frac.Frac.add_whole.Goals as goal

pub returns-in_err-num : goal.returns-in_err-num
returns-in_err-num c =
    let p = c.args.self.now in
    let q = c.args.other.now in
    let e = err_from_is_err_and c.from_residual.result c.from_residual.ensures.1 in
    refused c.from_residual.result _ _ e.0 e.1 (λ h. sum_is_wide c.num.result c.num-2.result p.num q.num (c.num.ensures.value, c.num.ensures.narrow) (c.num-2.ensures.value, c.num-2.ensures.narrow) c.in_err-num.ensures (narrow_from_range p q c.requires.left c.requires.right h))

-- the sum of the numerators
made : (c : goal.In_ok-num) → (c.in_ok-num.num ≡ c.args.self.now.num +ℤ c.args.other.now.num) × IsNarrow c.in_ok-num.num
made c =
    let p = c.args.self.now in
    let q = c.args.other.now in
    let t = sum_is_narrow c.num.result c.num-2.result c.in_ok-num.num p.num q.num (c.num.ensures.value, c.num.ensures.narrow) (c.num-2.ensures.value, c.num-2.ensures.narrow) c.in_ok-num.ensures in
    (t.0, subst IsNarrow (sym t.0) t.1)

pub of_terms-requires : goal.of_terms-requires
of_terms-requires c =
    let m = made c in
    let fits : FitsSigned w128 c.in_ok-num.num = fits_from_narrow _ m.1 in
    simp to_z-of_z (whole_made c.in_ok-num.num m.1)

pub returns : goal.returns
returns c =
    let p = c.args.self.now in
    let q = c.args.other.now in
    let m = made c.before in
    let fits : FitsSigned w128 c.in_ok-num.num = fits_from_narrow _ m.1 in (
      whole_sum_range p q c.requires.left c.requires.right c.num.ensures.narrow c.num-2.ensures.narrow (subst IsNarrow m.0 m.1),
      simp to_z-of_z at c.of_terms.ensures.value ∙ ap (λ n. frac n 1) m.0 ∙ sym (whole_sum p q c.requires.left c.requires.right),
    )
