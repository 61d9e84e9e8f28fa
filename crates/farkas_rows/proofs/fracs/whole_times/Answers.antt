use Rattle.std.proofs.Common.{rules, ◌≡◌, pos, ◌<ℤ◌, int_div, FitsSigned, ap, ◌∙◌, subst, sym}
use Rattle.std.specs.Int.{w128}
use Rattle.std.proofs.lemmas.Int.{to_z-of_z, quot_fits}
use Rattle.exact_math.specs.Rational.{ℚ, ◌/ℚ◌}
use Rattle.exact_math.specs.RationalLaws.{den_pos}
use Rattle.farkas_rows.proofs.RatioLemmas.{above_zero, quotient_times, times_answered, times_refused}
use Rattle.farkas_rows.proofs.fracs.whole_times.Goals as goal

pub returns-clause-some : goal.returns-clause-some
returns-clause-some c =
    let ratio = c.args.times.now /ℚ c.args.first.now in
    let is = (rw c.unwrap-ratio.ensures at c.div.ensures).1 in
    let den : c.den.result ≡ pos ratio.den = c.den.ensures.value ∙ ap (λ (q : ℚ). pos q.den) is in
    let num : c.num.result ≡ ratio.num = c.num.ensures.value ∙ ap (λ (q : ℚ). q.num) is in
    let common_fits : FitsSigned w128 c.args.common = c.ranges.common in
    let den_fits : FitsSigned w128 c.den.result = search rules in
    let num_fits : FitsSigned w128 c.num.result = search rules in
    let quotient : FitsSigned w128 (int_div c.args.common c.den.result) = quot_fits w128 c.args.common c.den.result common_fits (subst (λ z. pos 0 <ℤ z) (sym den) (above_zero _ (den_pos ratio))) in
    let answered = simp to_z-of_z at c.checked_mul.ensures in
    times_answered c.checked_mul.result (int_div c.args.common (pos ratio.den)) (pos ratio.den) ratio.num c.args.common (quotient_times c.args.common ratio.den c.requires.common c.requires.multiple) (rw (den, num) at answered)

pub returns-clause-none : goal.returns-clause-none
returns-clause-none c =
    let ratio = c.args.times.now /ℚ c.args.first.now in
    let is = (rw c.unwrap-ratio.ensures at c.div.ensures).1 in
    let den : c.den.result ≡ pos ratio.den = c.den.ensures.value ∙ ap (λ (q : ℚ). pos q.den) is in
    let num : c.num.result ≡ ratio.num = c.num.ensures.value ∙ ap (λ (q : ℚ). q.num) is in
    let common_fits : FitsSigned w128 c.args.common = c.ranges.common in
    let den_fits : FitsSigned w128 c.den.result = search rules in
    let num_fits : FitsSigned w128 c.num.result = search rules in
    let above = above_zero _ (den_pos ratio) in
    let quotient : FitsSigned w128 (int_div c.args.common c.den.result) = quot_fits w128 c.args.common c.den.result common_fits (subst (λ z. pos 0 <ℤ z) (sym den) above) in
    let answered = simp to_z-of_z at c.checked_mul.ensures in
    times_refused c.checked_mul.result (int_div c.args.common (pos ratio.den)) (pos ratio.den) ratio.num c.args.common above c.requires.positive c.requires.common (quotient_times c.args.common ratio.den c.requires.common c.requires.multiple) (rw (den, num) at answered)
