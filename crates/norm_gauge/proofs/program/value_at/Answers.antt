use Rattle.std.proofs.Common.{◌≡◌, ◌<◌, ◌≤◌, pos, ◌∙◌, ap, sym, subst, get_or, length, refl, rules, arith, SFits, to_z-of_z}
use Rattle.std.proofs.lemmas.List.{get_or_read, length-map}
use Rattle.std.proofs.lemmas.Result.{err_from_is_err_and}
use Rattle.std.specs.Int.{w128}
use Rattle.exact_math.specs.Rational.{whole, ◌+ℚ◌}
use Rattle.frac128.specs.Range.{SumInRange}
use Rattle.lp_dict.specs.Dictionaries.{none}
use Rattle.lp_dict.specs.Systems.{wholes}
use Rattle.norm_gauge.proofs.SumSteps.{refused, summed_more, summed_all, summed_none, factor_is}
use Rattle.norm_gauge.proofs.program.value_at.Goals as goal

pub loop-j-init : goal.loop-j-init
loop-j-init c = summed_none (wholes c.args.form.now) c.args.point.now c.whole-sum.result c.whole-sum.ensures

pub loop-j-preserved : goal.loop-j-preserved
loop-j-preserved c =
    let form = c.args.form.now in
    let point = c.args.point.now in
    let fits : SFits w128 (get_or form c.loop-j.j (pos 0)) = search rules in
    let factor : c.whole.result ≡ whole (get_or form c.loop-j.j (pos 0)) = simp to_z-of_z at c.whole.ensures in
    let there : c.loop-j.j < length point = omega (arith, c.requires.size) in
    let placed : c.loop-j.j < length (wholes form) = simp length-map (omega arith) in
    let item : c.index-point-j.result ≡ get_or point c.loop-j.j none = get_or_read point c.loop-j.j c.index-point-j.result there c.index-point-j.is none in
    summed_more (wholes form) point c.loop-j.sum c.in_ok-sum.sum c.loop-j.j c.whole.result c.index-point-j.result placed there (factor_is form c.loop-j.j _ c.whole.result c.loop-j-test.true refl factor) item c.loop-j.invariant c.in_ok-product.ensures.0
    (subst (SumInRange c.loop-j.sum) c.in_ok-product.ensures.1 c.in_ok-sum.ensures.0) (c.in_ok-sum.ensures.1 ∙ ap (λ p. c.loop-j.sum +ℚ p) c.in_ok-product.ensures.1)

pub returns-in_err-product : goal.returns-in_err-product
returns-in_err-product c =
    let form = c.args.form.now in
    let point = c.args.point.now in
    let fits : SFits w128 (get_or form c.loop-j.j (pos 0)) = search rules in
    let factor : c.whole.result ≡ whole (get_or form c.loop-j.j (pos 0)) = simp to_z-of_z at c.whole.ensures in
    let there : c.loop-j.j < length point = omega (arith, c.requires.size) in
    let placed : c.loop-j.j < length (wholes form) = simp length-map (omega arith) in
    let item : c.index-point-j.result ≡ get_or point c.loop-j.j none = get_or_read point c.loop-j.j c.index-point-j.result there c.index-point-j.is none in
    let p = err_from_is_err_and c.from_residual.result c.from_residual.ensures.1 in
    rw p.1 (refused (wholes form) point c.loop-j.sum c.loop-j.j c.whole.result c.index-point-j.result placed there (factor_is form c.loop-j.j _ c.whole.result c.loop-j-test.true refl factor) item c.loop-j.invariant (λ both. c.in_err-product.ensures both.0))

pub returns-in_err-sum : goal.returns-in_err-sum
returns-in_err-sum c =
    let form = c.args.form.now in
    let point = c.args.point.now in
    let fits : SFits w128 (get_or form c.loop-j.j (pos 0)) = search rules in
    let factor : c.whole.result ≡ whole (get_or form c.loop-j.j (pos 0)) = simp to_z-of_z at c.whole.ensures in
    let there : c.loop-j.j < length point = omega (arith, c.requires.size) in
    let placed : c.loop-j.j < length (wholes form) = simp length-map (omega arith) in
    let item : c.index-point-j.result ≡ get_or point c.loop-j.j none = get_or_read point c.loop-j.j c.index-point-j.result there c.index-point-j.is none in
    let p = err_from_is_err_and c.from_residual-in_err-sum.result c.from_residual-in_err-sum.ensures.1 in
    rw p.1 (refused (wholes form) point c.loop-j.sum c.loop-j.j c.whole.result c.index-point-j.result placed there (factor_is form c.loop-j.j _ c.whole.result c.loop-j-test.true refl factor) item c.loop-j.invariant
    (λ both. c.in_err-sum.ensures (subst (SumInRange c.loop-j.sum) (sym c.in_ok-product.ensures.1) both.1)))

pub returns : goal.returns
returns c =
    let past : length (wholes c.args.form.now) ≤ c.loop-j.j = simp length-map (omega arith) in
    summed_all (wholes c.args.form.now) c.args.point.now c.loop-j.sum c.loop-j.j past c.loop-j.invariant
