use Rattle.std.proofs.Common.{rules, ◌∙◌, ◌<◌, ◌*ℤ◌, pos, length, sym, ap, subst, FitsSigned, to_z-of_z}
use Rattle.std.specs.Int.{w128}
use Rattle.std.proofs.lemmas.List.{get_or_default}
use Rattle.exact_math.specs.Ring.{integers}
use Rattle.exact_vectors.specs.Vectors.{dot}
use Rattle.reformulate.proofs.GapSteps.{row_gap}
use Rattle.reformulate.proofs.ShowingSteps.{gap_from, made_by_value}
use Rattle.reformulate.specs.Gaps.{sides_of, IsCeiling, IsGap}
use Rattle.reformulate.specs.GapTimes.{IsMadeBy}
use Rattle.reformulate.proofs.showing.row_gap.Goals as goal

pub returns-clause-ok : goal.returns-clause-ok
returns-clause-ok c =
    let item_fits : FitsSigned w128 c.index.result.now = search rules in
    let value_fits : FitsSigned w128 c.args.miss.now.value = search rules in
    let divisor_fits : FitsSigned w128 c.in-Some.divisor = search rules in
    let below = subst (λ k. c.args.at < k) (sym c.requires.times.as_many) c.requires.lacks.there in
    let item = c.index.ensures ∙ get_or_default c.args.times.items c.args.at c.index.result.now (pos 0) below in
    let found = simp to_z-of_z at c.in-Some.ensures in
    let divisor = found.1 ∙ ap (λ z. z *ℤ c.args.miss.now.value) item in
    let copied = c.in_ok-to_vec.ensures.items_if_clones_equal (λ x y e. e) in
    let form = c.of-form.ensures ∙ copied ∙ c.items.ensures in
    let by_divisor = simp to_z-of_z at c.gap_of.ensures.divisor in
    let by_lo = simp to_z-of_z at c.gap_of.ensures.lo in
    gap_from c.gap_of.result c.of-form.result c.args.times.items c.in-Some.divisor (dot integers c.args.times.items (sides_of c.args.equalities.now)) (IsGap (length c.args.miss.now.row) c.args.equalities.now)
    c.gap_of.ensures.form c.gap_of.ensures.times by_divisor by_lo
    (λ gap f t d l. row_gap (length c.args.miss.now.row) c.args.equalities.now c.args.at c.args.miss.now c.args.times.items gap c.requires.lacks c.requires.times c.requires.some (f ∙ form) t (d ∙ divisor)
    (subst (λ z. IsCeiling (dot integers c.args.times.items (sides_of c.args.equalities.now)) z gap.lo) (sym d) l))

pub returns-clause-made : goal.returns-clause-made
returns-clause-made c =
    let item_fits : FitsSigned w128 c.index.result.now = search rules in
    let value_fits : FitsSigned w128 c.args.miss.now.value = search rules in
    let divisor_fits : FitsSigned w128 c.in-Some.divisor = search rules in
    let below = subst (λ k. c.args.at < k) (sym c.requires.times.as_many) c.requires.lacks.there in
    let item = c.index.ensures ∙ get_or_default c.args.times.items c.args.at c.index.result.now (pos 0) below in
    let found = simp to_z-of_z at c.in-Some.ensures in
    let divisor = found.1 ∙ ap (λ z. z *ℤ c.args.miss.now.value) item in
    let copied = c.in_ok-to_vec.ensures.items_if_clones_equal (λ x y e. e) in
    let form = c.of-form.ensures ∙ copied ∙ c.items.ensures in
    let by_divisor = simp to_z-of_z at c.gap_of.ensures.divisor in
    let by_lo = simp to_z-of_z at c.gap_of.ensures.lo in
    gap_from c.gap_of.result c.of-form.result c.args.times.items c.in-Some.divisor (dot integers c.args.times.items (sides_of c.args.equalities.now)) (IsMadeBy (length c.args.miss.now.row) c.args.equalities.now c.args.at c.args.miss.now c.args.times.items)
    c.gap_of.ensures.form c.gap_of.ensures.times by_divisor by_lo
    (λ gap f t d l. made_by_value (length c.args.miss.now.row) c.args.equalities.now c.args.at c.args.miss.now c.args.times.items gap c.requires.some (f ∙ form) t (d ∙ divisor))
