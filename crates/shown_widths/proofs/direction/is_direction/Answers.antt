use Rattle.std.proofs.Common.{rules, ◌≡◌, ℕ, zero, suc, ◌==◌, Bool, false, ℤ, pos, ◌<◌, List, length, ap, sym, subst, ◌∙◌, arith}
use Rattle.std.specs.Prelude.{Option, IfSome}
use Rattle.exact_math.specs.IntegerRing.{linear}
use Rattle.node_point.specs.NodePoints.{Fractions}
use Rattle.spaces.specs.Maps.{pulled_form}
use Rattle.unimodular_pair.specs.Gathering.{common_divisor}
use Rattle.reformulate.specs.Substitutions.{dimension_of}
use Rattle.farkas_lift.specs.NodeEqualities.{work_form}
use Rattle.shown_widths.specs.Thin.{IsThinBy}
use Rattle.shown_widths.proofs.ShownLaws.{direction_in_one, direction_shown}
use Rattle.shown_widths.proofs.direction.is_direction.Goals as goal

-- a number that is 1 as a whole number
one_of : (n : ℕ) → pos n ≡ pos 1 → n ≡ 1
one_of n e = omega linear

-- a number that is not 0
some_of : (n : ℕ) (b : Bool) → b ≡ (n == 0) → b ≡ false → 0 < n
some_of zero b e f = absurd (cc)
some_of (suc n) b e f = omega arith

pub returns-then-dimension-eq1 : goal.returns-then-dimension-eq1
returns-then-dimension-eq1 c = λ true.
    let node = c.args.node in
    let cut = c.args.cut.now in
    let to_work = c.args.node.frame.now.to_work in
    let some : 0 < length c.args.points.now = some_of (length c.args.points.now) _ c.is_empty.ensures c.if-is_empty.false in
    let one : dimension_of c.args.node.frame.now ≡ 1 = search rules in
    let kernel : c.in-Some.form ≡ pulled_form to_work (work_form c.args.node.work.now c.items.result.now) = subst (λ (o : Option (List ℤ)). IfSome o (λ (form : List ℤ). form ≡ pulled_form to_work (work_form c.args.node.work.now c.items.result.now))) c.in-Some.is c.in_ok-form.ensures in
    let form_is = c.items-2.ensures ∙ kernel ∙ ap (λ (f : List ℤ). pulled_form to_work (work_form c.args.node.work.now f)) c.items.ensures in
    let divisor : c.in-Some-divisor_of.divisor ≡ pos 1 = search rules in
    let lowest = subst (λ (l : List ℤ). common_divisor l ≡ 1) form_is (one_of (common_divisor c.items-2.result.now) (sym c.in-Some-divisor_of.ensures ∙ divisor)) in
    direction_in_one node.model.now node.work.now node.frame.now node.path.now node.cut c.columns-columns.ensures.limits c.dimension.ensures.shaped.shaped c.requires.framed
    c.args.points.now c.requires.points cut.form some one lowest

pub returns : goal.returns
returns c = λ true.
    let node = c.args.node in
    let cut = c.args.cut.now in
    let to_work = c.args.node.frame.now.to_work in
    let some : 0 < length c.args.points.now = some_of (length c.args.points.now) _ c.is_empty.ensures c.if-is_empty.false in
    let some_coordinates : 0 < dimension_of c.args.node.frame.now = search rules in
    let kernel : c.in-Some.form ≡ pulled_form to_work (work_form c.args.node.work.now c.items.result.now) = subst (λ (o : Option (List ℤ)). IfSome o (λ (form : List ℤ). form ≡ pulled_form to_work (work_form c.args.node.work.now c.items.result.now))) c.in-Some.is c.in_ok-form.ensures in
    let form_is = c.items-2.ensures ∙ kernel ∙ ap (λ (f : List ℤ). pulled_form to_work (work_form c.args.node.work.now f)) c.items.ensures in
    let divisor : c.in-Some-divisor_of.divisor ≡ pos 1 = search rules in
    let lowest = subst (λ (l : List ℤ). common_divisor l ≡ 1) form_is (one_of (common_divisor c.items-2.result.now) (sym c.in-Some-divisor_of.ensures ∙ divisor)) in
    direction_shown node.model.now node.work.now node.frame.now node.path.now node.cut c.columns-columns.ensures.limits c.dimension.ensures.shaped.shaped c.requires.framed
    c.args.points.now c.requires.points cut.form c.in-Some-width_of.width some some_coordinates c.requires.splits.form.dense lowest c.in-Some-width_of.ensures
    (subst (λ (l : List Fractions). IsThinBy node.frame.now node.work.now node.cut c.in-Some-width_of.width l) (c.deref.ensures.value ∙ c.in_ok-at_work.ensures) (c.in_ok-shown.ensures true))
