use Rattle.std.proofs.Common.{rules, ◌≡◌, ◌∙◌, ◌<◌, ◌+ℤ◌, ◌<ℤ◌, pos, [], List, ℤ, inl, inr, set, length, sym, ap, ap₂, subst, subst₂, FitsSigned, to_z-of_z}
use Rattle.std.specs.Int.{w128}
use Rattle.std.proofs.lemmas.List.{get_or_default, get_or-map}
use Rattle.exact_math.specs.Ring.{integers}
use Rattle.exact_vectors.specs.Range.{StaysInRange}
use Rattle.exact_vectors.specs.Vectors.{dot, zeros}
use Rattle.reformulate.proofs.GapSteps.{bare_gap, divisor_positive, raised_gap}
use Rattle.reformulate.proofs.ShowingSteps.{gap_from, made_by_rest, stops-weaker}
use Rattle.reformulate.proofs.ShownSteps.{raised_is, raised_side_stays}
use Rattle.reformulate.specs.Gaps.{raised, sides_of, IsCeiling, IsGap}
use Rattle.reformulate.specs.GapTimes.{IsMadeBy, RaisedStays}
use Rattle.reformulate.specs.declared.equality.Equality.{Equality}
use Rattle.reformulate.proofs.showing.raised_gap.Goals as goal

pub gap_of-requires-clause-positive : goal.gap_of-requires-clause-positive
gap_of-requires-clause-positive c =
    let value_fits : FitsSigned w128 c.in-Some.value = search rules in
    let divisor_fits : FitsSigned w128 c.in-Some-checked_add.divisor = search rules in
    let value = c.in-Some.ensures.1 ∙ ap₂ (dot integers) c.as_slice.ensures.value (c.as_slice-2.ensures.value ∙ c.in_ok-sides.ensures.value) in
    let found = simp to_z-of_z at c.in-Some-checked_add.ensures in
    let sum = found.1 ∙ ap (λ z. z +ℤ pos 1) value in
    simp to_z-of_z (subst (λ z. pos 0 <ℤ z) (sym sum) (divisor_positive (length c.args.miss.now.row) c.args.equalities.now c.args.at c.args.miss.now c.args.times.items c.requires.times c.requires.none))

pub returns-in_default-first_form-clause-ok : goal.returns-in_default-first_form-clause-ok
returns-in_default-first_form-clause-ok c =
    let value_fits : FitsSigned w128 c.in-Some.value = search rules in
    let divisor_fits : FitsSigned w128 c.in-Some-checked_add.divisor = search rules in
    let value = c.in-Some.ensures.1 ∙ ap₂ (dot integers) c.as_slice.ensures.value (c.as_slice-2.ensures.value ∙ c.in_ok-sides.ensures.value) in
    let found = simp to_z-of_z at c.in-Some-checked_add.ensures in
    let sum = found.1 ∙ ap (λ z. z +ℤ pos 1) value in
    let form : c.of-form.result ≡ zeros integers (length c.args.miss.now.row) = c.of-form.ensures ∙ c.in_ok-vec.ensures.items_if_clones_equal (λ x e. e) ∙ ap (λ (l : List ℤ). zeros integers (length l)) c.items.ensures in
    let by_divisor = simp to_z-of_z at c.gap_of.ensures.divisor in
    let by_lo = simp to_z-of_z at c.gap_of.ensures.lo in
    gap_from c.gap_of.result c.of-form.result c.args.times.items c.in-Some-checked_add.divisor (dot integers c.args.times.items (sides_of c.args.equalities.now)) (IsGap (length c.args.miss.now.row) c.args.equalities.now)
    c.gap_of.ensures.form c.gap_of.ensures.times by_divisor by_lo
    (λ gap f t d l. bare_gap (length c.args.miss.now.row) c.args.equalities.now c.args.at c.args.miss.now c.args.times.items gap c.requires.lacks c.requires.times c.requires.none c.in_default-first_form.ensures.none (f ∙ form) t (d ∙ sum)
    (subst (λ z. IsCeiling (dot integers c.args.times.items (sides_of c.args.equalities.now)) z gap.lo) (sym d) l))

pub returns-in_default-checked_add-2-clause-stop : goal.returns-in_default-checked_add-2-clause-stop
returns-in_default-checked_add-2-clause-stop c =
    let value_fits : FitsSigned w128 c.in-Some.value = search rules in
    let divisor_fits : FitsSigned w128 c.in-Some-checked_add.divisor = search rules in
    let item_fits : FitsSigned w128 c.index.result.now = search rules in
    let value = c.in-Some.ensures.1 ∙ ap₂ (dot integers) c.as_slice.ensures.value (c.as_slice-2.ensures.value ∙ c.in_ok-sides.ensures.value) in
    let found = simp to_z-of_z at c.in-Some-checked_add.ensures in
    let sum = found.1 ∙ ap (λ z. z +ℤ pos 1) value in
    let first = c.in-Some-first_form.ensures.some in
    let below = subst (λ k. c.in-Some-first_form.place < k) (sym c.requires.times.as_many) first.there in
    let item = c.index.ensures ∙ get_or_default c.args.times.items c.in-Some-first_form.place c.index.result.now (pos 0) below in
    let refused = simp to_z-of_z at c.in_default-checked_add-2.ensures in
    λ stays. refused (subst₂ (λ a b. FitsSigned w128 (a +ℤ b)) (sym item) (sym sum) (stays.time c.in-Some-first_form.place first))

pub gap_of-requires-2-clause-positive : goal.gap_of-requires-2-clause-positive
gap_of-requires-2-clause-positive c =
    let value_fits : FitsSigned w128 c.in-Some.value = search rules in
    let divisor_fits : FitsSigned w128 c.in-Some-checked_add.divisor = search rules in
    let value = c.in-Some.ensures.1 ∙ ap₂ (dot integers) c.as_slice.ensures.value (c.as_slice-2.ensures.value ∙ c.in_ok-sides.ensures.value) in
    let found = simp to_z-of_z at c.in-Some-checked_add.ensures in
    let sum = found.1 ∙ ap (λ z. z +ℤ pos 1) value in
    simp to_z-of_z (subst (λ z. pos 0 <ℤ z) (sym sum) (divisor_positive (length c.args.miss.now.row) c.args.equalities.now c.args.at c.args.miss.now c.args.times.items c.requires.times c.requires.none))

pub returns-clause-ok : goal.returns-clause-ok
returns-clause-ok c =
    let place = c.in-Some-first_form.place in
    let value_fits : FitsSigned w128 c.in-Some.value = search rules in
    let divisor_fits : FitsSigned w128 c.in-Some-checked_add.divisor = search rules in
    let item_fits : FitsSigned w128 c.index.result.now = search rules in
    let time_fits : FitsSigned w128 c.in-Some-checked_add-2.time = search rules in
    let value = c.in-Some.ensures.1 ∙ ap₂ (dot integers) c.as_slice.ensures.value (c.as_slice-2.ensures.value ∙ c.in_ok-sides.ensures.value) in
    let found = simp to_z-of_z at c.in-Some-checked_add.ensures in
    let sum = found.1 ∙ ap (λ z. z +ℤ pos 1) value in
    let first = c.in-Some-first_form.ensures.some in
    let below = subst (λ k. place < k) (sym c.requires.times.as_many) first.there in
    let item = c.index.ensures ∙ get_or_default c.args.times.items place c.index.result.now (pos 0) below in
    let added = simp to_z-of_z at c.in-Some-checked_add-2.ensures in
    let more = raised_is c.args.equalities.now c.args.times.items place c.index.result.now c.in-Some-checked_add.divisor c.in-Some-checked_add-2.time item added.1 in
    let copied = c.in_ok-to_vec.ensures.items_if_clones_equal (λ x y e. e) in
    let form = c.of-form-2.ensures ∙ copied ∙ c.items-2.ensures ∙ sym (get_or-map (λ (q : Equality). q.form) c.args.equalities.now place c.index-equalities-place.result [] first.there) in
    let by_times = simp to_z-of_z at c.gap_of-2.ensures.times in
    let by_divisor = simp to_z-of_z at c.gap_of-2.ensures.divisor in
    let by_lo = simp to_z-of_z at c.gap_of-2.ensures.lo in
    gap_from c.gap_of-2.result c.of-form-2.result (set c.args.times.items place c.in-Some-checked_add-2.time) c.in-Some-checked_add.divisor (dot integers (set c.args.times.items place c.in-Some-checked_add-2.time) (sides_of c.args.equalities.now))
    (IsGap (length c.args.miss.now.row) c.args.equalities.now) c.gap_of-2.ensures.form by_times by_divisor by_lo
    (λ gap f t d l. raised_gap (length c.args.miss.now.row) c.args.equalities.now c.args.at place c.args.miss.now c.args.times.items gap c.requires.lacks c.requires.times c.requires.none first (f ∙ form) (t ∙ more ∙ ap (λ z. raised place z c.args.times.items) (sym d)) (d ∙ sum)
    (subst₂ (λ (z : ℤ) (v : List ℤ). IsCeiling (dot integers v (sides_of c.args.equalities.now)) z gap.lo) (sym d) (sym t) l))

pub returns-clause-stop : goal.returns-clause-stop
returns-clause-stop c =
    let place = c.in-Some-first_form.place in
    let value_fits : FitsSigned w128 c.in-Some.value = search rules in
    let divisor_fits : FitsSigned w128 c.in-Some-checked_add.divisor = search rules in
    let item_fits : FitsSigned w128 c.index.result.now = search rules in
    let time_fits : FitsSigned w128 c.in-Some-checked_add-2.time = search rules in
    let value = c.in-Some.ensures.1 ∙ ap₂ (dot integers) c.as_slice.ensures.value (c.as_slice-2.ensures.value ∙ c.in_ok-sides.ensures.value) in
    let found = simp to_z-of_z at c.in-Some-checked_add.ensures in
    let sum = found.1 ∙ ap (λ z. z +ℤ pos 1) value in
    let first = c.in-Some-first_form.ensures.some in
    let below = subst (λ k. place < k) (sym c.requires.times.as_many) first.there in
    let item = c.index.ensures ∙ get_or_default c.args.times.items place c.index.result.now (pos 0) below in
    let added = simp to_z-of_z at c.in-Some-checked_add-2.ensures in
    let more = raised_is c.args.equalities.now c.args.times.items place c.index.result.now c.in-Some-checked_add.divisor c.in-Some-checked_add-2.time item added.1 in
    let stop = simp to_z-of_z at c.gap_of-2.ensures.stop in
    stops-weaker c.gap_of-2.result (StaysInRange (pos 0) (set c.args.times.items place c.in-Some-checked_add-2.time) (sides_of c.args.equalities.now)) (RaisedStays c.args.equalities.now c.args.times.items)
    (λ s. subst (λ (v : List ℤ). StaysInRange (pos 0) v (sides_of c.args.equalities.now)) (sym more) (raised_side_stays c.args.equalities.now c.args.times.items place c.in-Some-checked_add.divisor first sum s)) stop

pub returns-in_default-first_form-clause-made : goal.returns-in_default-first_form-clause-made
returns-in_default-first_form-clause-made c =
    let value_fits : FitsSigned w128 c.in-Some.value = search rules in
    let divisor_fits : FitsSigned w128 c.in-Some-checked_add.divisor = search rules in
    let value = c.in-Some.ensures.1 ∙ ap₂ (dot integers) c.as_slice.ensures.value (c.as_slice-2.ensures.value ∙ c.in_ok-sides.ensures.value) in
    let found = simp to_z-of_z at c.in-Some-checked_add.ensures in
    let sum = found.1 ∙ ap (λ z. z +ℤ pos 1) value in
    let form : c.of-form.result ≡ zeros integers (length c.args.miss.now.row) = c.of-form.ensures ∙ c.in_ok-vec.ensures.items_if_clones_equal (λ x e. e) ∙ ap (λ (l : List ℤ). zeros integers (length l)) c.items.ensures in
    let by_divisor = simp to_z-of_z at c.gap_of.ensures.divisor in
    let by_lo = simp to_z-of_z at c.gap_of.ensures.lo in
    gap_from c.gap_of.result c.of-form.result c.args.times.items c.in-Some-checked_add.divisor (dot integers c.args.times.items (sides_of c.args.equalities.now)) (IsMadeBy (length c.args.miss.now.row) c.args.equalities.now c.args.at c.args.miss.now c.args.times.items)
    c.gap_of.ensures.form c.gap_of.ensures.times by_divisor by_lo
    (λ gap f t d l. made_by_rest (length c.args.miss.now.row) c.args.equalities.now c.args.at c.args.miss.now c.args.times.items gap c.requires.none (d ∙ sum) (inl (c.in_default-first_form.ensures.none, t, f ∙ form)))

pub returns-clause-made : goal.returns-clause-made
returns-clause-made c =
    let place = c.in-Some-first_form.place in
    let value_fits : FitsSigned w128 c.in-Some.value = search rules in
    let divisor_fits : FitsSigned w128 c.in-Some-checked_add.divisor = search rules in
    let item_fits : FitsSigned w128 c.index.result.now = search rules in
    let time_fits : FitsSigned w128 c.in-Some-checked_add-2.time = search rules in
    let value = c.in-Some.ensures.1 ∙ ap₂ (dot integers) c.as_slice.ensures.value (c.as_slice-2.ensures.value ∙ c.in_ok-sides.ensures.value) in
    let found = simp to_z-of_z at c.in-Some-checked_add.ensures in
    let sum = found.1 ∙ ap (λ z. z +ℤ pos 1) value in
    let first = c.in-Some-first_form.ensures.some in
    let below = subst (λ k. place < k) (sym c.requires.times.as_many) first.there in
    let item = c.index.ensures ∙ get_or_default c.args.times.items place c.index.result.now (pos 0) below in
    let added = simp to_z-of_z at c.in-Some-checked_add-2.ensures in
    let more = raised_is c.args.equalities.now c.args.times.items place c.index.result.now c.in-Some-checked_add.divisor c.in-Some-checked_add-2.time item added.1 in
    let copied = c.in_ok-to_vec.ensures.items_if_clones_equal (λ x y e. e) in
    let form = c.of-form-2.ensures ∙ copied ∙ c.items-2.ensures ∙ sym (get_or-map (λ (q : Equality). q.form) c.args.equalities.now place c.index-equalities-place.result [] first.there) in
    let by_times = simp to_z-of_z at c.gap_of-2.ensures.times in
    let by_divisor = simp to_z-of_z at c.gap_of-2.ensures.divisor in
    let by_lo = simp to_z-of_z at c.gap_of-2.ensures.lo in
    gap_from c.gap_of-2.result c.of-form-2.result (set c.args.times.items place c.in-Some-checked_add-2.time) c.in-Some-checked_add.divisor (dot integers (set c.args.times.items place c.in-Some-checked_add-2.time) (sides_of c.args.equalities.now))
    (IsMadeBy (length c.args.miss.now.row) c.args.equalities.now c.args.at c.args.miss.now c.args.times.items) c.gap_of-2.ensures.form by_times by_divisor by_lo
    (λ gap f t d l. made_by_rest (length c.args.miss.now.row) c.args.equalities.now c.args.at c.args.miss.now c.args.times.items gap c.requires.none (d ∙ sum) (inr (place, first, t ∙ more ∙ ap (λ z. raised place z c.args.times.items) (sym d), f ∙ form)))
