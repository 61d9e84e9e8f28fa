use Rattle.std.proofs.Common.{rules, ◌≡◌, ◌≢◌, ◌∙◌, ◌-◌, pos, [], List, get_or, length, ap, sym, take, FitsSigned, to_z-of_z}
use Rattle.std.specs.Int.{w128}
use Rattle.std.proofs.lemmas.List.{get_or-map}
use Rattle.exact_math.specs.Rational.{ℚ}
use Rattle.row_lifting.specs.Lifting.{wholes, LiftStays}
use Rattle.reformulate.proofs.ShowingSteps.{made_by_times, stops-weaker}
use Rattle.reformulate.proofs.ShownSteps.{lifting_stays, multipliers_are, raised_stays, residual_stop, row_stays, shown_times, times_are, times_stay_there}
use Rattle.reformulate.specs.Gaps.{forms_of}
use Rattle.reformulate.specs.GapTimes.{all_times, remainder_of, times_of, GapStays, RaisedStays, RemainderStays, RowStays, TimesStay}
use Rattle.reformulate.specs.declared.equality.Equality.{Equality}
use Rattle.reformulate.proofs.showing.shown_gap.Goals as goal

pub returns-in_err-fractions-clause-stop : goal.returns-in_err-fractions-clause-stop
returns-in_err-fractions-clause-stop c =
    let miss = c.args.miss.now in
    let equalities = c.args.equalities.now in
    let value_fits : FitsSigned w128 c.args.miss.now.value = search rules in
    let form = c.items.ensures ∙ sym (get_or-map (λ (q : Equality). q.form) c.args.equalities.now c.args.at c.index-equalities-at.result [] c.requires.lacks.there) in
    let stop = simp to_z-of_z at c.in_err-fractions.ensures.stop in
    residual_stop c.from_residual.result c.in_err-fractions.field-0.0 (RemainderStays c.items.result.now miss.value c.items-2.result.now × LiftStays (forms_of (take c.args.at equalities)) (wholes (remainder_of c.items.result.now miss.value c.items-2.result.now))) (GapStays equalities c.args.at miss c.args.negative)
    (lifting_stays equalities c.args.at miss c.args.negative c.items.result.now c.items-2.result.now form c.items-2.ensures) stop c.from_residual.ensures.1

pub returns-in_err-times-clause-stop : goal.returns-in_err-times-clause-stop
returns-in_err-times-clause-stop c =
    let miss = c.args.miss.now in
    let equalities = c.args.equalities.now in
    let value_fits : FitsSigned w128 c.args.miss.now.value = search rules in
    let form = c.items.ensures ∙ sym (get_or-map (λ (q : Equality). q.form) c.args.equalities.now c.args.at c.index-equalities-at.result [] c.requires.lacks.there) in
    let value = simp to_z-of_z at c.in_ok-fractions.ensures.value in
    let fractions = c.items-3.ensures ∙ multipliers_are equalities c.args.at miss c.items.result.now c.items-2.result.now c.in_ok-fractions.fractions form c.items-2.ensures value in
    residual_stop c.from_residual-in_err-times.result c.in_err-times.field-0.0 (TimesStay c.args.negative c.items-3.result.now) (GapStays equalities c.args.at miss c.args.negative)
    (times_stay_there equalities c.args.at miss c.args.negative c.items-3.result.now fractions) c.in_err-times.ensures.stop c.from_residual-in_err-times.ensures.1

pub raised_gap-requires-clause-times : goal.raised_gap-requires-clause-times
raised_gap-requires-clause-times c =
    let value_fits : FitsSigned w128 c.args.miss.now.value = search rules in
    let form = c.items.ensures ∙ sym (get_or-map (λ (q : Equality). q.form) c.args.equalities.now c.args.at c.index-equalities-at.result [] c.requires.lacks.there) in
    let sums = simp to_z-of_z at c.in_ok-fractions.ensures.sums in
    shown_times (length c.args.miss.now.row) c.args.equalities.now c.args.at c.args.miss.now c.args.negative c.items.result.now c.items-2.result.now c.in_ok-fractions.fractions c.in_ok-times.times.items c.requires.lacks c.requires.sign form c.items-2.ensures sums
    (c.in_ok-times.ensures.value ∙ ap (λ (l : List ℚ). times_of c.args.negative l (length c.args.equalities.now - c.args.at - 1)) c.items-3.ensures)

pub returns-then-miss-eq0-clause-stop : goal.returns-then-miss-eq0-clause-stop
returns-then-miss-eq0-clause-stop c =
    let miss = c.args.miss.now in
    let equalities = c.args.equalities.now in
    let value_fits : FitsSigned w128 c.args.miss.now.value = search rules in
    let zero : c.args.miss.now.value ≡ pos 0 = search rules in
    let form = c.items.ensures ∙ sym (get_or-map (λ (q : Equality). q.form) c.args.equalities.now c.args.at c.index-equalities-at.result [] c.requires.lacks.there) in
    let value = simp to_z-of_z at c.in_ok-fractions.ensures.value in
    let fractions = c.items-3.ensures ∙ multipliers_are equalities c.args.at miss c.items.result.now c.items-2.result.now c.in_ok-fractions.fractions form c.items-2.ensures value in
    let times = times_are equalities c.args.at miss c.args.negative c.items-3.result.now c.in_ok-times.times.items fractions c.in_ok-times.ensures.value in
    stops-weaker c.raised_gap.result (RaisedStays equalities c.in_ok-times.times.items) (GapStays equalities c.args.at miss c.args.negative) (raised_stays equalities c.args.at miss c.args.negative c.in_ok-times.times.items times zero) c.raised_gap.ensures.stop

pub row_gap-requires-clause-times : goal.row_gap-requires-clause-times
row_gap-requires-clause-times c =
    let value_fits : FitsSigned w128 c.args.miss.now.value = search rules in
    let form = c.items.ensures ∙ sym (get_or-map (λ (q : Equality). q.form) c.args.equalities.now c.args.at c.index-equalities-at.result [] c.requires.lacks.there) in
    let sums = simp to_z-of_z at c.in_ok-fractions.ensures.sums in
    shown_times (length c.args.miss.now.row) c.args.equalities.now c.args.at c.args.miss.now c.args.negative c.items.result.now c.items-2.result.now c.in_ok-fractions.fractions c.in_ok-times.times.items c.requires.lacks c.requires.sign form c.items-2.ensures sums
    (c.in_ok-times.ensures.value ∙ ap (λ (l : List ℚ). times_of c.args.negative l (length c.args.equalities.now - c.args.at - 1)) c.items-3.ensures)

pub returns-clause-stop : goal.returns-clause-stop
returns-clause-stop c =
    let miss = c.args.miss.now in
    let equalities = c.args.equalities.now in
    let value_fits : FitsSigned w128 c.args.miss.now.value = search rules in
    let some : c.args.miss.now.value ≢ pos 0 = search rules in
    let form = c.items.ensures ∙ sym (get_or-map (λ (q : Equality). q.form) c.args.equalities.now c.args.at c.index-equalities-at.result [] c.requires.lacks.there) in
    let value = simp to_z-of_z at c.in_ok-fractions.ensures.value in
    let fractions = c.items-3.ensures ∙ multipliers_are equalities c.args.at miss c.items.result.now c.items-2.result.now c.in_ok-fractions.fractions form c.items-2.ensures value in
    let times = times_are equalities c.args.at miss c.args.negative c.items-3.result.now c.in_ok-times.times.items fractions c.in_ok-times.ensures.value in
    stops-weaker c.row_gap.result (RowStays equalities miss.value (get_or c.in_ok-times.times.items c.args.at (pos 0)) c.in_ok-times.times.items) (GapStays equalities c.args.at miss c.args.negative) (row_stays equalities c.args.at miss c.args.negative c.in_ok-times.times.items times some) c.row_gap.ensures.stop

pub returns-then-miss-eq0-clause-made : goal.returns-then-miss-eq0-clause-made
returns-then-miss-eq0-clause-made c =
    let miss = c.args.miss.now in
    let equalities = c.args.equalities.now in
    let value_fits : FitsSigned w128 c.args.miss.now.value = search rules in
    let form = c.items.ensures ∙ sym (get_or-map (λ (q : Equality). q.form) c.args.equalities.now c.args.at c.index-equalities-at.result [] c.requires.lacks.there) in
    let value = simp to_z-of_z at c.in_ok-fractions.ensures.value in
    let fractions = c.items-3.ensures ∙ multipliers_are equalities c.args.at miss c.items.result.now c.items-2.result.now c.in_ok-fractions.fractions form c.items-2.ensures value in
    let times = times_are equalities c.args.at miss c.args.negative c.items-3.result.now c.in_ok-times.times.items fractions c.in_ok-times.ensures.value in
    made_by_times (length miss.row) equalities c.args.at miss c.raised_gap.result c.in_ok-times.times.items (all_times equalities c.args.at miss c.args.negative) times c.raised_gap.ensures.made

pub returns-clause-made : goal.returns-clause-made
returns-clause-made c =
    let miss = c.args.miss.now in
    let equalities = c.args.equalities.now in
    let value_fits : FitsSigned w128 c.args.miss.now.value = search rules in
    let form = c.items.ensures ∙ sym (get_or-map (λ (q : Equality). q.form) c.args.equalities.now c.args.at c.index-equalities-at.result [] c.requires.lacks.there) in
    let value = simp to_z-of_z at c.in_ok-fractions.ensures.value in
    let fractions = c.items-3.ensures ∙ multipliers_are equalities c.args.at miss c.items.result.now c.items-2.result.now c.in_ok-fractions.fractions form c.items-2.ensures value in
    let times = times_are equalities c.args.at miss c.args.negative c.items-3.result.now c.in_ok-times.times.items fractions c.in_ok-times.ensures.value in
    made_by_times (length miss.row) equalities c.args.at miss c.row_gap.result c.in_ok-times.times.items (all_times equalities c.args.at miss c.args.negative) times c.row_gap.ensures.made
