use Rattle.std.proofs.Common.{◌≡◌, ◌-◌, false, pos, List, length, get_or, take, sym, ap, ap₂, subst, ◌∙◌, arith, All}
use Rattle.std.specs.List.Sorted.{IsStrictlyIncreasing}
use Rattle.std.proofs.lemmas.List.{length-take}
use Rattle.exact_math.specs.Rational.{ℚ, whole, ◌<ℚ◌}
use Rattle.exact_vectors.specs.Matrices.{HasWidth}
use Rattle.spaces.specs.Tables.{rows_in}
use Rattle.row_lifting.specs.Lifting.{none, lifted}
use Rattle.farkas_rows.specs.declared.fracs.FracUse.{FracUse}
use Rattle.farkas_rows.specs.declared.path.Slice.{Slice}
use Rattle.presolve_map.specs.LiftedLines.{numbers_of, IsWorkNumber}
use Rattle.reformulate.specs.Substitutions.{columns_of}
use Rattle.farkas_lift.specs.NodeLifting.{equality_forms, node_places, rest_form, side_forms, uses_of, weighted_sides}
use Rattle.farkas_lift.specs.NodeSides.{node_sides}
use Rattle.farkas_lift.specs.declared.place.Place.{Place}
use Rattle.farkas_lift.proofs.LiftSteps.{lifted-comes, sides_many, wide_rows}
use Rattle.farkas_lift.proofs.NodePlaces.{numbers-rise, numbers-work, times-positive}
use Rattle.farkas_lift.proofs.lifting.lift.Goals as goal

pub side_grid-requires-clause-few : goal.side_grid-requires-clause-few
side_grid-requires-clause-few c = omega (arith, ap length (c.deref.ensures.value ∙ c.truncate.ensures.items), length-take (length c.args.weights.now) c.in_ok-sides.sides.items, c.in_ok-sides.ensures.few)

pub returns-clause-items : goal.returns-clause-items
returns-clause-items c =
    let model = c.args.model.now in
    let rows = c.args.rows.now in
    let path = c.args.path.now in
    let weights = c.args.weights.now in
    let times = c.in_ok-times.times in
    let uses : c.from_vec.result ≡ uses_of (node_places c.args.model.now c.args.rows.now (length c.args.path.now)) c.args.weights.now c.in_ok-times.times =
    c.from_vec.ensures
    ∙ c.in_ok-uses.ensures
    ∙ ap₂ (λ (p : List Place) (t : List ℚ). uses_of p c.args.weights.now t) (c.deref-2.ensures.value ∙ c.in_ok-places.ensures.value ∙ ap (λ (p : List Slice). node_places c.args.model.now c.args.rows.now (length p)) c.items-slices.ensures) c.items.ensures in
    let forms : rows_in c.in_ok-forms.forms ≡ side_forms c.args.rows.now (weighted_sides c.args.rows.now c.args.weights.now) = c.in_ok-forms.ensures.rows ∙ ap (side_forms rows) (c.deref.ensures.value ∙ c.truncate.ensures.items ∙ ap (take (length weights)) c.in_ok-sides.ensures.value) in
    let row : c.in_ok-rest.rest.items ≡ rest_form c.args.frame.now (side_forms c.args.rows.now (weighted_sides c.args.rows.now c.args.weights.now)) c.args.weights.now = c.in_ok-rest.ensures.value ∙ ap (λ l. rest_form c.args.frame.now l weights) forms in
    uses ∙ ap (uses_of (node_places model rows (length path)) weights) (c.in_ok-times.ensures.value ∙ ap (lifted (equality_forms rows path)) row)

pub returns-clause-numbers : goal.returns-clause-numbers
returns-clause-numbers c =
    let model = c.args.model.now in
    let rows = c.args.rows.now in
    let path = c.args.path.now in
    let weights = c.args.weights.now in
    let times = c.in_ok-times.times in
    let uses : c.from_vec.result ≡ uses_of (node_places c.args.model.now c.args.rows.now (length c.args.path.now)) c.args.weights.now c.in_ok-times.times =
    c.from_vec.ensures
    ∙ c.in_ok-uses.ensures
    ∙ ap₂ (λ (p : List Place) (t : List ℚ). uses_of p c.args.weights.now t) (c.deref-2.ensures.value ∙ c.in_ok-places.ensures.value ∙ ap (λ (p : List Slice). node_places c.args.model.now c.args.rows.now (length p)) c.items-slices.ensures) c.items.ensures in
    subst (All (λ (item : FracUse). IsWorkNumber c.args.model.now item.index)) (sym uses) (numbers-work model rows c.in_ok-places.ensures.limits c.requires.reduced (length path) weights times c.requires.not_negative)

pub returns-clause-rising : goal.returns-clause-rising
returns-clause-rising c =
    let model = c.args.model.now in
    let rows = c.args.rows.now in
    let path = c.args.path.now in
    let weights = c.args.weights.now in
    let times = c.in_ok-times.times in
    let uses : c.from_vec.result ≡ uses_of (node_places c.args.model.now c.args.rows.now (length c.args.path.now)) c.args.weights.now c.in_ok-times.times =
    c.from_vec.ensures
    ∙ c.in_ok-uses.ensures
    ∙ ap₂ (λ (p : List Place) (t : List ℚ). uses_of p c.args.weights.now t) (c.deref-2.ensures.value ∙ c.in_ok-places.ensures.value ∙ ap (λ (p : List Slice). node_places c.args.model.now c.args.rows.now (length p)) c.items-slices.ensures) c.items.ensures in
    subst (λ l. IsStrictlyIncreasing (numbers_of l)) (sym uses) (numbers-rise model rows c.in_ok-places.ensures.limits c.requires.reduced (length path) weights times)

pub returns-clause-positive : goal.returns-clause-positive
returns-clause-positive c =
    let model = c.args.model.now in
    let rows = c.args.rows.now in
    let path = c.args.path.now in
    let weights = c.args.weights.now in
    let times = c.in_ok-times.times in
    let uses : c.from_vec.result ≡ uses_of (node_places c.args.model.now c.args.rows.now (length c.args.path.now)) c.args.weights.now c.in_ok-times.times =
    c.from_vec.ensures
    ∙ c.in_ok-uses.ensures
    ∙ ap₂ (λ (p : List Place) (t : List ℚ). uses_of p c.args.weights.now t) (c.deref-2.ensures.value ∙ c.in_ok-places.ensures.value ∙ ap (λ (p : List Slice). node_places c.args.model.now c.args.rows.now (length p)) c.items-slices.ensures) c.items.ensures in
    subst (All (λ (item : FracUse). whole (pos 0) <ℚ item.times)) (sym uses) (times-positive model rows c.in_ok-places.ensures.limits c.requires.reduced (length path) weights times c.requires.not_negative)

pub returns-clause-comes : goal.returns-clause-comes
returns-clause-comes c =
    let model = c.args.model.now in
    let rows = c.args.rows.now in
    let path = c.args.path.now in
    let weights = c.args.weights.now in
    let times = c.in_ok-times.times in
    let uses : c.from_vec.result ≡ uses_of (node_places c.args.model.now c.args.rows.now (length c.args.path.now)) c.args.weights.now c.in_ok-times.times =
    c.from_vec.ensures
    ∙ c.in_ok-uses.ensures
    ∙ ap₂ (λ (p : List Place) (t : List ℚ). uses_of p c.args.weights.now t) (c.deref-2.ensures.value ∙ c.in_ok-places.ensures.value ∙ ap (λ (p : List Slice). node_places c.args.model.now c.args.rows.now (length p)) c.items-slices.ensures) c.items.ensures in
    let forms : rows_in c.in_ok-forms.forms ≡ side_forms c.args.rows.now (weighted_sides c.args.rows.now c.args.weights.now) = c.in_ok-forms.ensures.rows ∙ ap (side_forms rows) (c.deref.ensures.value ∙ c.truncate.ensures.items ∙ ap (take (length weights)) c.in_ok-sides.ensures.value) in
    let row : c.in_ok-rest.rest.items ≡ rest_form c.args.frame.now (side_forms c.args.rows.now (weighted_sides c.args.rows.now c.args.weights.now)) c.args.weights.now = c.in_ok-rest.ensures.value ∙ ap (λ l. rest_form c.args.frame.now l weights) forms in
    let place : c.len.result - 1 ≡ length (node_sides c.args.rows.now false) = omega (arith, c.len.ensures, c.in_ok-sides.sides.ok.0, ap length c.in_ok-sides.ensures.value, sides_many rows) in
    let cut : c.weight_at-cut.result ≡ get_or c.args.weights.now (length (node_sides c.args.rows.now false)) none = c.weight_at-cut.ensures ∙ ap (λ k. get_or weights k none) place in
    let wide : HasWidth (columns_of c.args.frame.now) (side_forms c.args.rows.now (weighted_sides c.args.rows.now c.args.weights.now)) =
    wide_rows c.in_ok-forms.forms (columns_of c.args.frame.now) (side_forms rows (weighted_sides rows weights)) c.in_ok-forms.ensures.size (c.in_ok-forms.ensures.width ∙ sym c.requires.columns) forms in
    let dense : HasWidth (columns_of c.args.frame.now) (equality_forms c.args.rows.now c.args.path.now) = subst (λ n. HasWidth n (equality_forms rows path)) (sym c.requires.columns) c.in_ok-times.ensures.dense in
    lifted-comes model c.args.frame.now rows path weights times c.in_ok-rest.rest.items c.weight_at-cut.result c.from_vec.result c.in_ok-places.ensures.limits c.requires.reduced c.in_ok-rest.ensures.shaped c.requires.columns c.requires.frame c.requires.kept c.requires.one_each wide dense row c.in_ok-times.ensures.sums cut uses
