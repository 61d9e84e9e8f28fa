use Rattle.std.proofs.Common.{◌≡◌, ℕ, ◌+◌, ◌*◌, ◌∷◌, [], ◌++◌, length, sym, ap, ap₂, subst, ◌∙◌, All}
use Rattle.farkas_lift.specs.Joined.{joined}
use Rattle.farkas_lift.specs.NodeLifting.{row_places, column_places, slice_place, node_places, HasRoom}
use Rattle.farkas_lift.specs.declared.place.Place.TheVariants.{Equality}
use Rattle.farkas_lift.proofs.JoinedLaws.{three_parts}
use Rattle.farkas_lift.proofs.NodePlaces.{places-room}
use Rattle.farkas_lift.proofs.place.node_places.Goals as goal

pub returns-clause-value : goal.returns-clause-value
returns-clause-value c =
    let model = c.args.model.now in
    let rows = c.args.rows.now in
    let before : c.rows.result + c.columns.result ≡ length c.args.model.now.rows + length c.args.model.now.box = ap₂ (λ (a b : ℕ). a + b) c.rows.ensures.count c.columns.ensures.count in
    three_parts (joined (row_places rows) (length rows.rows.rows)) (joined (column_places model rows) (length rows.rows.box)) (joined (slice_place model) c.args.slices) c.append_rows.new.places.items c.append_columns.new.places.items c.append_slices.new.places.items
    (c.in_ok-append_rows.ensures ∙ ap (λ l. l ++ joined (row_places rows) (length rows.rows.rows)) c.in_ok-places.ensures.items)
    c.in_ok-append_columns.ensures
    (c.in_ok-append_slices.ensures ∙ ap (λ (b : ℕ). c.append_columns.new.places.items ++ joined (λ (k : ℕ). Equality (2 * (b + k)) ∷ []) c.args.slices) before)

pub returns-clause-room : goal.returns-clause-room
returns-clause-room c =
    let model = c.args.model.now in
    let rows = c.args.rows.now in
    let before : c.rows.result + c.columns.result ≡ length c.args.model.now.rows + length c.args.model.now.box = ap₂ (λ (a b : ℕ). a + b) c.rows.ensures.count c.columns.ensures.count in
    let value : c.append_slices.new.places.items ≡ node_places c.args.model.now c.args.rows.now c.args.slices =
    three_parts (joined (row_places rows) (length rows.rows.rows)) (joined (column_places model rows) (length rows.rows.box)) (joined (slice_place model) c.args.slices) c.append_rows.new.places.items c.append_columns.new.places.items c.append_slices.new.places.items
    (c.in_ok-append_rows.ensures ∙ ap (λ l. l ++ joined (row_places rows) (length rows.rows.rows)) c.in_ok-places.ensures.items)
    c.in_ok-append_columns.ensures
    (c.in_ok-append_slices.ensures ∙ ap (λ (b : ℕ). c.append_columns.new.places.items ++ joined (λ (k : ℕ). Equality (2 * (b + k)) ∷ []) c.args.slices) before) in
    subst (All HasRoom) (sym value) (places-room model rows c.rows.ensures.limits c.requires.reduced c.args.slices c.requires.short)
