-- How the places of a search change from call to call.
use Rattle.std.specs.Prelude.{◌≡◌, ℤ, List, length, Option}
use Rattle.whole_rows.specs.WholeRows.{WholeRows}
use Rattle.farkas_rows.specs.declared.path.Slice.{Slice}
use Rattle.exact_nodes.specs.PathExcuses.{IsExcusedIn}
use Rattle.slice_branch.specs.Places.{IsSlicePlace}
use Rattle.slice_branch.specs.PlainPlaces.{IsPlainPlace}
use Rattle.slice_branch.specs.declared.place.Place.{Place}
use Rattle.slice_branch.specs.declared.place.Place.TheVariants.{Settled, Framed, Plain}

-- What a place is after its node was worked under a best value. Only a node with a frame changes its kind: it keeps its frame, or is split by single columns
-- from here on, by an excuse that holds of it in that frame below that value.
abbrev pub Becomes : WholeRows → Place → Place → List Slice → Option ℤ → Type 0
Becomes rows (Settled move) after path best = after ≡ Settled move
Becomes rows (Plain node) after path best = after ≡ Plain node
Becomes rows (Framed node) (Settled move) path best = ⊥
Becomes rows (Framed node) (Framed kept) path best = (kept.frame ≡ node.frame) × (kept.depth ≡ node.depth)
Becomes rows (Framed node) (Plain plain) path best = (plain.depth ≡ length path) × IsExcusedIn rows path best node.frame plain.excuse.value

-- With what place the slice of a node begins on which the form has the value: one with a frame, or with the excuse of this slice of the node's frame; below a
-- node that is split by single columns, with that node's own excuse.
abbrev pub Begins : WholeRows → Place → List Slice → List ℤ → ℤ → Place → Type 0
Begins rows (Settled move) path form value child = ⊥
Begins rows (Framed node) path form value child = IsSlicePlace rows node path (record { form = form; beta = value }) child
Begins rows (Plain node) path form value child = IsPlainPlace node.excuse.value node.depth child
