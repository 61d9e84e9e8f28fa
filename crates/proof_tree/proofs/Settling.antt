-- What a move of a node says where its rows, path, best value and kind are known by other names.
use Rattle.std.proofs.Common.{◌≡◌, ℕ, ◌<◌, Bool, ℤ, List}
use Rattle.std.specs.Prelude.{Option, Some}
use Rattle.whole_rows.specs.WholeRows.{WholeRows, IsWithinLimits, cut_value}
use Rattle.farkas_rows.specs.declared.path.Slice.{Slice}
use Rattle.proof_tree.specs.declared.tree.Move.{Move}
use Rattle.proof_tree.specs.declared.tree.Move.TheVariants.{Point}
use Rattle.proof_tree.specs.declared.walk.Walk.{Walk}
use Rattle.proof_tree.specs.Moves.{IsMove, Improves}
use Rattle.proof_tree.specs.Search.{value_of_best, Settles}
use Rattle.proof_tree.proofs.Values.{room_below, room_below-falls}

-- a move that settles a node
pub settles-from : {Place : Type 0} (stands : WholeRows → Place → List Slice → Option ℤ → Type 0) (height : WholeRows → Place → List Slice → ℕ) (is_plain : Place → Bool) (allows : WholeRows → List Slice → Option ℤ → Move → Type 0) (place : Place) (rows rows' : WholeRows) (path path' : List Slice) (best best' : Option ℤ) (move move' : Move) → rows ≡ rows' → path ≡ path' → best ≡ best' → move ≡ move' → IsMove rows path best (height rows place path) (is_plain place) move → allows rows path best move → Settles stands height is_plain allows rows' path' best' place move'
settles-from stands height is_plain allows place rows rows' path path' best best' move move' e k m n chosen allowed = record {
  chosen = rw (← e, ← k, ← m, ← n) chosen;
  allowed = rw (← e, ← k, ← m, ← n) allowed;
}

-- a point that was found
pub improves-from : (rows rows' : WholeRows) (path path' : List Slice) (best best' : Option ℤ) (height : ℕ) (plain : Bool) (move : Move) (x : List ℤ) → rows ≡ rows' → path ≡ path' → best ≡ best' → move ≡ Point x → IsMove rows path best height plain move → Improves rows' best' path' x
improves-from rows rows' path path' best best' height plain move x e k m n chosen = rw (← e, ← k, ← m) (rw n at chosen)

-- the room falls
pub room-after : (rows : WholeRows) (path : List Slice) (before after : Walk) (x : List ℤ) → IsWithinLimits rows → Improves rows (value_of_best before.best) path x → after ≡ record before { best = Some (record { point = x; value = cut_value rows x }) } → room_below (value_of_best after.best) < room_below (value_of_best before.best)
room-after rows path before after x limits improves e = rw e (room_below-falls rows x (value_of_best before.best) limits improves.meets improves.better)
