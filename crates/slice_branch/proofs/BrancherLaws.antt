-- What a brancher's places say of nodes.
use Rattle.std.proofs.Common.{◌≡◌, ℕ, ◌+◌, ◌-◌, ◌*◌, ◌^◌, ◌≤◌, ℤ, pos, ◌+ℤ◌, ◌≤ℤ◌, ◌<ℤ◌, false, true, List, [], ◌∷◌, length, refl, subst, sym, ap, ◌∙◌, arith}
use Rattle.std.specs.Prelude.{Option}
use Rattle.exact_math.specs.IntegerRing.{linear}
use Rattle.whole_rows.specs.WholeRows.{WholeRows}
use Rattle.farkas_rows.specs.declared.path.Slice.{Slice}
use Rattle.proof_tree.specs.declared.tree.Cut.{Cut}
use Rattle.proof_tree.specs.declared.tree.Mark.TheVariants as marks
use Rattle.proof_tree.specs.declared.tree.Move.TheVariants as moves
use Rattle.proof_tree.specs.Trees.{IsShort, on_slice}
use Rattle.proof_tree.specs.Moves.{widest, Branches, IsChildOf, IsMove}
use Rattle.plain_slices.specs.PlainMoves.{IsPlainMove}
use Rattle.exact_nodes.specs.ThinMoves.{IsThinAlong, IsThinBy, IsThinMove}
use Rattle.exact_nodes.specs.ThinMoves.IsThinBy.{gap, along}
use Rattle.node_slices.specs.SliceNodes.{IsSlicedNode}
use Rattle.slice_branch.specs.declared.place.Node.{Node}
use Rattle.slice_branch.specs.declared.place.Place.{Place}
use Rattle.slice_branch.specs.declared.place.PlainNode.{PlainNode}
use Rattle.slice_branch.specs.declared.place.Place.TheVariants.{Settled, Framed, Plain}
use Rattle.exact_nodes.specs.PathExcuses.{IsExcusedAbove, IsExcusedIn}
use Rattle.exact_nodes.specs.PathExcuses.IsExcused.{framed}
use Rattle.exact_nodes.specs.declared.excuse.Excuse.{Excuse}
use Rattle.slice_branch.specs.ExcusedPaths.{excused_below, excused_here, excused_slice}
use Rattle.slice_branch.specs.PlainPlaces.{IsPlainPlace}
use Rattle.slice_branch.specs.Framed.{IsAllowed, IsMarked}
use Rattle.slice_branch.specs.Places.{height_of, is_plain_place, IsFramedPlace, IsPathWithin, IsPlainFrom, IsSlicePlace, StandsFor}
use Rattle.slice_branch.proofs.PlaceLaws.{begins_plain, longer, lower_framed, size, turns_plain, widest_is_small, within_slice}
use Rattle.slice_branch.proofs.PlaceLaws as place_laws
use Rattle.slice_branch.proofs.PlainLaws.{below_plain, lower_plain}

module _ (rows : WholeRows) (path : List Slice) (best : Option ℤ) where
  -- the path of a place keeps the limits
  pub within_of : (place : Place) → StandsFor rows place path best → IsPathWithin rows path
  within_of (Settled move) here = here.1.0
  within_of (Framed node) here = here.1.within
  within_of (Plain node) here = here.1.0.within

  pub short_of : (place : Place) → StandsFor rows place path best → IsShort rows path
  short_of (Settled move) here = omega (arith, ap length here.1.1)
  short_of (Framed node) here = let s = here.1.short in omega (arith, s)
  short_of (Plain node) here = let s = here.1.0.short in let e = here.1.0.early in omega (arith, s, e)

  pub small_of : (place : Place) → StandsFor rows place path best → widest rows.box ≤ 2 ^ 97
  small_of place here = widest_is_small rows.box (within_of place here).limits.light.reaches

-- a node with the same frame, to which as many slices lead
pub kept_node : (rows : WholeRows) (path : List Slice) (old new : Node) → new.depth ≡ old.depth → new.frame ≡ old.frame → IsFramedPlace rows old path → IsFramedPlace rows new path
kept_node rows path old new depth frame here = record {
  within = here.within;
  not_closed = here.not_closed;
  depth = here.depth ∙ sym depth;
  of_node = rw frame here.of_node;
  short = rw frame here.short;
}

-- a node with a frame becomes the first that is split by single columns, no higher
pub turned : (rows : WholeRows) (path : List Slice) (node : Node) → IsFramedPlace rows node path → IsPlainFrom rows (length path) path
turned rows path node here = turns_plain rows path here.within (let s = here.short in omega (arith, s))

pub turned_lower : (rows : WholeRows) (path : List Slice) (node : Node) → IsFramedPlace rows node path → (length path + length rows.box) - length path ≤ 2 * length rows.box - length path
turned_lower rows path node here = let s = here.short in omega (arith, s)

-- the excuse of such a node stands for its path, and so does the place that keeps it
pub excused_node : (rows : WholeRows) (path : List Slice) (best : Option ℤ) (node : Node) (excuse : Excuse) → StandsFor rows (Framed node) path best → IsExcusedIn rows path best node.frame excuse → IsExcusedAbove rows path best excuse
excused_node rows path best node excuse here excused = excused_here rows path best excuse here.0 (framed node.frame excused)

pub excused_place : (rows : WholeRows) (path : List Slice) (best : Option ℤ) (node : Node) (excuse : Excuse) (depth : ℕ) (place : Place) → StandsFor rows (Framed node) path best → IsExcusedIn rows path best node.frame excuse → depth ≡ length path → IsPlainPlace excuse depth place → StandsFor rows place path best
excused_place rows path best node excuse depth (Settled move) here excused deep is = absurd is
excused_place rows path best node excuse depth (Framed other) here excused deep is = absurd is
excused_place rows path best node excuse depth (Plain plain) here excused deep is = (
  here.0,
  (
    subst (λ d. IsPlainFrom rows d path) (sym (is.1 ∙ deep)) (turned rows path node here.1),
    subst (IsExcusedAbove rows path best) (sym is.0) (excused_node rows path best node excuse here excused),
  ),
)

-- the mark of a split that is chosen at a place
thin_mark : (rows : WholeRows) (path : List Slice) (best : Option ℤ) (cut : Cut) (height : ℕ) → IsMove rows path best height false (moves.Split cut) → IsMarked rows path best cut cut.mark → IsThinMove rows path best cut
thin_mark rows path best cut height chosen marked = by_mark cut.mark refl marked where
  by_mark : (mark : _) → cut.mark ≡ mark → IsMarked rows path best cut mark → IsThinMove rows path best cut
  by_mark marks.Thin is m = m
  by_mark marks.Plain is m = absurd (cc (chosen.2.0 is))

plain_mark : (rows : WholeRows) (path : List Slice) (best : Option ℤ) (cut : Cut) (height : ℕ) → IsMove rows path best height true (moves.Split cut) → IsMarked rows path best cut cut.mark → IsPlainMove rows path best cut
plain_mark rows path best cut height chosen marked = let m = subst (IsMarked rows path best cut) (chosen.2.1 refl) marked in m.0

-- a thin split with a slice is along a direction
thin_with_slice : (rows : WholeRows) (path : List Slice) (best : Option ℤ) (cut : Cut) → pos 1 ≤ℤ cut.count → IsThinBy rows path best cut → IsThinAlong rows path best cut
thin_with_slice rows path best cut some (gap h) = absurd (omega (linear, h.none, some))
thin_with_slice rows path best cut some (along h) = h

module _ (rows : WholeRows) (cut : Cut) (j : ℤ) (first : pos 0 ≤ℤ j) (last : j <ℤ cut.count) (path : List Slice) (best : Option ℤ) where
  abbrev Below : Place → Place → Type 0
  Below parent child = IsChildOf StandsFor height_of is_plain_place rows parent path cut.form (cut.lo +ℤ j) child

  abbrev At : Place → Type 0
  At parent = Branches StandsFor height_of is_plain_place IsAllowed rows parent cut path best

  -- a settled root has no slices
  pub settled_ends : (move : _) → At (Settled move) → ⊥
  settled_ends move b = let h = b.chosen.1 (omega (linear, first, last)) in omega (arith, h)

  -- the slices of a plain place
  pub plain_child : (node : PlainNode) (child : Place) → IsPlainPlace node.excuse.value node.depth child → At (Plain node) → Below (Plain node) child
  plain_child node (Settled move) is b = absurd is
  plain_child node (Framed child) is b = absurd is
  plain_child node (Plain child) is b =
      let move = plain_mark rows path best cut (height_of rows (Plain node) path) b.chosen b.allowed.1 in
      let slice : List Slice = record { form = cut.form; beta = cut.lo +ℤ j } ∷ [] in
      record {
        here = λ other plain. (
          plain.0,
          (
            subst (λ d. IsPlainFrom rows d (on_slice path cut.form (cut.lo +ℤ j))) (sym is.1) (below_plain rows node.depth path plain.1.0 best cut j move b.allowed.0 first last),
            subst (λ (e : Excuse). IsExcusedAbove rows (on_slice path cut.form (cut.lo +ℤ j)) other e) (sym is.0) (excused_below rows path slice other node.excuse.value plain.1.1),
          ),
        );
        lower = subst (λ d. ((d + length rows.box) - length (on_slice path cut.form (cut.lo +ℤ j))) + 1 ≤ (node.depth + length rows.box) - length path) (sym is.1) (lower_plain rows node.depth path b.here.1.0 best cut j move b.allowed.0 first last);
        plain = λ h. refl;
      }

  -- the node of a slice of a node with a frame
  pub sliced_node : (node : Node) → At (Framed node) → IsSlicedNode rows node.frame cut.form (cut.lo +ℤ j) path
  sliced_node node b =
      let thin = thin_mark rows path best cut (height_of rows (Framed node) path) b.chosen b.allowed.1 in
      let along_it = thin_with_slice rows path best cut (omega (linear, first, last)) thin.cause in
      record {
        of_node = b.here.1.of_node;
        kept = along_it.kept;
        primitive = record { frame = along_it.frame; of_node = along_it.of_node; primitive = along_it.direction.primitive };
        light = b.allowed.0.form.light;
        size = size rows path best cut j b.here.1.within b.allowed.0 first last;
      }

  -- and its place
  pub framed_child : (node : Node) (child : Place) → IsSlicePlace rows node path (record { form = cut.form; beta = cut.lo +ℤ j }) child → At (Framed node) → Below (Framed node) child
  framed_child node (Settled move) is b = absurd is
  framed_child node (Framed child) is b =
      let thin = thin_mark rows path best cut (height_of rows (Framed node) path) b.chosen b.allowed.1 in
      let more = longer rows path best cut j b.here.1.within b.allowed.0 first last in
      record {
        here = λ other framed. (
          framed.0,
          record {
            within = within_slice rows path best cut j framed.1.within b.allowed.0 first last;
            not_closed = framed.1.not_closed;
            depth = let d = framed.1.depth in omega (arith, more, d, is.0);
            of_node = is.1;
            short = let s = framed.1.short in omega (arith, more, s, is.2);
          },
        );
        lower = lower_framed rows path best cut j b.here.1.within b.allowed.0 first last thin;
        plain = λ h. absurd (cc h);
      }
  framed_child node (Plain child) is b =
      let thin = thin_mark rows path best cut (height_of rows (Framed node) path) b.chosen b.allowed.1 in
      let deeper : child.depth ≡ length path + 1 = let d = b.here.1.depth in omega (arith, d, is.0) in
      record {
        here = λ other framed. (
          framed.0,
          (
            subst (λ d. IsPlainFrom rows d (on_slice path cut.form (cut.lo +ℤ j))) (sym deeper) (begins_plain rows path best cut j framed.1.within b.allowed.0 first last thin),
            excused_slice rows path node.frame (record { form = cut.form; beta = cut.lo +ℤ j }) child.excuse.value is.1 other,
          ),
        );
        lower = subst (λ d. ((d + length rows.box) - length (on_slice path cut.form (cut.lo +ℤ j))) + 1 ≤ 2 * length rows.box - length path) (sym deeper) (place_laws.lower_plain rows path best cut j b.here.1.within b.allowed.0 first last thin);
        plain = λ h. refl;
      }
