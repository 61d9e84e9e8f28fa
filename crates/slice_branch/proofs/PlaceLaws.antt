-- Nodes that are split along thin directions.
use Rattle.std.proofs.Common.{◌≡◌, ℕ, ◌+◌, ◌-◌, ◌*◌, ◌^◌, ◌≤◌, ℤ, pos, negsuc, neg_ℤ, ◌+ℤ◌, ◌-ℤ◌, ◌≤ℤ◌, ◌<ℤ◌, false, List, [], ◌∷◌, length, refl, subst, sym, arith}
use Rattle.std.specs.Prelude.{Option, None, All, nat_abs, Result, Ok, Err, IfOk, FitsSigned}
use Rattle.std.specs.Int.{w128}
use Rattle.std.proofs.lemmas.Int.{fits_signed_from_abs}
use Rattle.std.proofs.lemmas.List.Elements.{All-nil, All-head, All-tail}
use Rattle.std.proofs.lemmas.List.{length_push}
use Rattle.exact_math.specs.IntegerRing.{linear}
use Rattle.whole_rows.specs.declared.bounds.Bounds.{Bounds}
use Rattle.whole_rows.specs.WholeRows.{WholeRows, IsWithinLimits, reach, span}
use Rattle.farkas_rows.specs.declared.path.Slice.{Slice}
use Rattle.proof_tree.specs.declared.tree.Cut.{Cut}
use Rattle.proof_tree.specs.declared.tree.Mark.TheVariants.{Thin}
use Rattle.proof_tree.specs.declared.tree.Move.{Move}
use Rattle.proof_tree.specs.declared.tree.Move.TheVariants.{Close, Split, Point}
use Rattle.proof_tree.specs.Trees.{IsOfSize, on_slice}
use Rattle.proof_tree.specs.Moves.{widest, nonnegative_part, SplitsUnder, IsMove, IsValueOfPoint}
use Rattle.exact_nodes.specs.ThinMoves.{IsThinMove}
use Rattle.exact_nodes.specs.ThinMoves.IsThinBy.{gap}
use Rattle.root_gaps.specs.GapMoves.{IsGapMove}
use Rattle.root_gaps.specs.declared.outcome.GapMove.TheVariants as gap_moves
use Rattle.slice_branch.specs.ExcusedPaths.{excused_here}
use Rattle.slice_branch.specs.Framed.{IsFramedMove, IsAllowed, IsMarked}
use Rattle.node_search.specs.declared.directions.ends.Direction.{Direction}
use Rattle.slice_branch.specs.declared.place.Place.{Place}
use Rattle.slice_branch.specs.declared.place.Place.TheVariants as places
use Rattle.slice_branch.specs.ClosedEnds.{HasClosedEnds}
use Rattle.slice_branch.specs.declared.place.Settled.{Settled}
use Rattle.slice_branch.specs.declared.place.Settled.TheVariants.{Closed, Gap}
use Rattle.slice_branch.specs.Places.{IsPathWithin, IsPlainFrom, IsRootPlace, IsSettledBy, StandsFor}
use Rattle.slice_branch.specs.Settling.{move_of}
use Rattle.slice_branch.proofs.PlainLaws.{within-more}

module _ (rows : WholeRows) (path : List Slice) (best : Option ℤ) where
  -- a move along a thin direction is one of the node
  pub move_of_framed : (move : Move) → IsFramedMove rows path best move → IsMove rows path best (2 * length rows.box - length path) false move
  move_of_framed (Close line) h = h
  move_of_framed (Split cut) h = (h.0, (λ some. let d = h.1.short some in omega (arith, d)), ((λ plain. absurd (cc (h.2, plain))), (λ t. absurd (cc t))))
  move_of_framed (Point x) h = h

  -- and is allowed
  pub framed_is_allowed : IsValueOfPoint rows best → (move : Move) → IsFramedMove rows path best move → IsAllowed rows path best move
  framed_is_allowed value (Close line) h = h
  framed_is_allowed value (Split cut) h = (h.0, subst (IsMarked rows path best cut) (sym h.2) h.1, value)
  framed_is_allowed value (Point x) h = h

-- so is the move that settles a root
module _ (rows : WholeRows) (best : Option ℤ) where
  gap_thin : (cut : Cut) → IsGapMove rows best (gap_moves.Split cut) → IsThinMove rows [] best cut
  gap_thin cut h = record { short = λ some. absurd (omega (linear, h.1.none, some)); cause = gap h.1 }

  settled_chosen : (settled : Settled) → IsSettledBy rows settled → IsMove rows [] best 0 false (move_of settled)
  settled_chosen (Closed line) h = h.1 best
  settled_chosen (Gap cut) h = let g = h best in (g.0, (λ some. absurd (omega (linear, g.1.none, some))), ((λ plain. absurd (cc (g.2, plain))), (λ t. absurd (cc t))))

  settled_allowed : IsValueOfPoint rows best → (settled : Settled) → IsSettledBy rows settled → IsAllowed rows [] best (move_of settled)
  settled_allowed value (Closed line) h = h.1 best
  settled_allowed value (Gap cut) h = let g = h best in (g.0, subst (IsMarked rows [] best cut) (sym g.2) (gap_thin cut g), value)

  module _ (path : List Slice) (root : path ≡ []) (settled : Settled) (is : IsSettledBy rows settled) where
    pub chosen_at_root : IsMove rows path best 0 false (move_of settled)
    chosen_at_root = subst (λ (p : List Slice). IsMove rows p best 0 false (move_of settled)) (sym root) (settled_chosen settled is)

    pub allowed_at_root : IsValueOfPoint rows best → IsAllowed rows path best (move_of settled)
    allowed_at_root value = subst (λ (p : List Slice). IsAllowed rows p best (move_of settled)) (sym root) (settled_allowed value settled is)

-- the difference between two bounds within the limits
difference : (b : Bounds) → reach b ≤ 2 ^ 96 → (b.high -ℤ b.low) ≤ℤ pos (2 ^ 97)
difference b h =
    let low : nat_abs b.low ≤ 2 ^ 96 = omega arith in
    let high : nat_abs b.high ≤ 2 ^ 96 = omega arith in
    omega linear

part_is_small : (z : ℤ) → z ≤ℤ pos (2 ^ 97) → nonnegative_part z ≤ 2 ^ 97
part_is_small (pos n) h = omega (linear, h)
part_is_small (negsuc n) h = omega arith

-- no column is wider than twice the limit
pub widest_is_small : (box : List Bounds) → All (λ (b : Bounds). reach b ≤ 2 ^ 96) box → widest box ≤ 2 ^ 97
widest_is_small [] h = omega arith
widest_is_small (b ∷ box) h =
    let first = part_is_small (b.high -ℤ b.low) (difference b (All-head (λ (b : Bounds). reach b ≤ 2 ^ 96) b box h)) in
    let rest = widest_is_small box (All-tail (λ (b : Bounds). reach b ≤ 2 ^ 96) b box h) in
    omega (arith, first, rest)

module _ (rows : WholeRows) (path : List Slice) (best : Option ℤ) (cut : Cut) (j : ℤ) (within : IsPathWithin rows path) (splits : SplitsUnder rows best path cut) (first : pos 0 ≤ℤ j) (last : j <ℤ cut.count) where
  pub size : IsOfSize (2 ^ 98) (cut.lo +ℤ j)
  size =
      let wide = widest_is_small rows.box within.limits.light.reaches in
      (omega (linear, first, splits.lo.0), omega (linear, last, splits.lo.1, splits.narrow, wide))

  -- a slice of a split within the limits keeps them
  pub within_slice : IsPathWithin rows (on_slice path cut.form (cut.lo +ℤ j))
  within_slice = within-more rows path cut.form (cut.lo +ℤ j) within splits.form.dense splits.form.light size

  pub longer : length (on_slice path cut.form (cut.lo +ℤ j)) ≡ length path + 1
  longer = length_push path (record { form = cut.form; beta = cut.lo +ℤ j })

  some : pos 1 ≤ℤ cut.count
  some = omega (linear, first, last)

  module _ (thin : IsThinMove rows path best cut) where
    -- the first slice of a node that is split by single columns, below one that is split along a thin direction
    pub begins_plain : IsPlainFrom rows (length path + 1) (on_slice path cut.form (cut.lo +ℤ j))
    begins_plain = record {
      within = within_slice;
      early = let t = thin.short some in omega (arith, t);
      behind = omega (arith, longer);
      short = omega (arith, longer);
      fixed = λ column h. absurd (omega (arith, longer, h));
    }

    pub lower_framed : (2 * length rows.box - length (on_slice path cut.form (cut.lo +ℤ j))) + 1 ≤ 2 * length rows.box - length path
    lower_framed = let t = thin.short some in omega (arith, longer, t)

    pub lower_plain : (((length path + 1) + length rows.box) - length (on_slice path cut.form (cut.lo +ℤ j))) + 1 ≤ 2 * length rows.box - length path
    lower_plain = let t = thin.short some in omega (arith, longer, t)

-- a node that was split along thin directions becomes the first that is split by single columns
pub turns_plain : (rows : WholeRows) (path : List Slice) → IsPathWithin rows path → length path ≤ length rows.box → IsPlainFrom rows (length path) path
turns_plain rows path within few = record {
  within = within;
  early = few;
  behind = omega arith;
  short = omega arith;
  fixed = λ column h. absurd (omega (arith, h));
}

-- a direction that passes its checks makes a split
pub direction_splits : (rows : WholeRows) (path : List Slice) (best : Option ℤ) (d : Direction) → widest rows.box ≤ 2 ^ 97 → HasClosedEnds rows best path d → SplitsUnder rows best path (record { form = d.form; lo = d.lo; count = d.count; below = d.below; above = d.above; mark = Thin })
direction_splits rows path best d small h = record {
  form = h.form;
  lo = h.lo;
  count = (h.some, (let n = h.narrow in omega (linear, n, small)));
  narrow = h.narrow;
  below = h.below;
  above = h.above;
}

size_within : (z : ℤ) → neg_ℤ (pos (2 ^ 99)) ≤ℤ z → z ≤ℤ pos (2 ^ 99) → nat_abs z ≤ 2 ^ 99
size_within (pos n) low high = omega (linear, high)
size_within (negsuc n) low high = omega (linear, low)

-- the value behind the last slice has 128 bits
pub sum_fits : (lo count : ℤ) (w : ℕ) → neg_ℤ (pos (2 ^ 97)) ≤ℤ lo → lo ≤ℤ pos (2 ^ 97) → pos 0 ≤ℤ count → count ≤ℤ pos (w + 1) → w ≤ 2 ^ 97 → FitsSigned w128 (lo +ℤ count)
sum_fits lo count w a b d e f =
    let low : neg_ℤ (pos (2 ^ 99)) ≤ℤ (lo +ℤ count) = omega (linear, a, d) in
    let high : (lo +ℤ count) ≤ℤ pos (2 ^ 99) = omega (linear, b, e, f) in
    let size : nat_abs (lo +ℤ count) ≤ 2 ^ 99 = size_within (lo +ℤ count) low high in
    fits_signed_from_abs w128 (lo +ℤ count) (omega (arith, size))

-- so has each value of a slice
pub size_fits : (z : ℤ) → IsOfSize (2 ^ 98) z → FitsSigned w128 z
size_fits z h =
    let size : nat_abs z ≤ 2 ^ 99 = size_within z (omega (linear, h.0)) (omega (linear, h.1)) in
    fits_signed_from_abs w128 z (omega (arith, size))

-- the empty path
root_within : (rows : WholeRows) → IsWithinLimits rows → IsPathWithin rows []
root_within rows limits = record {
  limits = limits;
  forms = All-nil (λ (slice : Slice). length slice.form ≡ length rows.box);
  light = All-nil (λ (slice : Slice). span slice.form rows.box ≤ 2 ^ 96);
  values = All-nil (λ (slice : Slice). IsOfSize (2 ^ 98) slice.beta);
}

-- the place of a root stands for it
pub root_stands : (rows : WholeRows) → IsWithinLimits rows → (place : Place) → IsRootPlace rows place → StandsFor rows place [] None
root_stands rows limits (places.Settled move) h = (tt, (root_within rows limits, refl, h))
root_stands rows limits (places.Framed node) h = (
  tt,
  record {
    within = root_within rows limits;
    not_closed = h.1;
    depth = sym h.0;
    of_node = h.2;
    short = let d = h.3 in omega (arith, d);
  },
)
root_stands rows limits (places.Plain node) h = (tt, (subst (λ d. IsPlainFrom rows d []) (sym h.0) (turns_plain rows [] (root_within rows limits) (omega arith)), excused_here rows [] None node.excuse.value tt h.1))

-- what follows of a value follows of an answer
pub on_ok : {T E : Type 0} (P Q : T → Type 0) (result : Result T E) → ((value : T) → P value → Q value) → IfOk result P → IfOk result Q
on_ok P Q (Ok value) step holds = step value holds
on_ok P Q (Err e) step holds = tt
