-- What is pushed onto the open splits, and what is behind them.
use Rattle.std.proofs.Common.{◌≡◌, ℕ, zero, suc, ◌+◌, ◌*◌, ◌^◌, ◌<◌, ◌≤◌, ◌≢◌, ℤ, pos, neg_ℤ, ◌+ℤ◌, ◌≤ℤ◌, ◌<ℤ◌, Bool, true, false, List, [], ◌∷◌, ◌++◌, length, take, set, get_or, All, refl, sym, ap, subst, ◌∙◌, add-one, arith}
use Rattle.std.specs.Prelude.{if◌then◌else◌}
use Rattle.std.specs.Ordering.{int_eq}
use Rattle.std.proofs.lemmas.Bool.Decides.{Decides-int_eq}
use Rattle.std.proofs.lemmas.Int.{ints}
use Rattle.std.proofs.lemmas.List.{length-set, get_or-set_same, get_or-set_other, set-get_or, get_or_read}
use Rattle.std.proofs.lemmas.List.Elements.{All-cons, All-head, All-tail, All-set, All-get_or}
use Rattle.std.proofs.Math.Seq.{take-suc}
use mir.Syntax.{w128}
use mir.Val.{SFits}
use Rattle.farkas_rows.specs.declared.path.Slice.{Slice}
use Rattle.proof_text.specs.declared.claim.Claim.{Claim}
use Rattle.tree_checker.specs.Stages.{OpenSplit, at_node, path_of, behind}
use Rattle.tree_checker.specs.Stacks.{slice_at, split_at, splits_of, IsInHand, IsStack}

pub length-splits_of : (slices : List Slice) (ends : List ℤ) (depth : ℕ) → length (splits_of slices ends depth) ≡ depth
length-splits_of slices ends zero = refl
length-splits_of slices ends (suc depth) = ap suc (length-splits_of slices ends depth)

-- the path is what lies in front
pub path-splits_of : (slices : List Slice) (ends : List ℤ) (depth : ℕ) → depth ≤ length slices → path_of (splits_of slices ends depth) ≡ take depth slices
path-splits_of slices ends zero h = refl
path-splits_of slices ends (suc depth) h =
    ap (λ path. path ++ slice_at slices depth ∷ []) (path-splits_of slices ends depth (omega (arith, h))) ∙ sym (take-suc slices depth (record { form = []; beta = pos 0 }) (omega (arith, h)))

-- what is written behind the open splits does not change them
kept : (slices : List Slice) (ends : List ℤ) (i : ℕ) (slice : Slice) (until : ℤ) (depth : ℕ) → depth ≤ i → splits_of (set slices i slice) (set ends i until) depth ≡ splits_of slices ends depth
kept slices ends i slice until zero h = refl
kept slices ends i slice until (suc depth) h =
    let other : depth ≢ i = omega (arith, h) in
    let one : slice_at (set slices i slice) depth ≡ slice_at slices depth = get_or-set_other slices i depth slice (record { form = []; beta = pos 0 }) other in
    let two : get_or (set ends i until) depth (pos 0) ≡ get_or ends depth (pos 0) = get_or-set_other ends i depth until (pos 0) other in
    let rest = kept slices ends i slice until depth (omega (arith, h)) in
    let first : split_at (set slices i slice) (set ends i until) depth ≡ split_at slices ends depth = cc in
    cc

kept_ends : (slices : List Slice) (ends : List ℤ) (i : ℕ) (slice : Slice) (depth : ℕ) → depth ≤ i → splits_of (set slices i slice) ends depth ≡ splits_of slices ends depth
kept_ends slices ends i slice zero h = refl
kept_ends slices ends i slice (suc depth) h =
    let other : depth ≢ i = omega (arith, h) in
    let one : slice_at (set slices i slice) depth ≡ slice_at slices depth = get_or-set_other slices i depth slice (record { form = []; beta = pos 0 }) other in
    let rest = kept_ends slices ends i slice depth (omega (arith, h)) in
    let first : split_at (set slices i slice) ends depth ≡ split_at slices ends depth = cc in
    cc

abbrev made : Slice → ℤ → OpenSplit
made slice until = record { form = slice.form; value = slice.beta; until = until }

-- one split more
pub pushed : (slices : List Slice) (ends : List ℤ) (depth : ℕ) (slice : Slice) (until : ℤ) → depth < length slices → depth < length ends
    → splits_of (set slices depth slice) (set ends depth until) (suc depth) ≡ made slice until ∷ splits_of slices ends depth
pushed slices ends depth slice until h k =
    let one : slice_at (set slices depth slice) depth ≡ slice = get_or-set_same slices depth slice (record { form = []; beta = pos 0 }) h in
    let two : get_or (set ends depth until) depth (pos 0) ≡ until = get_or-set_same ends depth until (pos 0) k in
    let rest = kept slices ends depth slice until depth (omega arith) in
    let first : split_at (set slices depth slice) (set ends depth until) depth ≡ made slice until = cc in
    cc

-- another slice of the innermost split
pub stepped : (slices : List Slice) (ends : List ℤ) (depth : ℕ) (slice : Slice) → depth < length slices
    → splits_of (set slices depth slice) ends (suc depth) ≡ made slice (get_or ends depth (pos 0)) ∷ splits_of slices ends depth
stepped slices ends depth slice h =
    let one : slice_at (set slices depth slice) depth ≡ slice = get_or-set_same slices depth slice (record { form = []; beta = pos 0 }) h in
    let rest = kept_ends slices ends depth slice depth (omega arith) in
    let first : split_at (set slices depth slice) ends depth ≡ made slice (get_or ends depth (pos 0)) = cc in
    cc

module _ (columns : ℕ) (slices : List Slice) (ends : List ℤ) where
  pub stack_pushed : (depth : ℕ) (slice : Slice) (until : ℤ) → IsStack columns slices ends depth → depth < 2 * columns → length slice.form ≡ columns → neg_ℤ (pos (2 ^ 97)) ≤ℤ slice.beta → slice.beta <ℤ until → until ≤ℤ pos (2 ^ 99)
      → IsStack columns (set slices depth slice) (set ends depth until) (suc depth)
  stack_pushed depth slice until is h dense low some high = record {
    few = is.few;
    room = length-set slices depth slice ∙ is.room;
    as_much = length-set ends depth until ∙ is.as_much;
    short = omega (arith, h);
    dense = All-set (λ (s : Slice). length s.form ≡ columns) slices depth slice dense is.dense;
    in_hand = subst (All IsInHand) (sym (pushed slices ends depth slice until (omega (arith, h, is.room)) (omega (arith, h, is.as_much))))
        (All-cons IsInHand (made slice until) (splits_of slices ends depth) (record { low = low; some = some; high = high }) is.in_hand);
  }

  pub stack_popped : (depth : ℕ) → IsStack columns slices ends (suc depth) → IsStack columns slices ends depth
  stack_popped depth is = record {
    few = is.few;
    room = is.room;
    as_much = is.as_much;
    short = omega (arith, is.short);
    dense = is.dense;
    in_hand = All-tail IsInHand (split_at slices ends depth) (splits_of slices ends depth) is.in_hand;
  }

  pub stack_stepped : (depth : ℕ) (slice : Slice) → IsStack columns slices ends (suc depth) → length slice.form ≡ columns → neg_ℤ (pos (2 ^ 97)) ≤ℤ slice.beta → slice.beta <ℤ get_or ends depth (pos 0)
      → IsStack columns (set slices depth slice) ends (suc depth)
  stack_stepped depth slice is dense low some =
      let last : IsInHand (split_at slices ends depth) = All-head IsInHand (split_at slices ends depth) (splits_of slices ends depth) is.in_hand in
      let rest = All-tail IsInHand (split_at slices ends depth) (splits_of slices ends depth) is.in_hand in record {
        few = is.few;
        room = length-set slices depth slice ∙ is.room;
        as_much = is.as_much;
        short = is.short;
        dense = All-set (λ (s : Slice). length s.form ≡ columns) slices depth slice dense is.dense;
        in_hand = subst (All IsInHand) (sym (stepped slices ends depth slice (omega (arith, is.room, is.short))))
            (All-cons IsInHand (made slice (get_or ends depth (pos 0))) (splits_of slices ends depth) (record { low = low; some = some; high = last.high }) rest);
      }

  -- the innermost split
  pub last_split : (depth : ℕ) → IsStack columns slices ends (suc depth) → IsInHand (split_at slices ends depth) × (length (slice_at slices depth).form ≡ columns)
  last_split depth is = (
    All-head IsInHand (split_at slices ends depth) (splits_of slices ends depth) is.in_hand,
    All-get_or (λ (s : Slice). length s.form ≡ columns) slices depth (record { form = []; beta = pos 0 }) (omega (arith, is.room, is.short)) is.dense,
  )

-- ---- what is behind a node

-- behind the last slice of the innermost split is what is behind that split
pub behind_last : (claimed : Claim) (split : OpenSplit) (splits : List OpenSplit) → split.value +ℤ pos 1 ≡ split.until → behind claimed (split ∷ splits) ≡ behind claimed splits
behind_last claimed split splits e =
    ap (λ b. if b then behind claimed splits else at_node claimed (record { form = split.form; value = split.value +ℤ pos 1; until = split.until } ∷ splits)) ((Decides-int_eq (split.value +ℤ pos 1) split.until).1 e)

-- behind another one is the next
pub behind_other : (claimed : Claim) (split : OpenSplit) (splits : List OpenSplit) → split.value +ℤ pos 1 ≢ split.until
    → behind claimed (split ∷ splits) ≡ at_node claimed (record { form = split.form; value = split.value +ℤ pos 1; until = split.until } ∷ splits)
behind_other claimed split splits other =
    ap (λ b. if b then behind claimed splits else at_node claimed (record { form = split.form; value = split.value +ℤ pos 1; until = split.until } ∷ splits)) (by (int_eq (split.value +ℤ pos 1) split.until) refl)
  where
    by : (b : Bool) → int_eq (split.value +ℤ pos 1) split.until ≡ b → b ≡ false
    by true e = absurd (other ((Decides-int_eq (split.value +ℤ pos 1) split.until).0 e))
    by false e = refl

-- ---- one step behind

-- the innermost split, with the slice and the end that are read of it
module _ (columns : ℕ) (slices : List Slice) (ends : List ℤ) (depth last : ℕ) (counted : depth ≡ suc last) (is : IsStack columns slices ends depth)
    (slice : Slice) (read : slice ≡ get_or slices last slice) (end : ℤ) (read_end : end ≡ get_or ends last end) where
  whole : IsStack columns slices ends (suc last)
  whole = subst (IsStack columns slices ends) counted is

  within : last < length slices
  within = omega (arith, whole.room, whole.short)

  within_ends : last < length ends
  within_ends = omega (arith, whole.as_much, whole.short)

  there : slice ≡ slice_at slices last
  there = get_or_read slices last slice within read (record { form = []; beta = pos 0 })

  end_there : end ≡ get_or ends last (pos 0)
  end_there = get_or_read ends last end within_ends read_end (pos 0)

  of_last : IsInHand (made slice end)
  of_last =
      let same : split_at slices ends last ≡ made slice end = sym (ap (λ (s : Slice). made s (get_or ends last (pos 0))) there) ∙ sym (ap (made slice) end_there) in
      subst IsInHand same (last_split columns slices ends last whole).0

  pub step_bounds : (neg_ℤ (pos (2 ^ 97)) ≤ℤ slice.beta) × (slice.beta <ℤ end) × (end ≤ℤ pos (2 ^ 99))
  step_bounds = (of_last.low, of_last.some, of_last.high)

  split_is : splits_of slices ends depth ≡ made slice end ∷ splits_of slices ends last
  split_is =
      ap (splits_of slices ends) counted
      ∙ ap (λ (split : OpenSplit). split ∷ splits_of slices ends last) (sym (ap (λ (s : Slice). made s (get_or ends last (pos 0))) there) ∙ sym (ap (made slice) end_there))

  pub step_stack : slice.beta +ℤ pos 1 ≢ end → IsStack columns (set slices last (record { form = slice.form; beta = slice.beta +ℤ pos 1 })) ends depth
  step_stack other =
      subst (IsStack columns (set slices last (record { form = slice.form; beta = slice.beta +ℤ pos 1 })) ends) (sym counted)
      (stack_stepped columns slices ends last (record { form = slice.form; beta = slice.beta +ℤ pos 1 }) whole
      (subst (λ (s : Slice). length s.form ≡ columns) (sym there) (last_split columns slices ends last whole).1)
      (omega (arith, ints, of_last.low))
      (subst (λ e. (slice.beta +ℤ pos 1) <ℤ e) end_there (omega (arith, ints, of_last.some, other))))

  pub step_behind : (claimed : Claim) → slice.beta +ℤ pos 1 ≢ end
      → behind claimed (splits_of slices ends depth) ≡ at_node claimed (splits_of (set slices last (record { form = slice.form; beta = slice.beta +ℤ pos 1 })) ends depth)
  step_behind claimed other =
      ap (behind claimed) split_is
      ∙ behind_other claimed (made slice end) (splits_of slices ends last) other
      ∙ ap (at_node claimed) (
      ap (λ e. made (record { form = slice.form; beta = slice.beta +ℤ pos 1 }) e ∷ splits_of slices ends last) end_there
      ∙ sym (stepped slices ends last (record { form = slice.form; beta = slice.beta +ℤ pos 1 }) within)
      ∙ sym (ap (splits_of (set slices last (record { form = slice.form; beta = slice.beta +ℤ pos 1 })) ends) counted)
      )

  unchanged : set slices last slice ≡ slices
  unchanged = ap (set slices last) there ∙ set-get_or slices last (record { form = []; beta = pos 0 })

  pub leave_stack : IsStack columns (set slices last slice) ends last
  leave_stack = subst (λ s. IsStack columns s ends last) (sym unchanged) (stack_popped columns slices ends last whole)

  pub leave_behind : (claimed : Claim) → slice.beta +ℤ pos 1 ≡ end → behind claimed (splits_of slices ends depth) ≡ behind claimed (splits_of (set slices last slice) ends last)
  leave_behind claimed same =
      ap (behind claimed) split_is
      ∙ behind_last claimed (made slice end) (splits_of slices ends last) same
      ∙ ap (λ s. behind claimed (splits_of s ends last)) (sym unchanged)

-- numbers of this size fit 128 bits
pub fits : (z : ℤ) → neg_ℤ (pos (2 ^ 99)) ≤ℤ z → z ≤ℤ pos (2 ^ 100) → SFits w128 z
fits z low high = omega (arith, ints, low, high)

-- ---- one split more

module _ (columns : ℕ) (slices : List Slice) (ends : List ℤ) (depth : ℕ) (is : IsStack columns slices ends depth) (form : List ℤ) (from until : ℤ) (room : depth < 2 * columns) where
  pub enter_stack : length form ≡ columns → neg_ℤ (pos (2 ^ 97)) ≤ℤ from → from <ℤ until → until ≤ℤ pos (2 ^ 99) → IsStack columns (set slices depth (record { form = form; beta = from })) (set ends depth until) (depth + 1)
  enter_stack dense low some high =
      rw add-one (stack_pushed columns slices ends depth (record { form = form; beta = from }) until is room dense low some high)

  pub enter_splits : splits_of (set slices depth (record { form = form; beta = from })) (set ends depth until) (depth + 1) ≡ record { form = form; value = from; until = until } ∷ splits_of slices ends depth
  enter_splits = rw add-one (pushed slices ends depth (record { form = form; beta = from }) until (omega (arith, is.room, room)) (omega (arith, is.as_much, room)))
