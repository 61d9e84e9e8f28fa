-- The open splits as they lie in two lists, the outermost first.
use Rattle.std.specs.Prelude.{◌≡◌, ℕ, zero, suc, ◌*◌, ◌^◌, ◌≤◌, ℤ, pos, neg_ℤ, ◌≤ℤ◌, ◌<ℤ◌, Bool, true, false, List, [], ◌∷◌, length, All, slice_index_or}
use Rattle.farkas_rows.specs.declared.path.Slice.{Slice}
use Rattle.farkas_rows.specs.Refutes.{HasForms}
use Rattle.proof_text.specs.declared.claim.Claim.{Claim}
use Rattle.tree_checker.specs.Stages.{OpenSplit, Stage, at_node, at_done}

-- the open splits over so many columns, the innermost first
pub record Stack : Type 0 where
  pub columns : ℕ
  pub splits : List OpenSplit

-- the slice of this number
abbrev pub slice_at : List Slice → ℕ → Slice
slice_at slices i = slice_index_or slices i (record { form = []; beta = pos 0 })

-- the split of this number: the slice in hand, and the value behind the last one
abbrev pub split_at : List Slice → List ℤ → ℕ → OpenSplit
split_at slices ends i = record { form = (slice_at slices i).form; value = (slice_at slices i).beta; until = slice_index_or ends i (pos 0) }

-- the first so many of them, the last one first
abbrev pub splits_of : List Slice → List ℤ → ℕ → List OpenSplit
splits_of slices ends zero = []
splits_of slices ends (suc depth) = split_at slices ends depth ∷ splits_of slices ends depth

-- a slice is in hand, and the numbers are small
pub record IsInHand (split : OpenSplit) : Type 0 where
  pub low : neg_ℤ (pos (2 ^ 97)) ≤ℤ split.value
  pub some : split.value <ℤ split.until
  pub high : split.until ≤ℤ pos (2 ^ 99)

-- there is room for two splits for each column, each form has a factor for each column, and of each open split a slice is in hand
pub record IsStack (columns : ℕ) (slices : List Slice) (ends : List ℤ) (depth : ℕ) : Type 0 where
  pub few : columns ≤ 256
  pub room : length slices ≡ 2 * columns
  pub as_much : length ends ≡ 2 * columns
  pub short : depth ≤ 2 * columns
  pub dense : HasForms columns slices
  pub in_hand : All IsInHand (splits_of slices ends depth)

-- a slice is left below these splits, or none is
abbrev pub stage_behind : Claim → Bool → List OpenSplit → Stage
stage_behind claimed true splits = at_node claimed splits
stage_behind claimed false splits = at_done claimed
