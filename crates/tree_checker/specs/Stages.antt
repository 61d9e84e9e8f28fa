-- Where a line of a proof text stands.
use Rattle.std.specs.Prelude.{ℤ, pos, ◌+ℤ◌, if◌then◌else◌, List, [], ◌∷◌}
use Rattle.std.specs.Ordering.{int_eq}
use Rattle.farkas_rows.specs.declared.path.Slice.{Slice}
use Rattle.proof_tree.specs.declared.tree.Mark.{Mark}
use Rattle.proof_tree.specs.Trees.{on_slice}
use Rattle.proof_text.specs.declared.claim.Claim.{Claim}

-- a split that is not finished: its form, the value of the slice in hand, and the value behind its last slice
pub record OpenSplit : Type 0 where
  pub form : List ℤ
  pub value : ℤ
  pub until : ℤ

-- the first line of a split, whose two ends are still to be closed
pub record Opening : Type 0 where
  pub mark : Mark
  pub form : List ℤ
  pub lo : ℤ
  pub count : ℤ

-- what the next line is to be: the head, the claim, the line of a node below these splits (the innermost first), the
-- line of an end of a split there, or `DONE`; or no line is to come
pub data Stage : Type 0 where
  at_head : Stage
  at_claim : Stage
  at_node : Claim → List OpenSplit → Stage
  at_below : Claim → List OpenSplit → Opening → Stage
  at_above : Claim → List OpenSplit → Opening → Stage
  at_done : Claim → Stage
  at_end : Claim → Stage

-- the path of a node below these splits: the slice in hand of each, the outermost first
abbrev pub path_of : List OpenSplit → List Slice
path_of [] = []
path_of (split ∷ splits) = on_slice (path_of splits) split.form split.value

-- behind a node: the next slice of the innermost split that has one, or the end
abbrev pub behind : Claim → List OpenSplit → Stage
behind claimed [] = at_done claimed
behind claimed (split ∷ splits) = if int_eq (split.value +ℤ pos 1) split.until then behind claimed splits else at_node claimed (record { form = split.form; value = split.value +ℤ pos 1; until = split.until } ∷ splits)

-- behind the ends of a split: its first slice, or what is behind the node where it has none
abbrev pub into : Claim → List OpenSplit → Opening → Stage
into claimed splits opening = if int_eq opening.count (pos 0) then behind claimed splits else at_node claimed (record { form = opening.form; value = opening.lo; until = opening.lo +ℤ opening.count } ∷ splits)
