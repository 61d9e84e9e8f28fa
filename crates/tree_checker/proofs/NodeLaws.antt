-- Why a line at a node's place is none.
use Rattle.std.proofs.Common.{◌≡◌, ◌≢◌, ℕ, List, ◌∷◌, codes, get_or, None, refl, sym, ap, ◌∙◌, arith, inl, inr}
use Rattle.whole_rows.specs.WholeRows.{WholeRows}
use Rattle.proof_text.specs.declared.claim.Claim.{Claim}
use Rattle.proof_text.specs.Shapes.{HasLineShape, HasSplitShape}
use Rattle.proof_text.specs.PrintedShapes.{spelled_line-shape}
use Rattle.tree_checker.specs.declared.verdict.RejectKind.{RejectKind}
use Rattle.tree_checker.specs.declared.verdict.RejectKind.TheVariants as kinds
use Rattle.tree_checker.specs.Accepts.{last_of}
use Rattle.tree_checker.specs.Lines.{IsFaultOn}
use Rattle.tree_checker.specs.Stages.{OpenSplit, path_of}
use Rattle.tree_checker.specs.Faults.{IsNodeFault}

-- a split does not begin like a line of multipliers
no_split : (text rest : List ℕ) → text ≡ 69 ∷ rest → HasSplitShape text → ⊥
no_split text rest e shape = omega (arith, ap (λ line. get_or line 0 0) (sym e ∙ shape.spelled))

module _ (rows : WholeRows) (claimed : Claim) (splits : List OpenSplit) (text : List ℕ) where
  shape_of : (kind : RejectKind) → kind ≢ kinds.Record → IsFaultOn rows (last_of rows claimed) (path_of splits) None (codes "E") text kind → HasLineShape (codes "E") text
  shape_of kinds.Record other h = absurd (other refl)
  shape_of kinds.Number other h = h.0
  shape_of kinds.Weight other h = spelled_line-shape rows (path_of splits) None (codes "E") text h.0 h.1.0 h.1.1
  shape_of kinds.Cut other h = spelled_line-shape rows (path_of splits) None (codes "E") text h.0 h.1.0 h.1.1
  shape_of kinds.Refute other h = spelled_line-shape rows (path_of splits) None (codes "E") text h.0 h.1.0 h.1.1
  shape_of kinds.LongLine other h = absurd h
  shape_of kinds.Short other h = absurd h
  shape_of kinds.Tail other h = absurd h
  shape_of kinds.Head other h = absurd h
  shape_of kinds.Claim other h = absurd h
  shape_of kinds.Point other h = absurd h
  shape_of kinds.Depth other h = absurd h

  -- a line that begins like one of multipliers is judged as one
  pub leaf_fault : (rest : List ℕ) → text ≡ 69 ∷ rest → (kind : RejectKind) → IsFaultOn rows (last_of rows claimed) (path_of splits) None (codes "E") text kind → IsNodeFault rows claimed splits text kind
  leaf_fault rest e kinds.Record h = inr (inr (refl, h, no_split text rest e))
  leaf_fault rest e kinds.Number h = inl (h.0, h)
  leaf_fault rest e kinds.Weight h = inl (shape_of kinds.Weight (λ k. absurd cc) h, h)
  leaf_fault rest e kinds.Cut h = inl (shape_of kinds.Cut (λ k. absurd cc) h, h)
  leaf_fault rest e kinds.Refute h = inl (shape_of kinds.Refute (λ k. absurd cc) h, h)
  leaf_fault rest e kinds.LongLine h = absurd h
  leaf_fault rest e kinds.Short h = absurd h
  leaf_fault rest e kinds.Tail h = absurd h
  leaf_fault rest e kinds.Head h = absurd h
  leaf_fault rest e kinds.Claim h = absurd h
  leaf_fault rest e kinds.Point h = absurd h
  leaf_fault rest e kinds.Depth h = absurd h
