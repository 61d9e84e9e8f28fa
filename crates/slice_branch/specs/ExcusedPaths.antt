-- Nodes that are split by single columns, because such a node has an excuse, or one above it.
use Rattle.std.proofs.Common.{◌≡◌, ℤ, List, [], ◌∷◌, ◌++◌, append_assoc, refl, sym, ◌∙◌, ap, arith}
use Rattle.std.specs.Prelude.{Option, Some, None}
use Rattle.std.proofs.lemmas.Int.{ints}
use Rattle.std.proofs.lemmas.List.{append-nil}
use Rattle.whole_rows.specs.WholeRows.{WholeRows}
use Rattle.farkas_rows.specs.declared.path.Slice.{Slice}
use Rattle.proof_tree.specs.Moves.{IsNoHigher, IsValueOfPoint}
use Rattle.reformulate.specs.Substitutions.{Substitution}
use Rattle.reformulate.specs.declared.outcome.FrameExcuse.{FrameExcuse}
use Rattle.exact_nodes.specs.PathExcuses.{IsExcused, IsExcusedAbove, IsExcusedSlice}
use Rattle.exact_nodes.specs.PathExcuses.IsExcused.{slice}
use Rattle.exact_nodes.specs.declared.excuse.Excuse.{Excuse}
use Rattle.exact_nodes.specs.declared.excuse.Excuse.TheVariants.{Frame}

-- the node at the end of the path is excused, or one above it
abbrev pub IsExcusedPath : WholeRows → List Slice → Option ℤ → Type 0
IsExcusedPath rows path best = (excuse : Excuse) × IsExcusedAbove rows path best excuse

-- the excuse is that this slice of the frame, which is one of the node, has none
abbrev pub IsExcusedBySlice : WholeRows → List Slice → Substitution → Slice → Excuse → Type 0
IsExcusedBySlice rows path frame last excuse = (stop : FrameExcuse) × (excuse ≡ Frame stop) × IsExcusedSlice rows path frame last stop

-- no value is higher than itself
pub not_higher : (value : Option ℤ) → IsNoHigher value value
not_higher None = tt
not_higher (Some x) = omega (arith, ints)

-- nor than one that is not lower than one that it is no higher than
pub no_higher : (now between before : Option ℤ) → IsNoHigher now between → IsNoHigher between before → IsNoHigher now before
no_higher now between None a b = tt
no_higher now None (Some z) a b = absurd b
no_higher None (Some y) (Some z) a b = absurd a
no_higher (Some x) (Some y) (Some z) a b = omega (arith, ints, a, b)

-- an excuse of the node itself, under a value that a point has
pub excused_here : (rows : WholeRows) (path : List Slice) (best : Option ℤ) (excuse : Excuse) → IsValueOfPoint rows best → IsExcused rows path best excuse → IsExcusedAbove rows path best excuse
excused_here rows path best excuse value h = record {
  node = path;
  rest = [];
  joined = sym (append-nil path);
  under = best;
  of_point = value;
  not_lower = not_higher best;
  excused = h;
}

-- an excuse holds under each lower best value
pub excused_lower : (rows : WholeRows) (path : List Slice) (now before : Option ℤ) (excuse : Excuse) → IsNoHigher now before → IsExcusedAbove rows path before excuse → IsExcusedAbove rows path now excuse
excused_lower rows path now before excuse lower h = record {
  node = h.node;
  rest = h.rest;
  joined = h.joined;
  under = h.under;
  of_point = h.of_point;
  not_lower = no_higher now before h.under lower h.not_lower;
  excused = h.excused;
}

-- and below the node
pub excused_below : (rows : WholeRows) (path more : List Slice) (best : Option ℤ) (excuse : Excuse) → IsExcusedAbove rows path best excuse → IsExcusedAbove rows (path ++ more) best excuse
excused_below rows path more best excuse h = record {
  node = h.node;
  rest = h.rest ++ more;
  joined = ap (λ (l : List Slice). l ++ more) h.joined ∙ append_assoc h.node h.rest more;
  under = h.under;
  of_point = h.of_point;
  not_lower = h.not_lower;
  excused = h.excused;
}

-- a slice that has no frame is excused, whatever the best value is
pub excused_slice : (rows : WholeRows) (path : List Slice) (frame : Substitution) (last : Slice) (excuse : Excuse) → IsExcusedBySlice rows path frame last excuse → (best : Option ℤ) → IsExcusedAbove rows (path ++ last ∷ []) best excuse
excused_slice rows path frame last excuse h best =
    excused_lower rows (path ++ last ∷ []) best None excuse tt (excused_here rows (path ++ last ∷ []) None excuse tt (slice h.0 h.1 (record { before = path; slice = last; ends = refl; frame = frame; excused = h.2 })))
