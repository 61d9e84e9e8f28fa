-- The places of nodes that are excused.
use Rattle.std.proofs.Common.{◌+◌, List, [], sym, subst, Result, Ok, Err}
use Rattle.std.specs.Prelude.{None, IfOk}
use Rattle.whole_rows.specs.WholeRows.{WholeRows}
use Rattle.farkas_rows.specs.declared.path.Slice.{Slice}
use Rattle.reformulate.specs.declared.outcome.FrameExcuse.{FrameExcuse}
use Rattle.exact_nodes.specs.PathExcuses.{IsExcused, IsExcusedSlice}
use Rattle.exact_nodes.specs.declared.excuse.Excuse.{Excuse}
use Rattle.exact_nodes.specs.declared.excuse.Excuse.TheVariants.{Frame}
use Rattle.slice_branch.specs.Places.{IsRootPlace, IsSlicePlace}
use Rattle.slice_branch.specs.PlainPlaces.{IsPlainPlace}
use Rattle.slice_branch.specs.declared.place.Node.{Node}
use Rattle.slice_branch.specs.declared.place.Place.{Place}
use Rattle.slice_branch.specs.declared.place.Place.TheVariants.{Settled, Framed, Plain}

-- that of a root
pub plain_root : {E : Type 0} (rows : WholeRows) (excuse : Excuse) (made : Result Place E) → IsExcused rows [] None excuse → IfOk made (IsPlainPlace excuse 0) → IfOk made (IsRootPlace rows)
plain_root rows excuse (Err e) excused is = tt
plain_root rows excuse (Ok (Settled move)) excused is = absurd is
plain_root rows excuse (Ok (Framed node)) excused is = absurd is
plain_root rows excuse (Ok (Plain node)) excused is = (is.1, subst (IsExcused rows [] None) (sym is.0) excused)

-- that of a slice of a node with a frame
pub plain_slice : {E : Type 0} (rows : WholeRows) (node : Node) (slice : Slice) (stop : FrameExcuse) (There : List Slice → Type 0) (made : Result Place E) → ((path : List Slice) → There path → IsExcusedSlice rows path node.frame slice stop)
    → IfOk made (IsPlainPlace (Frame stop) (node.depth + 1)) → IfOk made (λ place. (path : List Slice) → There path → IsSlicePlace rows node path slice place)
plain_slice rows node slice stop There (Err e) excused is = tt
plain_slice rows node slice stop There (Ok (Settled move)) excused is = absurd is
plain_slice rows node slice stop There (Ok (Framed child)) excused is = absurd is
plain_slice rows node slice stop There (Ok (Plain child)) excused is = λ path there. (is.1, (stop, is.0, excused path there))
