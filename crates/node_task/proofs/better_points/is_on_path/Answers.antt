use Rattle.std.proofs.Common.{◌≡◌, ℤ, List, refl, subst, arith}
use Rattle.std.specs.List.{All}
use Rattle.std.proofs.lemmas.List.{take_all}
use Rattle.std.proofs.lemmas.List.Elements.{All-more}
use Rattle.exact_math.specs.Ring.{integers}
use Rattle.exact_vectors.specs.Vectors.{dot}
use Rattle.farkas_rows.specs.declared.path.Slice.{Slice}
use Rattle.node_task.proofs.better_points.is_on_path.Goals as goal

-- the values lie on the slice
abbrev Lies : List ℤ → Slice → Type 0
Lies x slice = dot integers slice.form x ≡ slice.beta

pub loop-slice-preserved : goal.loop-slice-preserved
loop-slice-preserved c =
    All-more (Lies c.args.x.now) c.items-slices.result.now c.loop-slice.slice-index c.slice-item.result (omega arith) c.loop-slice.invariant
    (subst (Lies c.args.x.now) c.slice-item.is (c.if-not-lies_on.ensures refl))

pub returns : goal.returns
returns c =
    let whole = take_all c.loop-slice.slice-index c.items-slices.result.now c.loop-slice-test.false in
    λ _. subst (All (Lies c.args.x.now)) c.items-slices.ensures (subst (All (Lies c.args.x.now)) whole c.loop-slice.invariant)
